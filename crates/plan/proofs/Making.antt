-- What has the making of a plan stored, and what is still to come? Assumes nothing.
use mathlib.Core.Path.{◌∙◌, ◌≡◌, ap, ap₂, refl, subst, sym}
use mathlib.Core.Bool.{Bool, ◌&&◌, cond, false, true}
use mathlib.Core.List.{List, [], ◌∷◌, ◌++◌, append_assoc, map}
use Prim.Native.Nat.{◌+◌, ◌-◌, ◌<◌, ◌≤◌, ℕ}
use native.Mathlib.Nat.{sub-zero}
use native.Mathlib.Omega.{arith}
use lib.Dec.{eqb}
use lib.ListN.{length, length-append, length-map, replicate, take}
use lib.Seq.{ext_get_or, length-take-le}
use Rattle.bank.proofs.Limits.{limits→allowed, Allowed}
use Rattle.bank.specs.Geometry.{in_limits}
use Rattle.bank.specs.Limits.{PASSES, ROWS}
use Rattle.bank.specs.declared.Geometry.{Geometry}
use Rattle.algebra.specs.Matrix.{after, columns, identity, is_identity, singular}
use Rattle.algebra.specs.Vector.{comb}
use Rattle.algebra.proofs.Columns.{columns-length, identity_at, identity-length}
use Rattle.algebra.proofs.Linear.{comb_one, after-length, after_at}
use Rattle.algebra.proofs.Lists.{All}
use Rattle.algebra.proofs.Rank.{rank-le}
use Rattle.planning.specs.Columns.{phi}
use Rattle.planning.specs.Making.{busy, first_after, operations, pass_matrices, passes_for, passes_made, round_left, round_pass, rounds}
use Rattle.planning.specs.Pass.{Pass, complemented}
use Rattle.planning.specs.Facts.{nonzero}
use Rattle.planning.specs.Stored.{plan_for, plan_of}
use Rattle.planning.specs.declared.Plan.{Plan}
use Rattle.planning.proofs.Made.{complemented-length, made_few}
use Rattle.planning.proofs.Round.{next_nonzero, next_ready}
use Rattle.planning.proofs.Rounds.{Good, busy_some, complemented_more, round_good, rounds_go, rounds_good, rounds-length, rounds_stop}
use Rattle.planning.proofs.Run.{first_length, moved_nonzero, moved_ready}
use Rattle.planning.proofs.Step2.{operations-length, operations-inverse}
use Rattle.rounds.proofs.Products.{take_front}
use Rattle.store.specs.Store.{with_pass}
use Rattle.store.proofs.Storing.{stored_more}
use Rattle.planning.specs.Inner.{RoundReady}

-- A times the identity is A
after-identity : (n : ℕ) (a : List ℕ) → length a ≡ n → after a (identity n) ≡ a
after-identity n a e =
    ext_get_or 0 (after a (identity n)) a (long ∙ sym e)
    (λ j h. after_at a (identity n) j ∙ ap (comb a) (identity_at n j (subst (λ (k : ℕ). j < k) long h)) ∙ comb_one a j)
  where
    long : length (after a (identity n)) ≡ n
    long = after-length a (identity n) ∙ identity-length n

-- so passes stay as they are after it
first_identity : (n b m : ℕ) (ps : List (List ℕ)) → All (Good n b m) ps → first_after ps (identity n) ≡ ps
unfolding first_after
first_identity n b m [] g = refl
first_identity n b m (p ∷ ps) g = ap (λ (l : List ℕ). l ∷ ps) (after-identity n p g.0.long)

-- ---- the passes still to come: at most k rounds, the first after Q, and then what stays
abbrev pub ahead : ℕ → ℕ → ℕ → ℕ → List ℕ → List ℕ → ℕ → List Pass
ahead k n b m cols q c = complemented (map (columns n) (first_after (rounds k n b m cols) q)) c

-- p passes of all are stored, and the others are those of cols and Q
pub record Making (g : Geometry) (blanks : Bool) (n b m c : ℕ) (all : List Pass) (plan : Plan) (cols q : List ℕ) (p : ℕ) : Type 0 where
  pub below : b < m
  pub memory_below : m < n
  pub wide : n ≤ ROWS
  pub few : length all ≤ PASSES
  pub done : List Pass
  pub counted : length done ≡ p
  pub stored : plan ≡ plan_of (record { geometry = g; blanks = blanks; passes = done })
  pub comes : done ++ ahead (m - p) n b m cols q c ≡ all
  pub ready : RoundReady n m cols
  pub q_long : length q ≡ n
  pub enough : nonzero m cols ≤ m - p

module _ {g : Geometry} {blanks : Bool} {n b m c : ℕ} {all : List Pass} {plan : Plan} {cols q : List ℕ} {p : ℕ} (k : Making g blanks n b m c all plan cols q p) where
  low : b ≤ m
  low = omega (arith, k.below)

  high : m ≤ n
  high = omega (arith, k.memory_below)

  rounds_some : 0 < length (rounds (m - p) n b m cols)
  rounds_some = omega (arith, rounds-length n b m k.below high (m - p) cols k.ready k.enough)

  -- there is room for one more
  pub make_room : p < PASSES
  make_room =
      omega (
        arith,
        ap length k.comes,
        length-append k.done (ahead (m - p) n b m cols q c),
        complemented-length (map (columns n) (first_after (rounds (m - p) n b m cols) q)) c,
        length-map (first_after (rounds (m - p) n b m cols) q) (columns n),
        first_length (rounds (m - p) n b m cols) q,
        rounds_some,
        k.counted,
        k.few,
      )

  put : (f rows : List ℕ) (e : ℕ) (plan' : Plan) → length f ≡ n → rows ≡ f ++ replicate (ROWS - n) 0 → plan' ≡ with_pass plan p rows e
      → plan' ≡ plan_of (record { geometry = g; blanks = blanks; passes = k.done ++ (record { rows = f; complement = e } ∷ []) })
  put f rows e plan' l h is =
      is ∙ ap (λ (x : Plan). with_pass x p rows e) k.stored
      ∙ ap₂ (λ (i : ℕ) (r : List ℕ). with_pass (plan_of (record { geometry = g; blanks = blanks; passes = k.done })) i r e) (sym k.counted) h
      ∙ sym (stored_more g blanks k.done f e n (omega (arith, make_room, k.counted)) k.wide l)

  module _ (more : busy m cols ≡ true) where
    -- an iteration is left
    pub make_goes : p < m
    make_goes = omega (arith, busy_some m cols more, k.enough)

    abbrev made : List ℕ
    made = round_pass n b m cols

    abbrev next : List ℕ
    next = round_left n b m cols

    made_length : length made ≡ n
    made_length = (round_good n b m low high cols k.ready).long

    still : RoundReady n m next
    still = next_ready n b m low high cols k.ready

    fewer : nonzero m next ≤ m - (p + 1)
    fewer = omega (arith, next_nonzero n b m low high cols k.ready, busy_some m cols more, k.enough)

    comes_once : record { rows = columns n (after made q); complement = 0 } ∷ ahead (m - (p + 1)) n b m next (identity n) c ≡ ahead (m - p) n b m cols q c
    unfolding first_after
    comes_once =
        ap (λ (l : List (List ℕ)). record { rows = columns n (after made q); complement = 0 } ∷ complemented (map (columns n) l) c)
        (first_identity n b m (rounds (m - (p + 1)) n b m next) (rounds_good n b m k.below high (m - (p + 1)) next still fewer))
        ∙ sym (complemented_more (columns n (after made q)) (map (columns n) (rounds (m - (p + 1)) n b m next)) c
        (omega (arith, length-map (rounds (m - (p + 1)) n b m next) (columns n), rounds-length n b m k.below high (m - (p + 1)) next still fewer)))
        ∙ ap (λ (l : List (List ℕ)). complemented (map (columns n) (first_after l q)) c) (sym (rounds_go (m - (p + 1)) n b m cols more))
        ∙ ap (λ (i : ℕ). ahead i n b m cols q c) (omega (arith, make_goes))

    -- what the round stores, and leaves
    pub make_once : (pass left unit rows : List ℕ) (plan' : Plan)
        → pass ≡ round_pass (length cols) b m cols ++ replicate (ROWS - length cols) 0
        → left ≡ round_left (length cols) b m cols ++ replicate (ROWS - length cols) 0
        → unit ≡ identity n ++ replicate (ROWS - n) 0
        → rows ≡ columns (length q) (after (take n pass) q) ++ replicate (ROWS - length q) 0
        → plan' ≡ with_pass plan p rows 0
        → Making g blanks n b m c all plan' (take n left) (take n unit) (p + 1)
    make_once pass left unit rows plan' e1 e2 e3 e4 e5 =
        let x : Pass = record { rows = columns n (after made q); complement = 0 } in
        let room : List ℕ = replicate (ROWS - n) 0 in
        let pass_is : take n pass ≡ made
        = take_front n pass made room made_length (e1 ∙ ap (λ (i : ℕ). round_pass i b m cols ++ replicate (ROWS - i) 0) k.ready.long) in
        let left_is : take n left ≡ next
        = take_front n left next room still.long (e2 ∙ ap (λ (i : ℕ). round_left i b m cols ++ replicate (ROWS - i) 0) k.ready.long) in
        let unit-is : take n unit ≡ identity n = take_front n unit (identity n) room (identity-length n) e3 in
        let rows_are : rows ≡ columns n (after made q) ++ room
        = e4 ∙ ap₂ (λ (i : ℕ) (l : List ℕ). columns i (after l q) ++ replicate (ROWS - i) 0) k.q_long pass_is in
        record {
          below = k.below;
          memory_below = k.memory_below;
          wide = k.wide;
          few = k.few;
          done = k.done ++ (x ∷ []);
          counted = length-append k.done (x ∷ []) ∙ ap (λ (i : ℕ). i + 1) k.counted;
          stored = put (columns n (after made q)) rows 0 plan' (columns-length n (after made q)) rows_are e5;
          comes =
              ap₂ (λ (l u : List ℕ). (k.done ++ (x ∷ [])) ++ ahead (m - (p + 1)) n b m l u c) left_is unit-is
              ∙ append_assoc k.done (x ∷ []) (ahead (m - (p + 1)) n b m next (identity n) c) ∙ ap (λ (l : List Pass). k.done ++ l) comes_once ∙ k.comes;
          ready = subst (RoundReady n m) (sym left_is) still;
          q_long = ap length unit-is ∙ identity-length n;
          enough = subst (λ (l : List ℕ). nonzero m l ≤ m - (p + 1)) (sym left_is) fewer;
        }

  module _ (none : busy m cols ≡ false) where
    pub make_end : (rows : List ℕ) (plan' : Plan) → rows ≡ columns (length q) (after cols q) ++ replicate (ROWS - length q) 0
        → plan' ≡ with_pass plan p rows c → plan' ≡ plan_of (record { geometry = g; blanks = blanks; passes = all })
    unfolding first_after complemented
    make_end rows plan' e is =
        put (columns n (after cols q)) rows c plan' (columns-length n (after cols q))
        (e ∙ ap (λ (i : ℕ). columns i (after cols q) ++ replicate (ROWS - i) 0) k.q_long) is
        ∙ ap (λ (l : List Pass). plan_of (record { geometry = g; blanks = blanks; passes = l }))
        (ap (λ (l : List (List ℕ)). k.done ++ complemented (map (columns n) (first_after l q)) c) (sym (rounds_stop (m - p) n b m cols none)) ∙ k.comes)

-- ---- the order A, c, in the arrays that hold A P and P
module _ (g : Geometry) (rows : List ℕ) (c : ℕ) (blanks : Bool) (inside : in_limits g ≡ true) (long : length rows ≡ g.n)
    (regular : singular g.n rows ≡ false) (cols q : List ℕ)
    (cols-is : cols ≡ after (columns (length rows) rows) (operations (length rows) g.m (columns (length rows) rows)) ++ replicate (ROWS - length rows) 0)
    (q-is : q ≡ operations (length rows) g.m (columns (length rows) rows) ++ replicate (ROWS - length rows) 0) where
  k : Allowed g
  k = limits→allowed g inside

  abbrev n : ℕ
  n = length rows

  abbrev P : List ℕ
  P = operations n g.m (columns n rows)

  abbrev moved : List ℕ
  moved = after (columns n rows) (operations n g.m (columns n rows))

  abbrev all : List Pass
  all = ahead g.m n g.b g.m (take n cols) (take n q) c

  above : g.m < n
  above = omega (arith, k.memory_below)

  hm : g.m ≤ n
  hm = omega (arith, above)

  odd : singular n rows ≡ false
  odd = subst (λ (i : ℕ). singular i rows ≡ false) (sym long) regular

  moved_is : RoundReady n g.m moved
  moved_is = moved_ready n g.b g.m k.block_below hm rows refl odd

  cols_front : take n cols ≡ moved
  cols_front = take_front n cols moved (replicate (ROWS - n) 0) moved_is.long cols-is

  q_front : take n q ≡ P
  q_front = take_front n q P (replicate (ROWS - n) 0) (operations-length n g.m hm (columns n rows)) q-is

  -- at the start all passes are to come
  all_ahead : passes_made g rows c ≡ all
  unfolding pass_matrices
  all_ahead =
      ap (λ (i : ℕ). complemented (pass_matrices i g.b g.m rows) c) (sym long)
      ∙ ap (λ (l : List ℕ). ahead g.m n g.b g.m moved l c) (operations-inverse n g.m hm (columns n rows))
      ∙ sym (ap₂ (λ (l p : List ℕ). ahead g.m n g.b g.m l p c) cols_front q_front)

  start : Making g blanks n g.b g.m c all (plan_of (record { geometry = g; blanks = blanks; passes = [] })) (take n cols) (take n q) 0
  start = record {
    below = k.block_below;
    memory_below = above;
    wide = omega (arith, k.n_high);
    few = subst (λ (l : List Pass). length l ≤ PASSES) all_ahead (made_few g rows c inside long regular);
    done = [];
    counted = refl;
    stored = refl;
    comes = ap (λ (i : ℕ). ahead i n g.b g.m (take n cols) (take n q) c) (sub-zero g.m);
    ready = subst (RoundReady n g.m) (sym cols_front) moved_is;
    q_long = ap length q_front ∙ operations-length n g.m hm (columns n rows);
    enough =
        subst (λ (l : List ℕ). nonzero g.m l ≤ g.m - 0) (sym cols_front)
        (omega (arith, moved_nonzero n g.b g.m k.block_below hm rows refl odd, rank-le (phi g.m (columns n rows)) g.m));
  }

  -- the plan that the passes go into
  module _ (plan : Plan) (e : plan ≡ plan_of (record { geometry = g; blanks = blanks; passes = [] })) where
    pub make_start : Making plan.geometry plan.blanks n g.b g.m c all plan (take n cols) (take n q) 0
    unfolding plan_of
    make_start = subst (λ (x : Plan). Making x.geometry x.blanks n g.b g.m c all x (take n cols) (take n q) 0) (sym e) start

    -- and where all are stored, the plan is made
    pub make_whole : plan_of (record { geometry = plan.geometry; blanks = plan.blanks; passes = all }) ≡ plan_of (record { geometry = g; blanks = blanks; passes = passes_made g rows c })
    unfolding plan_of
    make_whole = ap₂ (λ (x : Plan) (l : List Pass). plan_of (record { geometry = x.geometry; blanks = x.blanks; passes = l })) e (sym all_ahead)

-- an array has n rows at its front
module _ (g : Geometry) (array : List ℕ) (inside : in_limits g ≡ true) (whole : length array ≡ ROWS) where
  pub front_room : g.n ≤ length array
  front_room = omega (arith, (limits→allowed g inside).n_high)

  pub front_long : length (take g.n array) ≡ g.n
  front_long = length-take-le g.n array front_room

-- ---- the order's plan, by the test for an order that moves no record
module _ (g : Geometry) (rows : List ℕ) (c : ℕ) (blanks : Bool) (long : length rows ≡ g.n) where
  pub plan_none : is_identity (length rows) rows && eqb c 0 ≡ true
      → plan_of (record { geometry = g; blanks = blanks; passes = [] }) ≡ plan_for g rows c blanks
  unfolding plan_for passes_for
  plan_none e =
      ap (λ (t : Bool). plan_of (record { geometry = g; blanks = blanks; passes = cond t [] (passes_made g rows c) }))
      (sym (ap (λ (i : ℕ). is_identity i rows && eqb c 0) (sym long) ∙ e))

  pub plan_some : is_identity (length rows) rows && eqb c 0 ≡ false
      → plan_of (record { geometry = g; blanks = blanks; passes = passes_made g rows c }) ≡ plan_for g rows c blanks
  unfolding plan_for passes_for
  plan_some e =
      ap (λ (t : Bool). plan_of (record { geometry = g; blanks = blanks; passes = cond t [] (passes_made g rows c) }))
      (sym (ap (λ (i : ℕ). is_identity i rows && eqb c 0) (sym long) ∙ e))
