-- What do the steps of one memoryload do? Assumes nothing.
use mathlib.Core.Path.{◌∙◌, ◌≡◌, ap, ap₂, refl, subst, sym}
use mathlib.Core.Logic.{⊎_elim}
use mathlib.Core.Bool.{Bool, ◌&&◌, ◌||◌, and-false, cond, false, true}
use mathlib.Core.List.{List}
use Prim.Native.Nat.{◌%◌, ◌*◌, ◌+◌, ◌/◌, ◌<◌, ◌≤◌, suc, ℕ}
use native.Mathlib.Nat.{add-suc, div-add-mod', div-lt_iff_lt-mul, le_of_suc-le-suc, mod-lt}
use native.Mathlib.Omega.{arith}
use borrow.Author.Tests.{eq-eqb, le-ltb, lt-ltb, ne_eqb}
use lib.Arith.{digits_div, digits_lt, digits_mod, lt_of_le-ne}
use lib.Dec.{eqb, ltb}
use lib.Pow.{pow_pos}
use lib.ListN.{get_or, length}
use Rattle.algebra.proofs.Search.{le_or_lt, same_or}
use Rattle.bank.specs.Geometry.{load_at, memory_size, tier_at, tiers}
use Rattle.bank.specs.declared.Geometry.{Geometry}
use Rattle.moving.proofs.Again.{area_memory, area_other, area_same, memory_area, other_area_lem}
use Rattle.moving.proofs.Bytes.{copied_ext, get_or-chosen, get_or-copied, get_or_left, get_or_spared, get_or_stays, get_or-zero, is_each, length-copied, length-zeroed, zeroed_ext, zeroed_more}
use Rattle.moving.proofs.Numbers.{both_test, load_is, load_three, same_digits, tier_lt}
use Rattle.moving.specs.Bytes.{copied, zeroed}
use Rattle.moving.specs.Step.{Buffers, area_read, area_written, blank_move, blank_takes, bytes_of, read_from, read_move, read_takes, source_of, with_bytes, write_from, write_move, write_takes}
use Rattle.planning.specs.Pass.{Pass, Route, load_steps, pass_at}
use Rattle.bank.proofs.Limits.{Allowed}

-- ---- tests

-- what isn't w is below w as it is below the next
ltb-suc : (a w : ℕ) → (a ≡ w → ⊥) → ltb a w ≡ ltb a (suc w)
ltb-suc a w n =
    ⊎_elim (λ (h : w ≤ a). le-ltb a w h ∙ sym (le-ltb a (suc w) (lt_of_le-ne h (λ e. n (sym e)))))
    (λ (h : a < w). lt-ltb a w h ∙ sym (lt-ltb a (suc w) (omega arith)))
    (le_or_lt w a)

-- below or at w is below the next
ltb_more : (a w : ℕ) → eqb a w || ltb a w ≡ ltb a (suc w)
ltb_more a w =
    ⊎_elim
    (λ (e : a ≡ w). rw (eq-eqb a w e, lt-ltb a (suc w) (omega arith)))
    (λ (n : a ≡ w → ⊥). rw (ne_eqb a w n) (ltb-suc a w n))
    (same_or a w)

-- ---- loads of c steps

-- the test of a load and a tier is one of a step, where z steps of the load come before tier 0
taken : (c z L l T t : ℕ) → z + T < c → z + t < c → eqb L l && eqb T t ≡ eqb (L * c + (z + T)) (l * c + (z + t))
taken c z L l T t hT ht =
    sym (both_test L l T t (L * c + (z + T)) (l * c + (z + t)) (ap₂ (λ (i j : ℕ). i * c + (z + j)))
    (λ e. let w = same_digits L l hT ht e in (w.0, omega (arith, w.1))))

-- ---- in a pass

-- the step of the pass that writes record y, whose source is src y
unfoldable pub when : Route → (ℕ → ℕ) → ℕ → ℕ
when route src y = load_at route.geometry (src y) * load_steps route + (tiers route.geometry + tier_at route.geometry y)

-- whether the step that writes record y comes before step w
abbrev pub is_before : Route → (ℕ → ℕ) → ℕ → ℕ → Bool
is_before route src w y = ltb (when route src y) w

-- what the area written holds before step w, where the pass began with A in the area read and T in the other
abbrev pub written_by : Route → (ℕ → ℕ) → List ℕ → List ℕ → ℕ → List ℕ
written_by route src A T w = copied (is_before route src w) src route.geometry.r A T

-- the step of the pass that blanks record x, where the route has blanks
unfoldable pub blanked_at : Route → ℕ → ℕ
blanked_at route x = load_at route.geometry x * load_steps route + (tiers route.geometry + tiers route.geometry + tier_at route.geometry x)

-- whether record x is blanked before step w
abbrev pub is_spent : Route → ℕ → ℕ → Bool
is_spent route w x = route.blanks && ltb (blanked_at route x) w

-- where the route has blanks, the step alone tells
pub spent_is : (route : Route) → route.blanks ≡ true → (w x : ℕ) → is_spent route w x ≡ ltb (blanked_at route x) w
spent_is route e w x = ap (λ (b : Bool). b && ltb (blanked_at route x) w) e

-- up to the step that blanks it, it isn't spent
pub not_yet : (route : Route) (w x : ℕ) → w ≤ blanked_at route x → is_spent route w x ≡ false
not_yet route w x h = ap (λ (t : Bool). route.blanks && t) (le-ltb (blanked_at route x) w h) ∙ and-false route.blanks

-- what the area read holds before step w
abbrev pub left_by : Route → List ℕ → ℕ → List ℕ
left_by route A w = zeroed (is_spent route w) route.geometry.r A

-- where in the area read byte i of load l lies
abbrev in_load : Geometry → ℕ → ℕ → ℕ
in_load g l i = (l * memory_size g + i / g.r) * g.r + i % g.r

-- what holds before step u of load l: memory holds what is read until the writes are done, and zero from a place's blank on
pub record During (route : Route) (src : ℕ → ℕ) (p : ℕ) (A T : List ℕ) (l u : ℕ) (v : Buffers) : Type 0 where
  pub reads : bytes_of (area_read p) v ≡ left_by route A (l * load_steps route + u)
  pub writes : bytes_of (area_written p) v ≡ written_by route src A T (l * load_steps route + u)
  pub long : length v.memory ≡ memory_size route.geometry * route.geometry.r
  pub holds : (i : ℕ) → i < memory_size route.geometry * route.geometry.r → tier_at route.geometry (i / route.geometry.r) < u
      → u ≤ tiers route.geometry + tiers route.geometry → get_or v.memory i 0 ≡ get_or A (in_load route.geometry l i) 0
  pub clear : (i : ℕ) → i < memory_size route.geometry * route.geometry.r
      → tiers route.geometry + tiers route.geometry + tier_at route.geometry (i / route.geometry.r) < u → get_or v.memory i 0 ≡ 0

module _ (route : Route) (ok : Allowed route.geometry) (p : ℕ) (A T : List ℕ) where
  abbrev g : Geometry
  g = route.geometry

  abbrev pass : Pass
  pass = pass_at route p

  abbrev src : ℕ → ℕ
  src y = source_of g pass y

  -- the number in the pass of step u of load l
  abbrev step : ℕ → ℕ → ℕ
  step l u = l * load_steps route + u

  -- a write's place in its load
  write_in : (y : ℕ) → tiers g + tier_at g y < load_steps route
  write_in y = omega (arith, tier_lt g ok y, load_is route ok)

  -- a blank's place in its load
  blank_in : route.blanks ≡ true → (x : ℕ) → tiers g + tiers g + tier_at g x < load_steps route
  blank_in e x = omega (arith, tier_lt g ok x, load_three route ok e)

  -- ---- what stays

  -- a step that isn't a write leaves the area written
  writes_stay : (l u : ℕ) → u < load_steps route → ((y : ℕ) → tiers g + tier_at g y ≡ u → ⊥)
      → written_by route src A T (step l u) ≡ written_by route src A T (step l (suc u))
  unfolding when
  writes_stay l u h n =
      copied_ext src g.r A T (is_before route src (step l u)) (is_before route src (step l (suc u)))
      (λ y. ltb-suc (when route src y) (step l u)
      (λ e. n y (same_digits (load_at g (src y)) l (write_in y) h e).1)
      ∙ ap (ltb (when route src y)) (sym (add-suc (l * load_steps route) u)))

  -- a step that isn't a blank leaves the area read
  reads_stay : (l u : ℕ) → u < tiers g + tiers g → left_by route A (step l u) ≡ left_by route A (step l (suc u))
  unfolding blanked_at
  reads_stay l u h = zeroed_ext g.r A (is_spent route (step l u)) (is_spent route (step l (suc u))) (λ x. by x route.blanks refl)
    where
      in_its_load : u < load_steps route
      in_its_load = omega (arith, load_is route ok)

      by : (x : ℕ) (b : Bool) → route.blanks ≡ b → b && ltb (blanked_at route x) (step l u) ≡ b && ltb (blanked_at route x) (step l (suc u))
      by x false e = refl
      by x true e =
          ltb-suc (blanked_at route x) (step l u)
          (λ q. omega (arith, (same_digits (load_at g x) l (blank_in e x) in_its_load q).1))
          ∙ ap (ltb (blanked_at route x)) (sym (add-suc (l * load_steps route) u))

  -- ---- a read

  -- until the blanks of a load, its bytes are there
  not_spent : (l u i : ℕ) → u ≤ tiers g + tiers g → i < memory_size g * g.r
      → get_or (left_by route A (step l u)) (in_load g l i) 0 ≡ get_or A (in_load g l i) 0
  unfolding blanked_at load_at
  not_spent l u i h b =
      get_or_spared (is_spent route (step l u)) g.r A (in_load g l i)
      (ap (is_spent route (step l u)) (digits_div (l * memory_size g + i / g.r) (mod-lt i ok.r_low))
      ∙ not_yet route (step l u) (l * memory_size g + i / g.r) (omega (arith, ap (λ (k : ℕ). k * load_steps route) its)))
    where
      its : (l * memory_size g + i / g.r) / memory_size g ≡ l
      its = digits_div l ((div-lt_iff_lt-mul ok.r_low).1 b)

  -- one more read done
  pub read_step : (l u : ℕ) (v : Buffers) → u < tiers g → During route src p A T l u v → During route src p A T l (suc u) (read_move g p l u v)
  unfolding read_move read_takes read_from
  read_step l u v h k =
      record {
        reads = memory_area (area_read p) mem v ∙ k.reads ∙ reads_stay l u (omega arith);
        writes = memory_area (area_written p) mem v ∙ k.writes ∙ writes_stay l u (omega (arith, load_is route ok)) (λ y e. omega arith);
        long = length-copied chosen from g.r area v.memory ∙ k.long;
        holds = λ i b q s.
            let tier = tier_at g (i / g.r) in
            let in_memory = subst (λ (n : ℕ). i < n) (sym k.long) b in
            ⊎_elim
            (λ (e : tier ≡ u). get_or-chosen chosen from g.r area v.memory i in_memory (eq-eqb tier u e)
            ∙ ap (λ (a : List ℕ). get_or a (in_load g l i) 0) k.reads ∙ not_spent l u i (omega arith) b)
            (λ (n : tier ≡ u → ⊥). get_or_left chosen from g.r area v.memory i in_memory (ne_eqb tier u n)
            ∙ k.holds i b (lt_of_le-ne (le_of_suc-le-suc q) n) (omega arith))
            (same_or tier u);
        clear = λ i b q. absurd (omega arith);
      }
    where
      chosen : ℕ → Bool
      chosen q = read_takes g u q

      from : ℕ → ℕ
      from q = read_from g l q

      area : List ℕ
      area = bytes_of (area_read p) v

      mem : List ℕ
      mem = copied chosen from g.r area v.memory

  -- ---- a write

  module _ (l t : ℕ) (v : Buffers) (h : t < tiers g) (k : During route src p A T l (tiers g + t) v) where
    abbrev now_step : ℕ
    now_step = step l (tiers g + t)

    abbrev chosen_w : ℕ → Bool
    chosen_w y = write_takes g pass l t y

    abbrev from_w : ℕ → ℕ
    from_w y = write_from g pass y

    abbrev before_w : List ℕ
    before_w = bytes_of (area_written p) v

    abbrev after_w : List ℕ
    after_w = copied chosen_w from_w g.r v.memory before_w

    now_in : tiers g + t < load_steps route
    now_in = omega (arith, load_is route ok)

    -- what this step writes: the records whose step it is
    is_chosen : (y : ℕ) → chosen_w y ≡ eqb (when route src y) now_step
    unfolding when write_takes
    is_chosen y = taken (load_steps route) (tiers g) (load_at g (src y)) l (tier_at g y) t (write_in y) now_in

    load_now : (y : ℕ) → when route src y ≡ now_step → load_at g (src y) ≡ l
    unfolding when
    load_now y e = (same_digits (load_at g (src y)) l (write_in y) now_in e).0

    -- what a record that is written gets: its source's bytes
    from_source : (y j : ℕ) → j < g.r → when route src y ≡ now_step → get_or v.memory (from_w y * g.r + j) 0 ≡ get_or A (src y * g.r + j) 0
    unfolding load_at write_from
    from_source y j hj e =
        k.holds (from_w y * g.r + j) (digits_lt (mod-lt (src y) (pow_pos g.m)) hj)
        (omega (arith, tier_lt g ok ((from_w y * g.r + j) / g.r))) (omega arith)
        ∙ ap₂ (λ (a b : ℕ). get_or A ((l * memory_size g + a) * g.r + b) 0) (digits_div (from_w y) hj) (digits_mod (from_w y) hj)
        ∙ ap (λ (a : ℕ). get_or A (a * g.r + j) 0) (ap (λ (a : ℕ). a * memory_size g + from_w y) (sym (load_now y e)) ∙ div-add-mod' (src y) (memory_size g))

    before_length : length before_w ≡ length T
    before_length = ap length k.writes ∙ length-copied (is_before route src now_step) src g.r A T

    after-length : length after_w ≡ length T
    after-length = length-copied chosen_w from_w g.r v.memory before_w ∙ before_length

    written : after_w ≡ written_by route src A T (suc now_step)
    unfolding copied
    written =
        is_each (λ i x. cond (is_before route src (suc now_step) (i / g.r)) (get_or A (src (i / g.r) * g.r + i % g.r) 0) x) T after_w after-length
        (λ i b. let y = i / g.r in
        let b' = subst (λ (n : ℕ). i < n) (sym before_length) b in
        ⊎_elim
        (λ (e : when route src y ≡ now_step). rw (lt-ltb (when route src y) (suc now_step) (omega arith))
        (get_or-chosen chosen_w from_w g.r v.memory before_w i b' (is_chosen y ∙ eq-eqb (when route src y) now_step e)
        ∙ from_source y (i % g.r) (mod-lt i ok.r_low) e))
        (λ (n : when route src y ≡ now_step → ⊥). rw (← ltb-suc (when route src y) now_step n)
        (get_or_left chosen_w from_w g.r v.memory before_w i b' (is_chosen y ∙ ne_eqb (when route src y) now_step n)
        ∙ ap (λ (l : List ℕ). get_or l i 0) k.writes ∙ get_or-copied (is_before route src now_step) src g.r A T i b))
        (same_or (when route src y) now_step))

    -- one more write done
    pub write_step : During route src p A T l (tiers g + suc t) (write_move g pass p l t v)
    unfolding write_move
    write_step =
        let memory_stays = area_memory (area_written p) after_w v in
        record {
          reads = area_other (area_read p) after_w v ∙ k.reads ∙ reads_stay l (tiers g + t) (omega arith) ∙ ap (left_by route A) (omega arith);
          writes = area_same (area_written p) after_w v ∙ written ∙ ap (written_by route src A T) (omega arith);
          long = ap length memory_stays ∙ k.long;
          holds = λ i b q s. ap (λ (l : List ℕ). get_or l i 0) memory_stays ∙ k.holds i b (omega (arith, tier_lt g ok (i / g.r))) (omega arith);
          clear = λ i b q. absurd (omega arith);
        }

  -- ---- a blank

  -- one more blank done
  pub blank_step : route.blanks ≡ true → (l t : ℕ) (v : Buffers) → t < tiers g → During route src p A T l (tiers g + tiers g + t) v
      → During route src p A T l (tiers g + tiers g + suc t) (blank_move g p l t v)
  unfolding blank_move blank_takes blanked_at read_takes
  blank_step e l t v h k =
      record {
        reads = memory_area (area_read p) mem (with_bytes (area_read p) area v) ∙ area_same (area_read p) area v
            ∙ ap (zeroed (blank_takes g l t) g.r) k.reads
            ∙ zeroed_more g.r A (blank_takes g l t) (is_spent route now) (is_spent route next) spent_next;
        writes = memory_area (area_written p) mem (with_bytes (area_read p) area v) ∙ other_area_lem (area_read p) area v ∙ k.writes
            ∙ writes_stay l (tiers g + tiers g + t) now_in (λ y q. omega (arith, tier_lt g ok y)) ∙ ap (written_by route src A T) (omega arith);
        long = length-zeroed (read_takes g t) g.r v.memory ∙ k.long;
        holds = λ i b q s. absurd (omega arith);
        clear = λ i b q.
            let tier = tier_at g (i / g.r) in
            let in_memory = subst (λ (n : ℕ). i < n) (sym k.long) b in
            ⊎_elim
            (λ (s : tier ≡ t). get_or-zero (read_takes g t) g.r v.memory i in_memory (eq-eqb tier t s))
            (λ (n : tier ≡ t → ⊥). get_or_stays (read_takes g t) g.r v.memory i in_memory (ne_eqb tier t n)
            ∙ k.clear i b (omega (arith, lt_of_le-ne {i = tier} {k = t} (omega arith) n)))
            (same_or tier t);
      }
    where
      now : ℕ
      now = step l (tiers g + tiers g + t)

      next : ℕ
      next = step l (tiers g + tiers g + suc t)

      area : List ℕ
      area = zeroed (blank_takes g l t) g.r (bytes_of (area_read p) v)

      mem : List ℕ
      mem = zeroed (read_takes g t) g.r v.memory

      now_in : tiers g + tiers g + t < load_steps route
      now_in = omega (arith, load_three route ok e)

      -- what was blanked and what is blanked now
      spent_next : (x : ℕ) → blank_takes g l t x || is_spent route now x ≡ is_spent route next x
      spent_next x =
          ap₂ ◌||◌ (taken (load_steps route) (tiers g + tiers g) (load_at g x) l (tier_at g x) t (blank_in e x) now_in) (spent_is route e now x)
          ∙ ltb_more (blanked_at route x) now ∙ ap (ltb (blanked_at route x)) (omega arith) ∙ sym (spent_is route e next x)
