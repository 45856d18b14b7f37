-- What do the steps of one pass do? Assumes nothing.
use mathlib.Core.Path.{◌∙◌, ◌≡◌, ap, ap₂, refl, subst, sym}
use mathlib.Core.Bool.{Bool, cond, false, true}
use mathlib.Core.List.{List, [], ◌∷◌}
use Prim.Native.Nat.{◌*◌, ◌+◌, ◌-◌, ◌/◌, ◌<◌, ◌≤◌, suc, zero, ℕ}
use native.Mathlib.Nat.{add-suc, add-zero, div-lt_iff_lt-mul, le_refl, not-suc-le-zero, suc-mul, zero-mul}
use native.Mathlib.Omega.{arith}
use borrow.Author.Tests.{le-ltb, lt-ltb}
use lib.Arith.{digits_div, digits_lt, digits_mod}
use lib.ListN.{get_or, length}
use lib.Pow.{pow_pos}
use Rattle.bank.specs.Geometry.{loads, memory_size, records, tiers}
use Rattle.bank.specs.declared.Geometry.{Geometry}
use Rattle.moving.proofs.Bytes.{copied_none, get_or-chosen, get_or-zero, length-copied, length-zeroed, zeroed_none}
use Rattle.moving.proofs.Load.{During, blank_step, blanked_at, is_before, is_spent, left_by, not_yet, read_step, spent_is, when, write_step, written_by}
use Rattle.moving.proofs.Moves.{moves_next}
use Rattle.moving.proofs.Numbers.{load_at_lem, load_is, load_lt, load_three, pass_at_lem, pass_is, phase_at_lem, tier_at_lem, tier_lt}
use Rattle.moving.specs.Bytes.{AllZero}
use Rattle.moving.specs.Number.{load_of, pass_of, phase_of, tier_of}
use Rattle.moving.specs.Step.{Buffers, area_read, area_written, blank_move, by_phase, bytes_of, move, moves_from, read_move, source_of, write_move}
use Rattle.planning.specs.declared.Phase.{Phase}
use Rattle.planning.specs.declared.Phase.TheVariants.{Reads, Writes, Blanks}
use Rattle.planning.specs.Pass.{Route, load_steps, pass_at, pass_steps, phases}
use Rattle.bank.proofs.Limits.{Allowed}

-- every record is written in the pass
when_lt : (route : Route) (ok : Allowed route.geometry) (src : ℕ → ℕ) (y : ℕ)
    → src y < records route.geometry → when route src y < loads route.geometry * load_steps route
unfolding when
when_lt route ok src y h = digits_lt (load_lt route.geometry ok (src y) h) (omega (arith, tier_lt route.geometry ok y, load_is route ok))

-- every record is blanked in the pass, where the route has blanks
blanked_lt : (route : Route) (ok : Allowed route.geometry) → route.blanks ≡ true → (x : ℕ)
    → x < records route.geometry → blanked_at route x < loads route.geometry * load_steps route
unfolding blanked_at
blanked_lt route ok e x h =
    digits_lt (load_lt route.geometry ok x h) (omega (arith, tier_lt route.geometry ok x, load_three route ok e))

-- ---- the phases by their numbers

module _ (route : Route) where
  -- the reads and then the writes, blanks or none
  phase_two : (f : ℕ) → f < 2 → get_or (phases route) f Writes ≡ get_or (Reads ∷ Writes ∷ []) f Writes
  unfolding phases
  phase_two f h = by route.blanks f h
    where
      by : (b : Bool) (f : ℕ) → f < 2 → get_or (cond b (Reads ∷ Writes ∷ Blanks ∷ []) (Reads ∷ Writes ∷ [])) f Writes ≡ get_or (Reads ∷ Writes ∷ []) f Writes
      by true zero h = refl
      by true (suc zero) h = refl
      by true (suc (suc f)) h = absurd (omega arith)
      by false f h = refl

  -- then the blanks, where the route has them
  phase_blanks : route.blanks ≡ true → get_or (phases route) 2 Writes ≡ Blanks
  unfolding phases
  phase_blanks e = ap (λ (b : Bool). get_or (cond b (Reads ∷ Writes ∷ Blanks ∷ []) (Reads ∷ Writes ∷ [])) 2 Writes) e

-- a step's move, by its phase and its three numbers
pub move_at : (route : Route) (s : ℕ) (v : Buffers) (f : Phase) (p l t : ℕ)
    → phase_of route s ≡ f → pass_of route s ≡ p → load_of route s ≡ l → tier_of route s ≡ t
    → move route s v
    ≡ by_phase f (read_move route.geometry p l t v) (write_move route.geometry (pass_at route p) p l t v) (blank_move route.geometry p l t v)
unfolding move
move_at route s v f p l t ef ep el et = rw (ef, ep, el, et)

-- the buffers before pass p
abbrev pub before_pass : Route → Buffers → ℕ → Buffers
before_pass route v₀ p = moves_from (move route) 0 (p * pass_steps route) v₀

module _ (route : Route) (ok : Allowed route.geometry) (p : ℕ) (v₀ : Buffers) (A T : List ℕ) where
  abbrev g : Geometry
  g = route.geometry

  abbrev src : ℕ → ℕ
  src y = source_of g (pass_at route p) y

  -- before step u of load l of this pass
  abbrev step_no : ℕ → ℕ → ℕ
  step_no l u = p * pass_steps route + (l * load_steps route + u)

  abbrev at : ℕ → ℕ → Buffers
  at l u = moves_from (move route) 0 (step_no l u) v₀

  abbrev D : ℕ → ℕ → Type 0
  D l u = During route src p A T l u (at l u)

  -- that step is the one of phase f, which is k, and tier t
  step_is : (l u f t : ℕ) (k : Phase) → get_or (phases route) f Writes ≡ k → l < loads g → u < load_steps route → u ≡ f * tiers g + t → t < tiers g
      → at l (suc u) ≡ by_phase k (read_move g p l t (at l u)) (write_move g (pass_at route p) p l t (at l u)) (blank_move g p l t (at l u))
  step_is l u f t k ek hl hu e ht =
      ap (λ (k : ℕ). moves_from (move route) 0 k v₀) (omega arith) ∙ moves_next (move route) (step_no l u) v₀
      ∙ move_at route (step_no l u) (at l u) k p l t
      (phase_at_lem route ok p l u hl hu f t e ht ∙ ek) (pass_at_lem route ok p l u hl hu) (load_at_lem route ok p l u hl hu)
      (tier_at_lem route ok p l u hl hu f t e ht)

  -- the reads of a load, up to step u
  reads_to : (l u : ℕ) → l < loads g → u ≤ tiers g → D l 0 → D l u
  reads_to l zero hl hu k = k
  reads_to l (suc u) hl hu k =
      subst (During route src p A T l (suc u))
      (sym (step_is l u 0 u Reads (phase_two route 0 (omega arith)) hl (omega (arith, load_is route ok)) (omega arith) hu))
      (read_step route ok p A T l u (at l u) hu (reads_to l u hl (omega arith) k))

  -- its writes, up to tier t
  writes_to : (l t : ℕ) → l < loads g → t ≤ tiers g → D l (tiers g) → D l (tiers g + t)
  writes_to l zero hl ht k = subst (λ (u : ℕ). D l u) (sym (add-zero (tiers g))) k
  writes_to l (suc t) hl ht k =
      subst (During route src p A T l (tiers g + suc t))
      (sym (ap (at l) (add-suc (tiers g) t)
      ∙ step_is l (tiers g + t) 1 t Writes (phase_two route 1 (omega arith)) hl (omega (arith, load_is route ok)) (omega arith) ht))
      (write_step route ok p A T l t (at l (tiers g + t)) ht (writes_to l t hl (omega arith) k))

  -- its blanks, up to tier t
  blanks_to : route.blanks ≡ true → (l t : ℕ) → l < loads g → t ≤ tiers g → D l (tiers g + tiers g) → D l (tiers g + tiers g + t)
  blanks_to e l zero hl ht k = subst (λ (u : ℕ). D l u) (sym (add-zero (tiers g + tiers g))) k
  blanks_to e l (suc t) hl ht k =
      subst (During route src p A T l (tiers g + tiers g + suc t))
      (sym (ap (at l) (add-suc (tiers g + tiers g) t)
      ∙ step_is l (tiers g + tiers g + t) 2 t Blanks (phase_blanks route e) hl (omega (arith, load_three route ok e)) (omega arith) ht))
      (blank_step route ok p A T e l t (at l (tiers g + tiers g + t)) ht (blanks_to e l t hl (omega arith) k))

  -- what comes after the writes: the blanks, or nothing
  after_writes : (l : ℕ) → l < loads g → D l (tiers g + tiers g) → D l (load_steps route)
  after_writes l hl k = subst (λ (u : ℕ). D l u) (sym (load_is route ok)) (by route.blanks refl)
    where
      by : (b : Bool) → route.blanks ≡ b → D l (tiers g + tiers g + cond b (tiers g) 0)
      by true e = blanks_to e l (tiers g) hl (le_refl (tiers g)) k
      by false e = subst (λ (u : ℕ). D l u) (sym (add-zero (tiers g + tiers g))) k

  -- a load, from its first step to its last
  load_done : (l : ℕ) → l < loads g → D l 0 → D l (load_steps route)
  load_done l hl k =
      after_writes l hl (writes_to l (tiers g) hl (le_refl (tiers g)) (reads_to l (tiers g) hl (le_refl (tiers g)) k))

  -- a load done is the next one begun
  next_load : (l : ℕ) → D l (load_steps route) → D (suc l) 0
  next_load l k =
      record {
        reads = ap (bytes_of (area_read p)) same ∙ k.reads ∙ ap (left_by route A) ends;
        writes = ap (bytes_of (area_written p)) same ∙ k.writes ∙ ap (written_by route src A T) ends;
        long = ap (λ (v : Buffers). length v.memory) same ∙ k.long;
        holds = λ i b q h. absurd (not-suc-le-zero q);
        clear = λ i b q. absurd (not-suc-le-zero q);
      }
    where
      ends : l * load_steps route + load_steps route ≡ suc l * load_steps route + 0
      ends = omega (arith, suc-mul l (load_steps route))

      same : at (suc l) 0 ≡ at l (load_steps route)
      same = ap (λ (k : ℕ). moves_from (move route) 0 (p * pass_steps route + k) v₀) (sym ends)

  -- the loads below l
  loads_to : (l : ℕ) → l ≤ loads g → D 0 0 → D l 0
  loads_to zero hl k = k
  loads_to (suc l) hl k = next_load l (load_done l hl (loads_to l (omega arith) k))

  -- before the first step of the pass
  pass_begins : bytes_of (area_read p) (before_pass route v₀ p) ≡ A → bytes_of (area_written p) (before_pass route v₀ p) ≡ T
      → length (before_pass route v₀ p).memory ≡ memory_size g * g.r → D 0 0
  pass_begins ea et em =
      record {
        reads = ap (bytes_of (area_read p)) same ∙ ea ∙ zeroed_none g.r A (is_spent route start)
            (λ x. not_yet route start x (omega (arith, none)));
        writes = ap (bytes_of (area_written p)) same ∙ et
            ∙ copied_none src g.r A T (is_before route src start) (λ y. le-ltb (when route src y) start (omega (arith, none)));
        long = ap (λ (v : Buffers). length v.memory) same ∙ em;
        holds = λ i b q h. absurd (not-suc-le-zero q);
        clear = λ i b q. absurd (not-suc-le-zero q);
      }
    where
      start : ℕ
      start = 0 * load_steps route + 0

      none : 0 * load_steps route ≡ 0
      none = zero-mul (load_steps route)

      same : at 0 0 ≡ before_pass route v₀ p
      same = ap (λ (k : ℕ). moves_from (move route) 0 k v₀) (omega (arith, none))

-- what a pass does to the buffers: the other area's record y is the record src y of the area read, which is blank afterwards, and
-- memory too, where the route has blanks
pub record PassDone (route : Route) (src : ℕ → ℕ) (p : ℕ) (v w : Buffers) : Type 0 where
  pub reads_long : length (bytes_of (area_read p) w) ≡ length (bytes_of (area_read p) v)
  pub bytes : (y j : ℕ) → y < records route.geometry → j < route.geometry.r
      → get_or (bytes_of (area_written p) w) (y * route.geometry.r + j) 0 ≡ get_or (bytes_of (area_read p) v) (src y * route.geometry.r + j) 0
  pub long : length (bytes_of (area_written p) w) ≡ length (bytes_of (area_written p) v)
  pub memory_long : length w.memory ≡ memory_size route.geometry * route.geometry.r
  pub spent : route.blanks ≡ true → AllZero (bytes_of (area_read p) w)
  pub cleared : route.blanks ≡ true → AllZero w.memory

module _ (route : Route) (ok : Allowed route.geometry) (p : ℕ) (v₀ : Buffers) where
  abbrev geo : Geometry
  geo = route.geometry

  abbrev from : ℕ → ℕ
  from y = source_of geo (pass_at route p) y

  -- the pass, from its first step to its last
  pub pass_done : ((y : ℕ) → y < records geo → from y < records geo) → length (bytes_of (area_read p) (before_pass route v₀ p)) ≡ records geo * geo.r
      → length (bytes_of (area_written p) (before_pass route v₀ p)) ≡ records geo * geo.r → length (before_pass route v₀ p).memory ≡ memory_size geo * geo.r
      → PassDone route from p (before_pass route v₀ p) (before_pass route v₀ (suc p))
  pass_done hs ha ht hm =
      record {
        reads_long = left_long;
        bytes = λ y j hy hj.
            ap (λ (v : Buffers). get_or (bytes_of (area_written p) v) (y * geo.r + j) 0) same ∙ ap (λ (l : List ℕ). get_or l (y * geo.r + j) 0) k.writes
            ∙ get_or-chosen (is_before route from ends) from geo.r A T (y * geo.r + j) (subst (λ (n : ℕ). y * geo.r + j < n) (sym ht) (digits_lt hy hj))
            (ap (is_before route from ends) (digits_div y hj)
            ∙ lt-ltb (when route from y) ends (omega (arith, when_lt route ok from y (hs y hy), all_steps_lem)))
            ∙ ap₂ (λ (a b : ℕ). get_or A (from a * geo.r + b) 0) (digits_div y hj) (digits_mod y hj);
        long = ap (λ (v : Buffers). length (bytes_of (area_written p) v)) same ∙ ap length k.writes
            ∙ length-copied (is_before route from ends) from geo.r A T;
        memory_long = ap (λ (v : Buffers). length v.memory) same ∙ k.long;
        spent = λ e i h.
            let b : i < length A = subst (λ (n : ℕ). i < n) left_long h in
            let x : i / geo.r < records geo = (div-lt_iff_lt-mul ok.r_low).1 (subst (λ (n : ℕ). i < n) ha b) in
            ap (λ (l : List ℕ). get_or l i 0) area_left
            ∙ get_or-zero (is_spent route ends) geo.r A i b
            (spent_is route e ends (i / geo.r)
            ∙ lt-ltb (blanked_at route (i / geo.r)) ends (omega (arith, blanked_lt route ok e (i / geo.r) x, all_steps_lem)));
        cleared = λ e i h.
            ap (λ (v : Buffers). get_or v.memory i 0) same
            ∙ k.clear i (subst (λ (n : ℕ). i < n) (ap (λ (v : Buffers). length v.memory) same ∙ k.long) h)
            (omega (arith, tier_lt geo ok (i / geo.r), load_three route ok e));
      }
    where
      A : List ℕ
      A = bytes_of (area_read p) (before_pass route v₀ p)

      T : List ℕ
      T = bytes_of (area_written p) (before_pass route v₀ p)

      -- the last load
      last : ℕ
      last = loads geo - 1

      last_is : suc last ≡ loads geo
      last_is = omega (arith, pow_pos (geo.n - geo.m))

      ends : ℕ
      ends = last * load_steps route + load_steps route

      all_steps_lem : ends ≡ loads geo * load_steps route
      all_steps_lem = sym (suc-mul last (load_steps route)) ∙ ap (λ (n : ℕ). n * load_steps route) last_is

      k : During route from p A T last (load_steps route) (moves_from (move route) 0 (p * pass_steps route + ends) v₀)
      k = load_done route ok p v₀ A T last (omega (arith, last_is))
          (loads_to route ok p v₀ A T last (omega (arith, last_is)) (pass_begins route ok p v₀ A T refl refl hm))

      same : before_pass route v₀ (suc p) ≡ moves_from (move route) 0 (p * pass_steps route + ends) v₀
      same = ap (λ (n : ℕ). moves_from (move route) 0 n v₀) (omega (arith, suc-mul p (pass_steps route), pass_is route ok, all_steps_lem))

      area_left : bytes_of (area_read p) (before_pass route v₀ (suc p)) ≡ left_by route A ends
      area_left = ap (bytes_of (area_read p)) same ∙ k.reads

      left_long : length (bytes_of (area_read p) (before_pass route v₀ (suc p))) ≡ length A
      left_long = ap length area_left ∙ length-zeroed (is_spent route ends) geo.r A
