-- How is a step number taken apart? Assumes nothing.
use mathlib.Core.Path.{◌∙◌, ◌≡◌, ap, ap₂, refl, subst, sym}
use mathlib.Core.Bool.{Bool, ◌&&◌, cond, false, false≢true, true}
use Prim.Native.Nat.{◌%◌, ◌*◌, ◌+◌, ◌-◌, ◌/◌, ◌<◌, ◌^◌, ℕ}
use native.Mathlib.Nat.{div-lt_iff_lt-mul, mod-lt, mul_assoc, mul_comm, mul-div_cancel, mul_left_comm, mul-pos}
use native.Mathlib.Omega.{arith}
use borrow.Author.Tests.{eq-eqb, eqb-true, ne_eqb}
use lib.Arith.{digits_div, digits_lt, digits_mod}
use lib.Dec.{eqb}
use lib.ListN.{get_or, length}
use lib.Pow.{pow-add, pow_pos}
use Rattle.algebra.proofs.Digits.{pow_split}
use Rattle.algebra.proofs.Search.{and_l, and_r}
use Rattle.bank.specs.Geometry.{block, drives, load_at, loads, memory_size, records, stripes, tier_at, tiers}
use Rattle.bank.specs.declared.Geometry.{Geometry}
use Rattle.moving.specs.Number.{load_of, pass_of, phase_of, tier_of}
use Rattle.planning.specs.declared.Phase.TheVariants.{Writes}
use Rattle.planning.specs.Pass.{Route, load_steps, pass_steps, phases}
use Rattle.planning.proofs.Phases.{phases_are}
use Rattle.bank.proofs.Limits.{Allowed}

-- ---- digits, and tests of them

-- two digits are equal where the numbers that they make are
pub same_digits : (a c : ℕ) {n r s : ℕ} → r < n → s < n → a * n + r ≡ c * n + s → (a ≡ c) × (r ≡ s)
same_digits a c {n} hr hs e = (
  sym (digits_div a hr) ∙ ap (λ (i : ℕ). i / n) e ∙ digits_div c hs,
  sym (digits_mod a hr) ∙ ap (λ (i : ℕ). i % n) e ∙ digits_mod c hs,
)

-- one test for two: e equals f exactly where a equals b and c equals d
pub both_test : (a b c d e f : ℕ) → (a ≡ b → c ≡ d → e ≡ f) → (e ≡ f → (a ≡ b) × (c ≡ d)) → eqb e f ≡ eqb a b && eqb c d
both_test a b c d e f to back = go (eqb a b && eqb c d) refl
  where
    go : (s : Bool) → eqb a b && eqb c d ≡ s → eqb e f ≡ s
    go true h = eq-eqb e f (to (eqb-true a b (and_l (eqb a b) (eqb c d) h)) (eqb-true c d (and_r (eqb a b) (eqb c d) h)))
    go false h = ne_eqb e f (λ q. let w = back q in false≢true (sym h ∙ ap₂ ◌&&◌ (eq-eqb a b w.0) (eq-eqb c d w.1)))

-- ---- the sizes of a bank

module _ (g : Geometry) (ok : Allowed g) where
  -- B-as-D, the records of a stripe
  abbrev stripe : ℕ
  stripe = block g * drives g

  pub stripe_pos : 0 < stripe
  stripe_pos = mul-pos (pow_pos g.b) (pow_pos g.d)

  memory_tiers : memory_size g ≡ 2 ^ (g.m - (g.b + g.d)) * stripe
  memory_tiers = pow_split (g.b + g.d) g.m ok.drives_fit ∙ ap (λ (k : ℕ). 2 ^ (g.m - (g.b + g.d)) * k) (pow-add 2 g.b g.d)

  pub tiers-pow : tiers g ≡ 2 ^ (g.m - (g.b + g.d))
  unfolding tiers
  tiers-pow = ap (λ (k : ℕ). k / stripe) memory_tiers ∙ mul-div_cancel (2 ^ (g.m - (g.b + g.d))) stripe_pos

  pub tiers_pos : 0 < tiers g
  tiers_pos = subst (λ (k : ℕ). 0 < k) (sym tiers-pow) (pow_pos (g.m - (g.b + g.d)))

  pub memory_is : memory_size g ≡ tiers g * stripe
  memory_is = memory_tiers ∙ ap (λ (k : ℕ). k * stripe) (sym tiers-pow)

  pub records_is : records g ≡ loads g * memory_size g
  records_is = pow_split g.m g.n (omega (arith, ok.memory_below))

  -- N in tiers: N/M loads of M/(BD) tiers of B-as-D records
  records-tiers : records g ≡ loads g * tiers g * stripe
  records-tiers = records_is ∙ ap (λ (k : ℕ). loads g * k) memory_is ∙ sym (mul_assoc (loads g) (tiers g) stripe)

  pub tier_lt : (x : ℕ) → tier_at g x < tiers g
  unfolding tier_at
  tier_lt x = (div-lt_iff_lt-mul stripe_pos).1 (subst (λ (k : ℕ). x % memory_size g < k) memory_is (mod-lt x (pow_pos g.m)))

  pub load_lt : (x : ℕ) → x < records g → load_at g x < loads g
  unfolding load_at
  load_lt x h = (div-lt_iff_lt-mul (pow_pos g.m)).1 (subst (λ (k : ℕ). x < k) records_is h)

-- ---- the steps of a route

module _ (route : Route) (ok : Allowed route.geometry) where
  abbrev geo : Geometry
  geo = route.geometry

  -- the steps of a load: the reads, the writes, and what comes after them
  pub load_is : load_steps route ≡ tiers geo + tiers geo + cond route.blanks (tiers geo) 0
  unfolding load_steps
  load_is = ap (λ (k : ℕ). k * tiers geo) (phases_are route) ∙ by route.blanks
    where
      by : (b : Bool) → cond b 3 2 * tiers geo ≡ tiers geo + tiers geo + cond b (tiers geo) 0
      by true = omega arith
      by false = omega arith

  -- the steps of a load with blanks
  pub load_three : route.blanks ≡ true → load_steps route ≡ tiers geo + tiers geo + tiers geo
  load_three e = load_is ∙ ap (λ (b : Bool). tiers geo + tiers geo + cond b (tiers geo) 0) e

  pub load_pos : 0 < load_steps route
  load_pos = omega (arith, tiers_pos geo ok, load_is)

  -- N/(BD) in each phase is M/(BD) for each load
  pub pass_is : pass_steps route ≡ loads geo * load_steps route
  unfolding pass_steps load_steps
  pass_is =
      let each = length (phases route) in
      ap (λ (k : ℕ). k / (block geo * drives geo))
      (ap (λ (k : ℕ). each * k) (records-tiers geo ok) ∙ sym (mul_assoc each (loads geo * tiers geo) (block geo * drives geo)))
      ∙ mul-div_cancel (each * (loads geo * tiers geo)) (stripe_pos geo ok) ∙ mul_left_comm each (loads geo) (tiers geo)

  -- a step in each phase for each of the N/(BD) stripes of an area
  pub pass-stripes : pass_steps route ≡ cond route.blanks 3 2 * stripes geo
  unfolding load_steps
  pass-stripes =
      let one : stripes geo ≡ loads geo * tiers geo
      = ap (λ (k : ℕ). k / (block geo * drives geo)) (records-tiers geo ok) ∙ mul-div_cancel (loads geo * tiers geo) (stripe_pos geo ok) in
      pass_is ∙ mul_left_comm (loads geo) (length (phases route)) (tiers geo) ∙ ap₂ (λ (i k : ℕ). i * k) (phases_are route) (sym one)

  -- ---- any step number

  pub tier_of_lt : (s : ℕ) → tier_of route s < tiers geo
  unfolding tier_of
  tier_of_lt s = mod-lt (s % pass_steps route % load_steps route) (tiers_pos geo ok)

  pub pass_pos : 0 < pass_steps route
  pass_pos = subst (λ (k : ℕ). 0 < k) (sym pass_is) (mul-pos (pow_pos (geo.n - geo.m)) load_pos)

  pub load_of_lt : (s : ℕ) → load_of route s < loads geo
  unfolding load_of
  load_of_lt s = (div-lt_iff_lt-mul load_pos).1 (subst (λ (k : ℕ). s % pass_steps route < k) pass_is (mod-lt s pass_pos))

  pub pass_of_lt : (s k : ℕ) → s < pass_steps route * k → pass_of route s < k
  unfolding pass_of
  pass_of_lt s k h = (div-lt_iff_lt-mul pass_pos).1 (subst (λ (i : ℕ). s < i) (mul_comm (pass_steps route) k) h)

  -- no step is past the last phase
  pub phase_of_lt : (s : ℕ) → s % pass_steps route % load_steps route / tiers geo < length (phases route)
  unfolding load_steps
  phase_of_lt s = (div-lt_iff_lt-mul (tiers_pos geo ok)).1 (mod-lt (s % pass_steps route) load_pos)

  -- ---- step u of load l of pass p

  module _ (p l u : ℕ) (hl : l < loads geo) (hu : u < load_steps route) where
    abbrev in_pass : ℕ
    in_pass = l * load_steps route + u

    in_pass_lem : in_pass < pass_steps route
    in_pass_lem = subst (λ (k : ℕ). in_pass < k) (sym pass_is) (digits_lt hl hu)

    pub pass_at_lem : pass_of route (p * pass_steps route + (l * load_steps route + u)) ≡ p
    unfolding pass_of
    pass_at_lem = digits_div p in_pass_lem

    rest_at : (p * pass_steps route + in_pass) % pass_steps route ≡ in_pass
    rest_at = digits_mod p in_pass_lem

    pub load_at_lem : load_of route (p * pass_steps route + (l * load_steps route + u)) ≡ l
    unfolding load_of
    load_at_lem = ap (λ (k : ℕ). k / load_steps route) rest_at ∙ digits_div l hu

    left_at : (p * pass_steps route + in_pass) % pass_steps route % load_steps route ≡ u
    left_at = ap (λ (k : ℕ). k % load_steps route) rest_at ∙ digits_mod l hu

    -- tier k of phase f
    module _ (f k : ℕ) (e : u ≡ f * tiers geo + k) (hk : k < tiers geo) where
      pub phase_at_lem : phase_of route (p * pass_steps route + (l * load_steps route + u)) ≡ get_or (phases route) f Writes
      unfolding phase_of
      phase_at_lem = ap (λ (i : ℕ). get_or (phases route) i Writes) (ap (λ (i : ℕ). i / tiers geo) (left_at ∙ e) ∙ digits_div f hk)

      pub tier_at_lem : tier_of route (p * pass_steps route + (l * load_steps route + u)) ≡ k
      unfolding tier_of
      tier_at_lem = ap (λ (i : ℕ). i % tiers geo) (left_at ∙ e) ∙ digits_mod f hk
