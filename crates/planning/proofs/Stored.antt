-- Does a stored plan give its route back? Assumes nothing.
use mathlib.Core.Path.{◌∙◌, ◌≡◌, ap, ap₂, refl, subst, sym}
use mathlib.Core.List.{List, []}
use Prim.Native.Nat.{◌%◌, ◌*◌, ◌+◌, ◌/◌, ◌<◌, ◌≤◌, ℕ}
use native.Mathlib.Nat.{mul-le-mul_right, suc-mul, zero-add}
use native.Mathlib.Omega.{arith}
use lib.Arith.{digits_div, digits_lt, digits_mod}
use lib.ListN.{drop, get_or, length, length-drop, take}
use lib.Seq.{ext_get_or, get_or-drop, get_or-take, length-take-le}
use Rattle.bank.specs.Limits.{PASSES, ROWS}
use Rattle.algebra.proofs.Listed.{listed_at, listed_length}
use Rattle.algebra.specs.Search.{listed}
use Rattle.planning.specs.Pass.{Pass, Route, pass_at, pass_in}
use Rattle.planning.specs.Stored.{plan_of, route_of, stored_complements, stored_pass, stored_rows}
use Rattle.planning.specs.declared.Plan.{Plan}

-- ---- the places, of any number of passes of any width
module _ (room width : ℕ) (ps : List Pass) where
  pub stored_length : length (stored_rows room width ps) ≡ room * width
  unfolding stored_rows
  stored_length = listed_length _ (room * width) 0

  pub stored_place : (q : ℕ) → q < room * width → get_or (stored_rows room width ps) q 0 ≡ get_or (pass_in ps (q / width)).rows (q % width) 0
  unfolding stored_rows
  stored_place q h =
      listed_at 0 (λ q. get_or (pass_in ps (q / width)).rows (q % width) 0) (room * width) 0 q h
      ∙ ap (λ (q : ℕ). get_or (pass_in ps (q / width)).rows (q % width) 0) (zero-add q)

  pub stored_row : (p i : ℕ) → p < room → i < width → get_or (stored_rows room width ps) (p * width + i) 0 ≡ get_or (pass_in ps p).rows i 0
  stored_row p i hp hi =
      stored_place (p * width + i) (digits_lt hp hi) ∙ ap₂ (λ (u v : ℕ). get_or (pass_in ps u).rows v 0) (digits_div p hi) (digits_mod p hi)

  pub stored_complement : (p : ℕ) → p < room → get_or (stored_complements room ps) p 0 ≡ (pass_in ps p).complement
  unfolding stored_complements
  stored_complement p h = listed_at 0 (λ p. (pass_in ps p).complement) room 0 p h ∙ ap (λ (p : ℕ). (pass_in ps p).complement) (zero-add p)

-- the n rows of pass p, taken out of the places
pub taken_length : (room width n : ℕ) (l : List ℕ) (p : ℕ) → length l ≡ room * width → n ≤ width → p < room → length (take n (drop (p * width) l)) ≡ n
taken_length room width n l p hl hn hp =
    length-take-le n (drop (p * width) l)
    (omega (arith, length-drop (p * width) l, hl, suc-mul p width, mul-le-mul_right width hp))

pub taken_at : (width n : ℕ) (l : List ℕ) (p i : ℕ) → i < n → get_or (take n (drop (p * width) l)) i 0 ≡ get_or l (p * width + i) 0
taken_at width n l p i h = get_or-take n (drop (p * width) l) i 0 h ∙ get_or-drop (p * width) l i 0

-- a pass comes back as it was
stored_back : (room width n : ℕ) (ps : List Pass) (p : ℕ) → n ≤ width → p < room → length (pass_in ps p).rows ≡ n
    → stored_pass width n (stored_rows room width ps) (stored_complements room ps) p ≡ pass_in ps p
unfolding stored_pass
stored_back room width n ps p hn hp hl =
    ap₂ (λ (f : List ℕ) (c : ℕ). record { rows = f; complement = c }) rows_back (stored_complement room width ps p hp)
  where
    long : length (take n (drop (p * width) (stored_rows room width ps))) ≡ n
    long = taken_length room width n (stored_rows room width ps) p (stored_length room width ps) hn hp

    rows_back : take n (drop (p * width) (stored_rows room width ps)) ≡ (pass_in ps p).rows
    rows_back =
        ext_get_or 0 (take n (drop (p * width) (stored_rows room width ps))) (pass_in ps p).rows (long ∙ sym hl)
        (λ i h.
        let hi : i < n = subst (λ (k : ℕ). i < k) long h in
        taken_at width n (stored_rows room width ps) p i hi ∙ stored_row room width ps p i hp (omega arith))

-- ---- the route of a plan
module _ (plan : Plan) where
  pub route_length : length (route_of plan).passes ≡ plan.count
  unfolding route_of
  route_length = listed_length (stored_pass ROWS plan.geometry.n plan.rows plan.complements) plan.count 0

  pub route_none : plan.count ≡ 0 → (route_of plan).passes ≡ []
  unfolding route_of listed
  route_none e = rw e refl

  pub route_at : (p : ℕ) → p < plan.count → pass_at (route_of plan) p ≡ stored_pass ROWS plan.geometry.n plan.rows plan.complements p
  unfolding route_of
  route_at p h =
      listed_at (record { rows = []; complement = 0 }) (stored_pass ROWS plan.geometry.n plan.rows plan.complements) plan.count 0 p h
      ∙ ap (stored_pass ROWS plan.geometry.n plan.rows plan.complements) (zero-add p)

-- a route that fits comes back as it was stored
pub route_back : (route : Route) → length route.passes ≤ PASSES → route.geometry.n ≤ ROWS
    → ((p : ℕ) → p < length route.passes → length (pass_at route p).rows ≡ route.geometry.n) → route_of (plan_of route) ≡ route
unfolding plan_of route_of
route_back route few wide all =
    ap (λ (ps : List Pass). record { geometry = route.geometry; blanks = route.blanks; passes = ps }) same
  where
    same : (route_of (plan_of route)).passes ≡ route.passes
    same =
        ext_get_or (record { rows = []; complement = 0 }) (route_of (plan_of route)).passes route.passes (route_length (plan_of route))
        (λ p h.
        let hp : p < length route.passes = subst (λ (k : ℕ). p < k) (route_length (plan_of route)) h in
        route_at (plan_of route) p hp
        ∙ stored_back PASSES ROWS route.geometry.n route.passes p wide (omega arith) (all p hp))
