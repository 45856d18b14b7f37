-- Which lines has a listing, part by part? Assumes nothing.
use mathlib.Core.Path.{◌≡◌, refl, sym, ap, ◌∙◌}
use mathlib.Core.Bool.{true, false}
use mathlib.Core.List.{List, [], ◌∷◌, ◌++◌, append_assoc, append-nil}
use Prim.Native.Nat.{ℕ, zero, suc, ◌+◌, ◌*◌, ◌<◌, ◌≤◌}
use native.Mathlib.Omega.{arith}
use native.Mathlib.Numerals.{add-one}
use borrow.Author.Tests.{le-leb, lt-leb}
use borrow.Table.Steps.{cases}
use lib.ListN.{length, get_or, take, drop, length-append, take-append-drop}
use lib.Seq.{length-take-le, take-suc, take_all}
use Rattle.bank.specs.Limits.{ROWS, PASSES}
use Rattle.bank.proofs.Limits.{square_small}
use Rattle.planning.specs.declared.Plan.{Plan}
use Rattle.planning.specs.Pass.{Pass, pass_at, total}
use Rattle.planning.specs.Stored.{stored_pass, route_of}
use Rattle.planning.specs.Running.{sound}
use Rattle.planning.proofs.Running.{sound_allowed, sound_few}
use Rattle.planning.proofs.Stored.{route_length, route_at, taken_length}
use Rattle.totals.specs.Total.{result_area}
use Rattle.running.proofs.Judging.{part_matrix}
use Rattle.text.specs.Lines.{line, decimal, row_lines}
use Rattle.text.proofs.Decimals.{line_short}
use Rattle.text.proofs.RowLines.{length-bits, square_long}
use Rattle.listing.specs.Listing.{passes_word, steps_word, result_word, pass_word, pass_lines, passes_lines, head_lines, tail_lines}
use Rattle.listing.specs.Listing.{listing, written, room_after}
use Rattle.listing.specs.Passes.{pass_at_lines}
use Rattle.listing.specs.declared.sound.Sound.{Sound}
use Rattle.writing.specs.Written.{put, Wrote}

-- ---- the passes
passes_append : (n k : ℕ) (ps qs : List Pass) → passes_lines n k (ps ++ qs) ≡ passes_lines n k ps ++ passes_lines n (k + length ps) qs
unfolding passes_lines
passes_append n k [] qs = let z : k + 0 ≡ k = omega arith in rw z
passes_append n k (p ∷ ps) qs =
    let z : suc k + length ps ≡ k + suc (length ps) = omega arith in
    rw (passes_append n (suc k) ps qs, z) (sym (append_assoc (pass_lines n k p) (passes_lines n (suc k) ps) (passes_lines n (k + suc (length ps)) qs)))

-- a pass at the end
passes_snoc : (n k : ℕ) (ps : List Pass) (q : Pass) → passes_lines n k (ps ++ (q ∷ [])) ≡ passes_lines n k ps ++ pass_lines n (k + length ps) q
unfolding passes_lines
passes_snoc n k ps q = passes_append n k ps (q ∷ []) ∙ rw (append-nil (pass_lines n (k + length ps) q))

length-pass : (n p : ℕ) (pass : Pass) → length (pass_lines n p pass) ≡ length (line (pass_word ++ decimal p)) + (length (row_lines n pass.rows) + (n + 1))
unfolding pass_lines
length-pass n p pass = simp (length-append, length-bits)

-- the most bytes that a pass has
abbrev pub pass_most : ℕ
pass_most = 26 + (ROWS + 1) * (ROWS + 1)

module _ (plan : Plan) where
  -- the first k passes
  abbrev pub up_to : ℕ → List ℕ
  up_to k = passes_lines plan.geometry.n 0 (take k (route_of plan).passes)

  pub up_to_none : up_to 0 ≡ []
  unfolding passes_lines
  up_to_none = refl

  pub up_to_more : (p : ℕ) → p < plan.count → up_to (p + 1) ≡ up_to p ++ pass_at_lines plan p
  up_to_more p h =
      let ps = (route_of plan).passes in
      let inside : p < length ps = omega (arith, route_length plan) in
      let z : 0 + length (take p ps) ≡ p = omega (arith, length-take-le p ps (omega arith)) in
      rw (add-one p, take-suc ps p (record { rows = []; complement = 0 }) inside)
      (passes_snoc plan.geometry.n 0 (take p ps) (pass_at (route_of plan) p) ∙ rw (z, route_at plan p h))

  pub up_to_longer : (p : ℕ) → p < plan.count → length (up_to (p + 1)) ≡ length (up_to p) + length (pass_at_lines plan p)
  up_to_longer p h = ap length (up_to_more p h) ∙ length-append (up_to p) (pass_at_lines plan p)

  pub up_to_all : (k : ℕ) → k ≡ plan.count → up_to k ≡ tail_lines plan
  up_to_all k e = ap (passes_lines plan.geometry.n 0) (take_all k (route_of plan).passes (omega (arith, route_length plan)))

  pub up_to_short : (k : ℕ) → length (up_to k) ≤ length (tail_lines plan)
  up_to_short k =
      let ps = (route_of plan).passes in
      let parts = passes_append plan.geometry.n 0 (take k ps) (drop k ps) in
      omega (arith, simp length-append at (ap length (rw (take-append-drop k ps) at parts)))

  -- with pass p, no more than all of them
  pub up_to_fits : (p : ℕ) → p < plan.count → length (up_to p) + length (pass_at_lines plan p) ≤ length (tail_lines plan)
  up_to_fits p h = omega (arith, up_to_longer p h, up_to_short (p + 1))

  module _ (fits : plan.geometry.n ≤ ROWS) (room : length plan.rows ≡ PASSES * ROWS) where
    pub pass-length : (p : ℕ) → p < PASSES
        → length (pass_at_lines plan p) ≡ length (line (pass_word ++ decimal p)) + (plan.geometry.n + 1) * (plan.geometry.n + 1)
    unfolding stored_pass
    pass-length p h =
        let n = plan.geometry.n in
        let rows = take n (drop (p * ROWS) plan.rows) in
        let long : length rows ≡ n = taken_length PASSES ROWS n plan.rows p room fits h in
        let pass = length-pass n p (stored_pass ROWS n plan.rows plan.complements p) in
        omega (arith, pass, square_long n rows long)

    pass_small : (p : ℕ) → p < PASSES → length (pass_at_lines plan p) ≤ pass_most
    pass_small p h = omega (arith, pass-length p h, line_short pass_word p, square_small plan.geometry.n fits)

    up_to_small : plan.count ≤ PASSES → (p : ℕ) → p ≤ plan.count → length (up_to p) ≤ p * pass_most
    up_to_small few zero h = omega (arith, ap length up_to_none)
    up_to_small few (suc p) h =
        omega (arith, up_to_small few p (omega arith), rw (add-one p) at (up_to_longer p (omega arith)), pass_small p (omega arith))

    pub tail_small : plan.count ≤ PASSES → length (tail_lines plan) ≤ PASSES * pass_most
    tail_small few = omega (arith, ap length (up_to_all plan.count refl), up_to_small few plan.count (omega arith))

  -- a pass as code takes it out of the plan
  module _ (p : ℕ) (part : List ℕ) (fits : plan.geometry.n ≤ ROWS) (is : part ≡ take ROWS (drop (p * ROWS) plan.rows)) where
    pub pass_parts : pass_at_lines plan p
        ≡ pass_lines plan.geometry.n p (record { rows = take plan.geometry.n part; complement = get_or plan.complements p 0 })
    unfolding stored_pass
    pass_parts = rw (part_matrix plan.rows part p plan.geometry.n fits is)

    pub pass_parts_long : length (pass_at_lines plan p)
        ≡ length (line (pass_word ++ decimal p)) + (length (row_lines plan.geometry.n (take plan.geometry.n part)) + (plan.geometry.n + 1))
    pass_parts_long = ap length pass_parts ∙ length-pass plan.geometry.n p _

-- ---- the listing
module _ (plan : Plan) where
  abbrev pub passes_line : List ℕ
  passes_line = line (passes_word ++ decimal plan.count)

  abbrev pub steps_line : List ℕ
  steps_line = line (steps_word ++ decimal (total (route_of plan)))

  abbrev pub result_line : List ℕ
  result_line = line (result_word ++ decimal (result_area plan))

  pub head_long : length (head_lines plan) ≡ length passes_line + (length steps_line + length result_line)
  unfolding head_lines
  head_long = simp length-append

  pub head_small : length (head_lines plan) ≤ 83
  head_small =
      omega (arith, head_long, line_short passes_word plan.count, line_short steps_word (total (route_of plan)), line_short result_word (result_area plan))

  pub listing_none : sound plan ≡ false → listing plan ≡ []
  unfolding listing
  listing_none e = rw e

  pub listing_parts : sound plan ≡ true → listing plan ≡ head_lines plan ++ tail_lines plan
  unfolding listing
  listing_parts e = rw e

  pub listing_long : sound plan ≡ true → length (listing plan) ≡ length (head_lines plan) + length (tail_lines plan)
  listing_long e = ap length (listing_parts e) ∙ length-append (head_lines plan) (tail_lines plan)

  -- the most bytes that a listing has
  pub listing_fits : length plan.rows ≡ PASSES * ROWS → length (listing plan) ≤ 83 + PASSES * pass_most
  listing_fits room =
      cases (sound plan)
      (λ e. omega (arith, listing_long e, head_small, tail_small plan (sound_allowed plan e).n_high room (sound_few plan e)))
      (λ e. omega (arith, ap length (listing_none e)))

  -- what is written, and the room afterwards, by the test on the room's length
  pub no_room : (room : List ℕ) → length room < length (listing plan) → (0 ≡ written plan room) × (room ≡ room_after plan room)
  unfolding written room_after
  no_room room h = let e = lt-leb (length (listing plan)) (length room) h in (rw e, rw e)

  pub nothing_listed : (room : List ℕ) → sound plan ≡ false → (0 ≡ written plan room) × (room ≡ room_after plan room)
  unfolding written room_after
  nothing_listed room e = rw (listing_none e, le-leb 0 (length room) (omega arith)) (refl, refl)

  pub has_room : (room : List ℕ) → length (listing plan) ≤ length room
      → (written plan room ≡ length (listing plan)) × (room_after plan room ≡ listing plan ++ drop (length (listing plan)) room)
  unfolding written room_after
  has_room room h = let e = le-leb (length (listing plan)) (length room) h in (rw e, rw e)

  pub listed_whole : (room : List ℕ) → length (listing plan) ≤ length room → (after : List ℕ) (past : ℕ) → Wrote room 0 (listing plan) after past
      → (past ≡ written plan room) × (after ≡ room_after plan room)
  unfolding put
  listed_whole room h after past w =
      let z : 0 + length (listing plan) ≡ length (listing plan) = omega arith in
      (rw ((has_room room h).0, w.place) z, rw ((has_room room h).1, w.is, z))

-- the listing of a plan that was found to run
module _ (s : Sound) {plan : Plan} (is : s.plan ≡ plan) where
  pub sound_parts : listing plan ≡ head_lines s.plan ++ tail_lines s.plan
  sound_parts = sym (ap listing is) ∙ listing_parts s.plan s.runs

  pub sound_long : length (listing plan) ≡ length (head_lines s.plan) + length (tail_lines s.plan)
  sound_long = ap length sound_parts ∙ length-append (head_lines s.plan) (tail_lines s.plan)
