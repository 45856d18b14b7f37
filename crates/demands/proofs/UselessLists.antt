-- Why is each mover that is of no use for a list of targets shut out? By one small list. Assumes nothing.
use mathlib.Core.Path.{◌≡◌, refl, sym, ap, ◌∙◌}
use mathlib.Core.Bool.{Bool, false}
use mathlib.Core.List.{List, [], ◌∷◌, ◌++◌}
use mathlib.Core.Logic.{inl, inr}
use Prim.Native.Nat.{ℕ, ◌-◌, ◌^◌}
use native.Mathlib.Omega.{arith}
use lib.Count.{ones}
use lib.ListN.{get_or, replicate, take}
use Rattle.bank.specs.Limits.{ROWS}
use Rattle.bank.specs.Checks.{handed, refuse}
use Rattle.algebra.specs.Search.{any_below, least, least_from, listed}
use Rattle.algebra.specs.Vector.{parity, unit_vectors}
use Rattle.algebra.specs.Matrix.{applied, columns, kills, singular, target}
use Rattle.lists.specs.Targets.{gives, is_given, wrong_length}
use Rattle.lists.specs.Apart.{column_of}
use Rattle.lists.specs.Recognised.{bits_of, list_number, recognised, rows_of}
use Rattle.lists.proofs.Given.{bits_is, given_is, right-length}
use Rattle.lists.proofs.Main.{bits_are, given_number, given_order, gives_11, giving_itself, rows_are, wrong_length_lem}
use Rattle.demands.specs.Mover.{Mover}
use Rattle.lists.specs.Given.{GivenBy}
use Rattle.demands.specs.Recognises.{Recognises}
use Rattle.demands.specs.UselessLists.{BrokenLists, finds_none, keeps_c, looks_at_four, shows_no_z, three_as_twelve, turns_rows, twelve_first}
use Rattle.demands.proofs.Recognises.{ours_recognises}

-- ---- the lists

-- every address stays where it is
abbrev same : List ℕ
same = 0 ∷ 1 ∷ 2 ∷ 3 ∷ []

-- the rows are 11 and 01, the columns 10 and 11
abbrev slanted : List ℕ
slanted = 0 ∷ 1 ∷ 3 ∷ 2 ∷ []

-- every bit is turned over
abbrev flipped : List ℕ
flipped = 3 ∷ 2 ∷ 1 ∷ 0 ∷ []

-- bit 1 is lost
abbrev twins : List ℕ
twins = 0 ∷ 1 ∷ 0 ∷ 1 ∷ []

-- entry 0 is N
abbrev stray : List ℕ
stray = 4 ∷ 0 ∷ 0 ∷ 0 ∷ []

-- an entry too many
abbrev five : List ℕ
five = 0 ∷ 1 ∷ 2 ∷ 3 ∷ 0 ∷ []

-- which matrix and complement give them
given : GivenBy same 2 (1 ∷ 2 ∷ []) 0 × GivenBy slanted 2 (3 ∷ 2 ∷ []) 0 × GivenBy flipped 2 (1 ∷ 2 ∷ []) 3 × GivenBy twins 2 (1 ∷ 0 ∷ []) 0
unfolding ones least_from least any_below listed parity unit_vectors applied columns target gives column_of
given = (
  giving_itself same 2 (omega arith) (omega arith) refl refl,
  giving_itself slanted 2 (omega arith) (omega arith) refl refl,
  giving_itself flipped 2 (omega arith) (omega arith) refl refl,
  giving_itself twins 2 (omega arith) (omega arith) refl refl,
)

regular : (singular 2 (1 ∷ 2 ∷ []) ≡ false) × (singular 2 (3 ∷ 2 ∷ []) ≡ false)
unfolding ones least_from least any_below parity applied kills singular
regular = (refl, refl)

twins_3 : list_number twins ≡ 3
unfolding ones least_from least any_below parity applied kills singular
twins_3 = given_number twins 2 (1 ∷ 0 ∷ []) 0 given.3

stray_11 : list_number stray ≡ 11
stray_11 = (gives_11 stray).1 (inr (0, record { there = omega arith; large = omega arith }))

stray_none : is_given (bits_of stray) stray ≡ false
unfolding ones least_from least any_below listed parity unit_vectors applied columns target gives column_of
stray_none = ap (λ (n : ℕ). is_given n stray) (bits_is stray 2 (omega arith) (omega arith) refl) ∙ given_is stray 2 refl

five_11 : list_number five ≡ 11
unfolding least_from least any_below wrong_length
five_11 = (gives_11 five).1 (inl (λ n s. (wrong_length_lem five).0 refl n s.from s.upto s.length_is))

-- ---- what the demand makes of them
module _ (M : Mover) (h : Recognises M) (list : List ℕ) where
  must_be_0 : list_number list ≡ 0 → (M.recognises list).number ≡ 0
  unfolding recognised
  must_be_0 e = (h.every list).gives_0.1 ((ours_recognises.every list).gives_0.0 e)

  must_be_3 : list_number list ≡ 3 → (M.recognises list).number ≡ 3
  unfolding recognised
  must_be_3 e = (h.every list).gives_3.1 ((ours_recognises.every list).gives_3.0 e)

  must_be_11 : list_number list ≡ 11 → (M.recognises list).number ≡ 11
  unfolding recognised
  must_be_11 e = (h.every list).gives_11.1 ((ours_recognises.every list).gives_11.0 e)

-- ---- a list that an order gives, and rows made of n and those found, handed back with ours in all else
module _ (list rows : List ℕ) (c : ℕ) (g : GivenBy list 2 rows c) (s : singular 2 rows ≡ false) where
  taken : list_number list ≡ 0
  taken = given_number list 2 rows c g ∙ ap (λ (b : Bool). refuse b 3 0) s

  handed_back : (make : ℕ → List ℕ → List ℕ)
      → GivenBy list (recognised list).n
      (take (recognised list).n (handed (list_number list) (make (bits_of list) (rows_of list) ++ replicate (ROWS - bits_of list) 0) (replicate ROWS 0)))
      (recognised list).complement
      → GivenBy list 2 (take 2 (make 2 rows ++ replicate (ROWS - 2) 0)) c
  handed_back make f = rw (taken, rows_are list 2 rows c g, bits_are list 2 rows c g, given_order list 2 rows c g s) at f

same_0 : list_number same ≡ 0
same_0 = taken same (1 ∷ 2 ∷ []) 0 given.0 regular.0

-- ---- each of them

-- with rows for columns, 1 is sent to 3, and not to 1
no_turned : Recognises turns_rows → ⊥
unfolding ones parity unit_vectors applied columns target
no_turned h =
    let zero = taken slanted (3 ∷ 2 ∷ []) 0 given.1 regular.1 in
    let found = handed_back slanted (3 ∷ 2 ∷ []) 0 given.1 regular.1 columns ((h.every slanted).found (must_be_0 turns_rows h slanted zero)) in
    omega (arith, found.entry 1 (omega arith))

-- with c left in the columns, 1 is sent to 1, and not to 2
no_kept_c : Recognises keeps_c → ⊥
unfolding ones listed parity unit_vectors applied columns target
no_kept_c h =
    let zero = taken flipped (1 ∷ 2 ∷ []) 3 given.2 regular.0 in
    let kept : ℕ → List ℕ → List ℕ = λ n rows. columns n (listed (λ j. get_or flipped (2 ^ j) 0) n 0) in
    let found = handed_back flipped (1 ∷ 2 ∷ []) 3 given.2 regular.0 kept ((h.every flipped).found (must_be_0 keeps_c h flipped zero)) in
    omega (arith, found.entry 1 (omega arith))

pub broken_lists : BrokenLists
unfolding recognised
broken_lists =
    record {
      finds_none_fails = λ h. omega (arith, rw (right-length same 2 (omega arith) (omega arith) refl) at (must_be_0 finds_none h same same_0));
      three_as_twelve_fails = λ h. omega (arith, rw twins_3 at (must_be_3 three_as_twelve h twins twins_3));
      twelve_first_fails = λ h. omega (arith, rw stray_none at (must_be_11 twelve_first h stray stray_11));
      shows_no_z_fails = λ h. omega (arith, (rw twins_3 at ((h.every twins).shows_3 (must_be_3 shows_no_z h twins twins_3))).nonzero);
      looks_at_four_fails = λ h. omega (arith, sym same_0 ∙ must_be_11 looks_at_four h five five_11);
      turns_rows_fails = no_turned;
      keeps_c_fails = no_kept_c;
    }
