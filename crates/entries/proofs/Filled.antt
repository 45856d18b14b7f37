-- What does the room hold once some lines are passed? Assumes nothing.
use Rattle.std.specs.Prelude.{Some}
use mathlib.Core.Path.{◌≡◌, refl, sym, ap, subst, ◌∙◌}
use mathlib.Core.Logic.{⊎_elim}
use mathlib.Core.List.{List, [], ◌∷◌, ◌++◌, append-nil}
use Prim.Native.Nat.{ℕ, ◌+◌, ◌<◌, ◌≤◌}
use native.Mathlib.Numerals.{add-one}
use native.Mathlib.Omega.{arith}
use lib.ListN.{length, set, drop, drop_of_length-le, length-append}
use lib.Seq.{append_snoc, drop-cons, set_at}
use Rattle.algebra.proofs.Search.{le_or_lt}
use Rattle.entries.specs.ListText.{IsText}
use Rattle.entries.specs.Parsing.{EntryAt, HasLength}
use Rattle.entries.proofs.Passed.{Passed, passed_none, passed_more, passed_all, passed_fewer, passed_whole}

-- the i entries of the lines passed, and then what was there
pub record Filled (text before room : List ℕ) (at i : ℕ) : Type 0 where
  pub done : List ℕ
  pub passed : Passed text at done
  pub long : length done ≡ i
  pub fits : i ≤ length before
  pub is : room ≡ done ++ drop i before

pub filled_none : (text before : List ℕ) → Filled text before before 0 0
filled_none text before = record { done = []; passed = passed_none text; long = refl; fits = omega arith; is = refl }

module _ (text before room : List ℕ) (at i : ℕ) (f : Filled text before room at i) where
  -- an entry is left where the list isn't whole yet
  pub filled_open : HasLength text (length before) → i < length before → at < length text
  filled_open (list, t, e) h =
      ⊎_elim
      (λ (l : length text ≤ at). absurd (omega (arith, ap length (passed_whole text at f.done f.passed list t l), f.long, e)))
      (λ (l : at < length text). l)
      (le_or_lt (length text) at)

  pub filled_more : (v k : ℕ) → i < length before → EntryAt text at (Some (v, k)) → Filled text before (set room i v) k (i + 1)
  filled_more v k h entry =
      record {
        done = f.done ++ (v ∷ []);
        passed = passed_more text at f.done f.passed v k entry;
        long = length-append f.done (v ∷ []) ∙ omega (arith, f.long);
        fits = omega arith;
        is =
            rw (f.is, drop-cons before i 0 h, add-one i)
            (set_at f.done _ _ v i f.long ∙ sym (append_snoc f.done v _));
      }

  pub filled_all : HasLength text (length before) → length before ≤ i → IsText text room
  filled_all (list, t, e) h =
      ⊎_elim
      (λ (l : length text ≤ at).
      subst (IsText text) (sym (f.is ∙ rw (drop_of_length-le before h) (append-nil f.done))) (passed_all text at f.done f.passed l))
      (λ (l : at < length text). absurd (omega (arith, passed_fewer text at f.done f.passed list t l, f.long, e)))
      (le_or_lt (length text) at)
