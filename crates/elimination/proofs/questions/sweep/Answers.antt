-- `elimination::questions::sweep` meets its contract. The loop's invariant: the entries are those after the first j columns, all of them marked.
-- Assumes nothing.
use mathlib.Core.Path.{◌∙◌, ◌≡◌, ap}
use mathlib.Core.Bool.{true}
use mathlib.Core.List.{List, ◌++◌}
use Prim.Native.Nat.{ℕ, ◌+◌, ◌-◌, ◌^◌, ◌<◌, ◌≤◌}
use native.Mathlib.Omega.{arith}
use lib.Bits.{bit_xor}
use lib.ListN.{length, get_or, replicate, take}
use Rattle.bank.specs.Limits.{ROWS}
use Rattle.algebra.specs.Elimination.{Echelon, built, with_entry}
use Rattle.algebra.specs.Matrix.{columns, kernel, singular}
use Rattle.algebra.proofs.Basis.{rest_of, used_of}
use Rattle.algebra.proofs.Built.{built_count, built_next}
use Rattle.algebra.proofs.Loops.{grown_entry}
use Rattle.algebra.proofs.Questions.{AllMarked, all-marked, none_marked}
use Rattle.algebra.proofs.Singular.{kernel_regular}
use Rattle.elimination.proofs.Exact.{exactly, exactly-length, kernel_exact, marked_exact, singular_exact}
use Rattle.elimination.proofs.questions.sweep.Goals as goal

-- column j, reduced by the entries of the columns before it, which are all marked
module _ (rows : List ℕ) (few : length rows ≤ ROWS) {out : List ℕ}
    (held : out ≡ columns (length rows) rows ++ replicate (ROWS - length rows) 0) {j left tag unit : ℕ} {e : Echelon} (below : j < length rows)
    (before : e ≡ built ROWS (columns (length rows) rows) j) (left_is : left ≡ rest_of e (get_or (take (length rows) out) j 0))
    (unit_is : unit ≡ 2 ^ j) (tag_is : tag ≡ bit_xor unit (used_of e (get_or (take (length rows) out) j 0))) (marked : AllMarked (length rows) rows j) where
  left_of : left ≡ rest_of e (get_or (columns (length rows) rows) j 0)
  left_of = rw (exactly ROWS (length rows) rows out held) at left_is

  tag_of : tag ≡ bit_xor unit (used_of e (get_or (columns (length rows) rows) j 0))
  tag_of = rw (exactly ROWS (length rows) rows out held) at tag_is

  summed : left ≡ 0 → (singular (length rows) rows ≡ true) × (tag ≡ kernel (length rows) rows)
  summed z = (
    singular_exact ROWS rows few (omega arith) j left tag unit e below before left_of unit_is tag_of marked z,
    kernel_exact ROWS rows few (omega arith) j left tag unit e below before left_of unit_is tag_of marked z,
  )

  kept : (left ≡ 0 → ⊥) → {after : Echelon} → after ≡ with_entry e left tag
      → (after ≡ built ROWS (columns (length rows) rows) (j + 1)) × AllMarked (length rows) rows (j + 1)
  kept f a =
      let v = get_or (columns (length rows) rows) j 0 in
      let grown = grown_entry e _ j v _ _ a left_of f (tag_of ∙ ap (λ (x : ℕ). bit_xor x (used_of e v)) unit_is) in (
        built_next ROWS (columns (length rows) rows) j _ _ before grown,
        marked_exact ROWS rows few (omega arith) j left tag unit e below before left_of unit_is tag_of marked f,
      )

pub loop-j-init : goal.loop-j-init
unfolding built
loop-j-init c = (c.new-entries.ensures, none_marked (length c.args.rows.now) c.args.rows.now)

pub add-requires : goal.add-requires
add-requires c =
    let rows = c.args.rows.now in
    let long = exactly-length ROWS (length rows) rows _ c.columns-cols.ensures in
    let few = built_count ROWS _ _ _ c.loop-j.invariant.0 in
    omega arith

pub returns-then-left-eq0 : goal.returns-then-left-eq0
returns-then-left-eq0 c =
    let rows = c.args.rows.now in
    let long = exactly-length ROWS (length rows) rows _ c.columns-cols.ensures in
    let l = c.loop-j in
    let r = c.reduce-left.ensures in
    summed rows c.requires c.columns-cols.ensures (omega arith) l.invariant.0 r.left c.power.ensures r.tag l.invariant.1 c.if-left-eq0.true

pub loop-j-preserved : goal.loop-j-preserved
loop-j-preserved c =
    let rows = c.args.rows.now in
    let long = exactly-length ROWS (length rows) rows _ c.columns-cols.ensures in
    let l = c.loop-j in
    let r = c.reduce-left.ensures in
    kept rows c.requires c.columns-cols.ensures (omega arith) l.invariant.0 r.left c.power.ensures r.tag l.invariant.1 c.if-left-eq0.false c.add.ensures

pub returns : goal.returns
returns c =
    let rows = c.args.rows.now in
    let n = length rows in
    let l = c.loop-j in
    let long = exactly-length ROWS n rows _ c.columns-cols.ensures in
    let done : l.j ≡ n = omega arith in
    (kernel_regular n rows (all-marked n rows l.j (omega arith) l.invariant.1), l.invariant.0 ∙ ap (built ROWS (columns n rows)) done)
