-- `running::any_pass` meets its contract: a search that passed only passes that fail the test. Assumes nothing.
use mathlib.Core.Path.{◌≡◌, refl, ap, sym, ◌∙◌}
use mathlib.Core.Bool.{Bool, false}
use mathlib.Core.List.{List}
use Prim.Native.Nat.{ℕ, ◌+◌, ◌-◌, ◌*◌}
use native.Mathlib.Omega.{arith}
use borrow.Author.Count.{below_more}
use denote.Param.Members.{Shared}
use denote.Ref.{Bor}
use lib.ListN.{take, drop}
use Rattle.std.specs.Fn.{FnReturnsAt}
use Rattle.bank.specs.Limits.{ROWS}
use Rattle.algebra.proofs.Search.{any_intro, none_intro}
use Rattle.running.proofs.any_pass.Goals as goal

-- the answer to a call is one at the rows of pass p
answered : {F : Type 0} (f : Shared F (Bor (List ℕ) × Unit {0}) Bool) (test : F) (rows : List ℕ) (p n : ℕ) (part : Bor (List ℕ)) (answer : Bool)
    → part.now ≡ take (p * ROWS + n - p * ROWS) (drop (p * ROWS) rows) → f.post test (part, tt) answer
    → FnReturnsAt f test (take n (drop (p * ROWS) rows)) answer
answered f test rows p n part answer is met =
    let same : p * ROWS + n - p * ROWS ≡ n = omega arith in
    record { shown = part; shows = is ∙ ap (λ (k : ℕ). take k (drop (p * ROWS) rows)) same; says = record { met = met } }

pub returns-then-test : goal.returns-then-test
returns-then-test g c = λ asked ok.
    let a = c.args in
    let p = c.loop-p.p in
    let here = ok _ _ (answered g.F.Fn a.test a.rows.now p a.n _ c.test.result refl c.test.ensures) in
    sym (any_intro (λ p. asked (take a.n (drop (p * ROWS) a.rows.now))) a.count p c.loop-p-test.true (sym here ∙ c.if-test.true))

pub loop-p-preserved : goal.loop-p-preserved
loop-p-preserved g c = λ asked ok.
    let a = c.args in
    let p = c.loop-p.p in
    let here = ok _ _ (answered g.F.Fn a.test a.rows.now p a.n _ c.test.result refl c.test.ensures) in
    below_more (λ p. asked (take a.n (drop (p * ROWS) a.rows.now)) ≡ false) p (c.loop-p.invariant asked ok) (sym here ∙ c.if-test.false)

pub returns : goal.returns
returns g c = λ asked ok.
    let a = c.args in
    sym (none_intro (λ p. asked (take a.n (drop (p * ROWS) a.rows.now))) a.count (λ k h. c.loop-p.invariant asked ok k (omega arith)))
