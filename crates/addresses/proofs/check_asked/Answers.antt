-- `addresses::check_asked` meets its contract: the order's number and z, then 10, then none. Assumes nothing.
use mathlib.Core.Path.{◌≡◌, ap, sym, ◌∙◌}
use mathlib.Core.Bool.{Bool}
use native.Mathlib.Omega.{arith}
use borrow.Author.Tests.{le-leb, lt-leb}
use Rattle.std.proofs.lemmas.Result.{err_from_is_err_and}
use Rattle.bank.specs.Checks.{refuse}
use Rattle.bank.specs.Geometry.{records}
use Rattle.bank.proofs.Limits.{limits→allowed}
use Rattle.bank.proofs.Refusals.{refuses}
use Rattle.order.specs.Order.{judgement}
use Rattle.order.specs.declared.Verdict.{Verdict}
use Rattle.order.proofs.Accepted.{judgement→accepted}
use Rattle.addresses.proofs.Asked.{question_judged, question_taken}
use Rattle.addresses.proofs.check_asked.Goals as goal

pub returns-in_err-check : goal.returns-in_err-check
returns-in_err-check c =
    let p = err_from_is_err_and c.from_residual.result c.from_residual.ensures.1 in
    let e = c.in_err-check.ensures in
    rw (p.1, p.2) (e ∙ question_judged _ _ (λ z. refuses _ (ap (λ (v : Verdict). v.number) e ∙ z)))

pub power-requires : goal.power-requires
power-requires c =
    let taken : judgement c.args.order ≡ 0 = sym (ap (λ (v : Verdict). v.number) c.in_ok-check.ensures) in
    let ok = limits→allowed _ (judgement→accepted _ taken).inside in omega (arith, ok.n_high)

pub returns-then-power-x : goal.returns-then-power-x
returns-then-power-x c =
    let taken : judgement c.args.order ≡ 0 = sym (ap (λ (v : Verdict). v.number) c.in_ok-check.ensures) in
    question_taken _ _ _ taken
    (sym (ap (λ (t : Bool). refuse t 10 0) (le-leb (records c.args.order.geometry) _ (rw (← c.power.ensures) c.if-power-x.true))))

pub returns : goal.returns
returns c =
    let taken : judgement c.args.order ≡ 0 = sym (ap (λ (v : Verdict). v.number) c.in_ok-check.ensures) in
    question_taken _ _ _ taken
    (sym (ap (λ (t : Bool). refuse t 10 0) (lt-leb (records c.args.order.geometry) _ (rw (← c.power.ensures) c.if-power-x.false))))
