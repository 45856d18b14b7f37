-- `plan::make::plan_made` meets its contract: each iteration stores one of the passes that are to come, and the last call what is left. Assumes nothing.
use mathlib.Core.Path.{◌∙◌, sym}
use native.Mathlib.Omega.{arith}
use Rattle.bank.proofs.Limits.{limits→allowed}
use Rattle.plan.proofs.Making.{make_end, make_goes, make_room, make_start, make_once, make_whole}
use Rattle.plan.proofs.make.plan_made.Goals as goal

pub operate-requires : goal.operate-requires
operate-requires c = let k = limits→allowed _ c.requires.0 in (omega (arith, k.block_below), omega (arith, k.memory_below), omega (arith, k.n_high))

pub rounds-init : goal.rounds-init
rounds-init c =
    let a = c.args in
    let o = c.operate in
    let e = c.no_passes-plan in
    make_start a.g a.rows.now a.c a.blanks c.requires.0 c.requires.1 c.requires.2 o.result.cols o.result.p o.ensures.cols o.ensures.p e.result e.ensures

pub with_pass-plan-requires : goal.with_pass-plan-requires
with_pass-plan-requires c = make_room c.rounds.invariant

pub rounds-smaller : goal.rounds-smaller
rounds-smaller c = omega (arith, make_goes c.rounds.invariant (sym c.is_busy.ensures ∙ c.rounds-test.true))

pub rounds-preserved : goal.rounds-preserved
rounds-preserved c =
    let r = c.round-r in
    let f = c.rows_after in
    let w = c.with_pass-plan in
    make_once c.rounds.invariant (sym c.is_busy.ensures ∙ c.rounds-test.true) r.result.pass r.result.cols
    c.identity-q.result f.result w.result r.ensures.pass r.ensures.cols c.identity-q.ensures f.ensures w.ensures

pub with_pass-requires : goal.with_pass-requires
with_pass-requires c = make_room c.rounds.invariant

pub returns : goal.returns
returns c =
    let a = c.args in
    let o = c.operate in
    let e = c.no_passes-plan in
    let f = c.rows_after-2 in
    let w = c.with_pass in
    make_end c.rounds.invariant (sym c.is_busy.ensures ∙ c.rounds-test.false) f.result w.result f.ensures w.ensures
    ∙ make_whole a.g a.rows.now a.c a.blanks c.requires.0 c.requires.1 c.requires.2 o.result.cols o.result.p o.ensures.cols o.ensures.p e.result e.ensures
