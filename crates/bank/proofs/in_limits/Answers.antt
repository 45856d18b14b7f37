-- `bank::in_limits` meets its contract: a return of false breaks one limit, the last return has passed them all. Assumes nothing.
use mathlib.Core.Path.{sym}
use native.Mathlib.Omega.{arith}
use Rattle.bank.proofs.Limits.{allowed→limits, outside}
use Rattle.bank.proofs.in_limits.Goals as goal

pub returns-then-g-lt2 : goal.returns-then-g-lt2
returns-then-g-lt2 c = sym (outside _ (λ k. omega arith))

pub returns-then-g : goal.returns-then-g
returns-then-g c = sym (outside _ (λ k. omega arith))

pub returns-then-g-2 : goal.returns-then-g-2
returns-then-g-2 c = sym (outside _ (λ k. omega arith))

pub returns-then-g-3 : goal.returns-then-g-3
returns-then-g-3 c = sym (outside _ (λ k. omega arith))

pub returns-then-g-4 : goal.returns-then-g-4
returns-then-g-4 c = sym (outside _ (λ k. omega arith))

pub returns-then-g-lt1 : goal.returns-then-g-lt1
returns-then-g-lt1 c = sym (outside _ (λ k. omega arith))

pub returns-then-g-gt-BYTES : goal.returns-then-g-gt-BYTES
returns-then-g-gt-BYTES c = sym (outside _ (λ k. omega arith))

pub returns : goal.returns
returns c =
    sym (allowed→limits _ (record {
      n_low = omega arith;
      n_high = omega arith;
      block_below = omega arith;
      memory_below = omega arith;
      drives_fit = omega arith;
      r_low = omega arith;
      r_high = omega arith;
    }))
