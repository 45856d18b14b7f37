-- `listing::sound::Sound::pass_size` meets its contract: the line of its number, and a square of characters with their line's ends. Assumes nothing.
use native.Mathlib.Omega.{arith}
use borrow.Author.Rules.{rules}
use Rattle.bank.proofs.Limits.{square_small}
use Rattle.listing.specs.Listing.{pass_word}
use Rattle.text.proofs.Decimals.{line_short}
use Rattle.listing.proofs.Passes.{pass-length}
use Rattle.listing.proofs.sound.Sound.pass_size.Goals as goal

pub overflow_add-result-3 : goal.overflow_add-result-3
overflow_add-result-3 c =
    let s = c.args.self in
    omega (arith, c.line_size.ensures, line_short pass_word c.args.p, square_small s.plan.geometry.n s.rows)

pub returns : goal.returns
returns c =
    let s = c.args.self in
    omega (arith, c.line_size.ensures, pass-length s.plan s.rows (search rules) c.args.p (omega (arith, c.requires, s.few)))
