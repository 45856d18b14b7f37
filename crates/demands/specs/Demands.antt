-- What is asked of a mover? The three demands. Assumes nothing.
use Rattle.demands.specs.Mover.{Mover}
use Rattle.demands.specs.Answers.{Answers}
use Rattle.demands.specs.Sends.{Sends}
use Rattle.demands.specs.Delivers.{Delivers}

pub record Demands (M : Mover) : Type 0 where
  -- every call takes any input, ends, and refuses by number what it can't use; a refusal changes no lent byte and hands back what the rules name
  pub demand1 : Answers M
  -- an accepted order sends x to Ax xor c, asking backwards gives the only x that goes there,
  -- and an order in good form is singular exactly when two addresses share a target
  pub demand2 : Sends M
  -- a plan's steps sent in turn, the latest again at will, refused calls between:
  -- at the end the named area holds at Ax xor c the record that began at x, for every x
  pub demand3 : Delivers M
