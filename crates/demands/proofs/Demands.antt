-- Has our mover what is asked of a mover? All three demands. Assumes nothing.
use Rattle.demands.specs.Ours.{ours}
use Rattle.demands.specs.Demands.{Demands}
use Rattle.demands.proofs.Answers.{ours_answers}
use Rattle.demands.proofs.Sends.{ours-sends}
use Rattle.demands.proofs.Delivers.{ours_delivers}

pub ours_has_all : Demands ours
ours_has_all = record { demand1 = ours_answers; demand2 = ours-sends; demand3 = ours_delivers }
