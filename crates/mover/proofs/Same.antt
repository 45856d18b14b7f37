-- When are lent buffers still the same ones? Assumes nothing.
use mathlib.Core.Path.{refl, ◌∙◌}
use Rattle.mover.specs.Lent.{SameLent}
use Rattle.mover.specs.declared.lent.Lent.{Lent}

pub same_self : (v : Lent) → SameLent v v
same_self v = record { area0_same = refl; area1_same = refl; memory_same = refl; area0_long = refl; area1_long = refl; memory_long = refl }

pub same_after : {u v w : Lent} → SameLent u v → SameLent v w → SameLent u w
same_after a b =
    record {
      area0_same = b.area0_same ∙ a.area0_same;
      area1_same = b.area1_same ∙ a.area1_same;
      memory_same = b.memory_same ∙ a.memory_same;
      area0_long = b.area0_long ∙ a.area0_long;
      area1_long = b.area1_long ∙ a.area1_long;
      memory_long = b.memory_long ∙ a.memory_long;
    }
