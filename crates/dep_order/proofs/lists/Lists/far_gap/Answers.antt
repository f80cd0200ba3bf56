use Rattle.dep_order.proofs.Words.{refl}
use Rattle.dep_order.proofs.lists.Lists.far_gap.Goals as goal

pub far-init : goal.far-init
far-init c = record { bucket = refl; between = c.guided-front.ensures }
