use Rattle.schedule_build.proofs.Words.{arith, common_steps}
use Rattle.schedule_build.proofs.ExtraLemmas.{found-none}
use Rattle.schedule_build.proofs.extra_trains.ExtraTrains.with_room.Goals as goal

pub invariant_of-result : goal.invariant_of-result
invariant_of-result c = grind (arith, common_steps, found-none, c.in_ok-with_capacity.ensures, c.in_ok-with_capacity-2.ensures, c.requires.few)
