use Rattle.std.proofs.Common.{rules}
use Rattle.dep_order.specs.Departing.{leaves_before}
use Rattle.dep_order.proofs.departure.Departure.leaves_before.Goals as goal

pub returns : goal.returns
unfolding leaves_before
returns c = search rules
