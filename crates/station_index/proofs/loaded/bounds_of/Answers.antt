use Rattle.station_index.proofs.SlotLemmas.{part-is}
use Rattle.station_index.proofs.loaded.bounds_of.Goals as goal

pub returns-clause-order : goal.returns-clause-order
returns-clause-order c = rw (c.start_of.ensures, c.end_of.ensures) (part-is c.args.ends.now c.args.count c.requires c.args.slot).order

pub returns-clause-within : goal.returns-clause-within
returns-clause-within c = rw c.end_of.ensures (part-is c.args.ends.now c.args.count c.requires c.args.slot).within
