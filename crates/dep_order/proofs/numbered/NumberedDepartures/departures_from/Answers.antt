use Rattle.dep_order.proofs.ScanLemmas.{from-time}
use Rattle.dep_order.proofs.numbered.NumberedDepartures.departures_from.Goals as goal

pub returns : goal.returns
returns c = rw (← c.self.view_is) (from-time c.self.inside.lists c.args.time c.first_from-first.result.bucket c.first_from-first.result.number c.self.invariant c.first_from-first.ensures)
