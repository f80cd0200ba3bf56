use Rattle.std.proofs.Common.{arith}
use Rattle.timetable.proofs.LinkLemmas.{linked-more}
use Rattle.timetable.proofs.onward.link_calls.Goals as goal

pub loop-label-preserved : goal.loop-label-preserved
loop-label-preserved c =
    linked-more c.args.g.now.network c.args.g.now.state c.args.t c.args.first c.loop-label.label c.args.departures.now c.loop-label.departures c.link_named.new.departures (omega arith) c.loop-label.invariant (rw c.new.ensures at c.link_named.ensures)
