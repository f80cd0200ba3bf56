use Rattle.std.proofs.Common.{sym, ◌∙◌}
use Rattle.timetable.proofs.LinkLemmas.{linked-none}
use Rattle.timetable.proofs.onward.link_named.Goals as goal

pub returns-else-has : goal.returns-else-has
returns-else-has c =
    linked-none c.args.g.now.network c.args.g.now.state c.args.t c.args.l c.args.departures.now (rw c.trains.ensures.trains at (sym c.has.ensures ∙ c.if-has.false))
