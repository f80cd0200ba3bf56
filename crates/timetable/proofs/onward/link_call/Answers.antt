use Rattle.std.proofs.Common.{◌≡◌, Some, sym, ◌∙◌}
use Rattle.state_laws.proofs.Words.{calls_of}
use Rattle.train_nodes.specs.Calls.{label_after}
use Rattle.timetable.proofs.Lines.{label-there}
use Rattle.timetable.proofs.onward.link_call.Goals as goal

pub alighting_stop-requires : goal.alighting_stop-requires
alighting_stop-requires c =
    let e : label_after (calls_of c.args.g.now.state c.args.t) c.args.l ≡ Some c.in-Some.next = rw (← c.trains.ensures.trains) (sym c.next_call.ensures ∙ c.in-Some.is) in
    label-there (calls_of c.args.g.now.state c.args.t) c.args.l c.in-Some.next e
