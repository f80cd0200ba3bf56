use Rattle.std.proofs.Common.{Some, ap, sym, ◌-◌, ◌∙◌}
use Rattle.timetable.proofs.LinkLemmas.{linked-with, used-is}
use Rattle.timetable.proofs.onward.link_made.Goals as goal

pub returns : goal.returns
returns c =
    let g = c.args.g.now in
    let next = used-is g.network g.state c.args.t 0 c.get.result ((rw c.trains.ensures.trains at c.next_label.ensures.label) ∙ ap Some (sym c.get.ensures)) in
    linked-with g.network g.state c.args.t (c.get.result - c.args.count) c.args.from c.args.count c.args.departures.now c.link_named.new.departures c.link_calls.new.departures (ap (λ n. n - c.args.count) (sym next)) c.link_named.ensures c.link_calls.ensures
