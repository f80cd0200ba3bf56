use Rattle.std.proofs.Common.{sym}
use Rattle.departures.proofs.RowLemmas.{held-call}
use Rattle.departures.proofs.boards.row_at.Goals as goal

pub goes_to-requires : goal.goes_to-requires
goes_to-requires c =
    let t = c.args.t.now in
    rw (c.trains.ensures.trains, c.graph.ensures.state)
    (held-call t.network t.state c.args.order.now c.state_is_valid.ensures c.requires.order
    c.args.d.now.number c.in_ok-event.field-0 (sym c.in_ok-event.ensures))
