use Rattle.std.proofs.Common.{◌≡◌, ◌≤◌, ◌++◌, List, length, map, filter, nat_le}
use Rattle.std.specs.List.{filter_map}
use Rattle.dep_order.specs.declared.departure.Leaving.{Leaving}
use Rattle.dep_order.specs.Ordered.{leaving_of}
use Rattle.board_laws.specs.declared.rows.BoardRow.{BoardRow}
use Rattle.departures.specs.Rows.{row_at}
use Rattle.departures.proofs.boards.board.Given as goal

-- with the rows of the departures that are left there are those of all, and there are not too many
abbrev pub invariant-loop-d : goal.invariant-loop-d
invariant-loop-d l =
    let rows_of : List Leaving → List BoardRow = filter_map (row_at l.t.network l.t.state l.order l.here.station) in
    record {
      whole : l.rows.items ++ rows_of l.d-iterator ≡ rows_of (map (leaving_of l.order) (filter (λ d. nat_le l.fn.since d.time) l.order.departures));
      few : length l.rows.items ≤ l.most;
    }
