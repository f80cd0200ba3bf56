use Rattle.departures.specs.Rows.{LieBetween}
use Rattle.departures.proofs.boards.stops_of_station.Given as goal

-- of the stops so far those of the station lie between the two numbers
abbrev pub invariant-loop-number : goal.invariant-loop-number
invariant-loop-number l = LieBetween l.t.network.stops l.station l.first l.last l.number
