use Rattle.dep_order.proofs.Words.{◌≡◌}
use Rattle.dep_order.specs.CallNumbering.{labels_of}
use Rattle.dep_order.specs.Loaded.{first_loaded}
use Rattle.dep_order.proofs.order.DepartureOrder.build.Given as goal

-- so many departures have their numbers
abbrev pub invariant-loop-departure : goal.invariant-loop-departure
invariant-loop-departure l = record {
  entries : l.order.entries ≡ first_loaded l.departure-index l.fn.departures l.fn.spare;
  used : l.order.used ≡ l.departure-index;
  labels : l.order.labels ≡ labels_of l.fn.numbers;
  spare_trains : l.order.spare_trains ≡ l.fn.numbers.spare_trains;
  spare_calls : l.order.spare_calls ≡ l.fn.numbers.spare_calls;
}
