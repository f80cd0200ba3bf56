use Rattle.std.proofs.Common.{◌≡◌, drop}
use Rattle.conn_scan.specs.Arrivals.{first_time}
use Rattle.conn_scan.proofs.arrivals.first_time.Given as goal

abbrev pub invariant-loop-x : goal.invariant-loop-x
invariant-loop-x l = first_time l.first (drop l.x-index l.reached) ≡ first_time l.fn.time l.reached
