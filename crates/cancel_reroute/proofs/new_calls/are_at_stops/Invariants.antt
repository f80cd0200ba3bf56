use Rattle.std.proofs.Common.{◌≡◌, drop}
use Rattle.delay_model.specs.Refusals.{are_at_stops}
use Rattle.cancel_reroute.proofs.new_calls.are_at_stops.Given as goal

abbrev pub invariant-loop-call : goal.invariant-loop-call
invariant-loop-call l = are_at_stops l.g.network (drop l.call-index l.calls) ≡ are_at_stops l.g.network l.calls
