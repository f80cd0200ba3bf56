use Rattle.std.proofs.Common.{◌≡◌}
use Rattle.delay_model.specs.Events.{train_events}
use Rattle.delay_model.specs.Refusals.{contradicted_at}
use Rattle.graph_edit.proofs.ValueLemmas.{to_find}
use Rattle.graph_edit.proofs.values.check_time.Given as goal

-- no event so far is contradicted
abbrev pub invariant-loop-event : goal.invariant-loop-event
invariant-loop-event l = to_find l.passed l.replaces l.t l.n l.event-iterator ≡ contradicted_at l.replaces l.t l.n (train_events l.g.state l.n.train)
