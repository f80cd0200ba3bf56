use Rattle.std.proofs.Common.{◌≡◌, ℕ, ◌-◌, length, map}
use Rattle.journey_watch.specs.Trains.{journeys_on}
use Rattle.journey_watch.proofs.trains.grow.Given as goal

abbrev pub invariant-loop-alloc : goal.invariant-loop-alloc
invariant-loop-alloc l = (train : ℕ) → journeys_on (map (λ row. row.items) l.rows.items) train ≡ journeys_on (map (λ row. row.items) l.initial.rows.items) train

abbrev pub decreases-loop-alloc : goal.decreases-loop-alloc
decreases-loop-alloc l = l.count - length l.rows.items
