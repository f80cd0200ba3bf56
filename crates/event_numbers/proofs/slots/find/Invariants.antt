use Rattle.event_numbers.proofs.Words.{◌≡◌, ◌≤◌, IsLink}
use Rattle.event_numbers.proofs.slots.find.Given as goal

-- an entry of the train, and none before the one wanted
abbrev pub invariant-loop-at : goal.invariant-loop-at
invariant-loop-at l = IsLink l.added l.at × (l.at.train ≡ l.fn.from.train) × (l.nth ≤ l.at.nth)

abbrev pub decreases-loop-at : goal.decreases-loop-at
decreases-loop-at l = l.at.nth
