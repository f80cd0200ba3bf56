use Rattle.waiting_rules.proofs.Words.{◌≡◌, ◌<◌, ℕ, length, get_or}
use Rattle.waiting_rules.specs.Bounded.{IsStart}
use Rattle.waiting_rules.proofs.routes.starts.Given as goal

-- the rows so far begin at their places
abbrev pub invariant-loop-row : goal.invariant-loop-row
invariant-loop-row l = record {
  count : length l.starts.items ≡ l.row;
  each : (row d : ℕ) → row < l.row → IsStart l.bounds row (get_or l.starts.items row d);
}
