use Rattle.station_index.proofs.Words.{◌≡◌, ℕ, ◌<◌, true, false, get_or}
use Rattle.station_index.proofs.range.dead_at_front.Given as goal

-- no flag so far is set
abbrev pub invariant-loop-place : goal.invariant-loop-place
invariant-loop-place l = (k : ℕ) → k < l.place → get_or l.live k true ≡ false
