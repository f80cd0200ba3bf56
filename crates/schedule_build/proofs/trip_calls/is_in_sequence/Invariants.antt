use Rattle.schedule_build.proofs.Words.{◌≡◌, drop, is_rising, sequence}
use Rattle.schedule_build.proofs.trip_calls.is_in_sequence.Given as goal

abbrev pub invariant-loop-row : goal.invariant-loop-row
invariant-loop-row l = is_rising sequence l.last (drop l.row-index l.rows) ≡ is_rising sequence 0 l.rows
