use Rattle.change_times.proofs.Words.{◌≡◌, length, HaveStarts}
use Rattle.change_times.proofs.transfers.starts.Given as goal

abbrev pub invariant-loop-place : goal.invariant-loop-place
invariant-loop-place l = record { count : length l.starts.items ≡ l.place; starts : HaveStarts l.rows l.starts.items }
