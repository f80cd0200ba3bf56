use Rattle.std.proofs.Common.{◌≡◌, All, vec_len}
use Rattle.snapshot_board.specs.Meetings.{newcomer}
use Rattle.snapshot_board.proofs.board.open_viewers.Given as goal

abbrev pub invariant-loop : goal.invariant-loop
invariant-loop g l = (vec_len l.viewers ≡ l.counter) × All (λ v. v ≡ newcomer) l.viewers.items
