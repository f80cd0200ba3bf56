use Rattle.std.proofs.Common.{◌≡◌, drop}
use Rattle.window_service.specs.Sums.{sums_after}
use Rattle.window_service.proofs.sums.ReplySums.add.Given as goal

abbrev pub invariant-loop-reply : goal.invariant-loop-reply
invariant-loop-reply l = sums_after l.self (drop l.reply-index l.replies) ≡ sums_after l.initial.self l.replies
