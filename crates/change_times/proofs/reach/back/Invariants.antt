use Rattle.change_times.proofs.Words.{◌≡◌, reached_back}
use Rattle.change_times.proofs.CountLemmas.{lists_of}
use Rattle.change_times.proofs.reach.back.Given as goal

abbrev pub invariant-loop-number : goal.invariant-loop-number
invariant-loop-number l = l.lists ≡ lists_of (reached_back l.table) l.number
