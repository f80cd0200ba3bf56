use Rattle.change_times.proofs.Words.{◌≡◌, ◌≤◌, Onward, listed}
use Rattle.change_times.proofs.CountLemmas.{lists_of, counted}
use Rattle.change_times.proofs.reach.onward.Given as goal

abbrev pub invariant-loop-number : goal.invariant-loop-number
invariant-loop-number l = record {
  lists : l.lists ≡ lists_of (listed l.table Onward) l.number;
  count : l.count ≡ counted l.table l.number;
  few : l.count ≤ 4000000;
}
