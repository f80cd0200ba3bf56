use Rattle.change_times.proofs.Words.{◌≡◌, map, range_with_len, member}
use Rattle.change_times.proofs.near.members.Given as goal

abbrev pub invariant-loop-number : goal.invariant-loop-number
invariant-loop-number l = l.links.items ≡ map (member l.places) (range_with_len 0 l.number)
