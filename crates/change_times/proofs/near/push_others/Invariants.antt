use Rattle.change_times.proofs.Words.{◌≡◌, ◌++◌, drop, map, other_of}
use Rattle.change_times.proofs.near.push_others.Given as goal

abbrev pub invariant-loop-link : goal.invariant-loop-link
invariant-loop-link l =
    l.all.items ++ map other_of (drop l.link-index l.links) ≡ l.initial.all.items ++ map other_of l.links
