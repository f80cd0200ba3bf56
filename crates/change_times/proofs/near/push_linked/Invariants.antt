use Rattle.change_times.proofs.Words.{◌≡◌, ◌++◌, drop, flat_map, with_members}
use Rattle.change_times.proofs.near.push_linked.Given as goal

abbrev pub invariant-loop-link : goal.invariant-loop-link
invariant-loop-link l =
    l.all.items ++ flat_map (with_members l.members) (drop l.link-index l.links)
    ≡ l.initial.all.items ++ flat_map (with_members l.members) l.links
