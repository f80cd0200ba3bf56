use Rattle.change_times.proofs.Words.{◌≡◌, ◌++◌, drop, filter_map, change_at}
use Rattle.change_times.proofs.reach.push_changes.Given as goal

abbrev pub invariant-loop-other : goal.invariant-loop-other
invariant-loop-other l =
    l.list.items ++ filter_map (change_at l.table l.direction l.place) (drop l.other-index l.near)
    ≡ l.initial.list.items ++ filter_map (change_at l.table l.direction l.place) l.near
