use Rattle.change_times.proofs.Words.{◌≡◌, take, map, link_of}
use Rattle.change_times.proofs.near.links.Given as goal

abbrev pub invariant-loop-row : goal.invariant-loop-row
invariant-loop-row l = l.links.items ≡ map (link_of l.direction) (take l.row-index l.rows)
