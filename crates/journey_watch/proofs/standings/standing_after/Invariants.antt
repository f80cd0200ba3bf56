use Rattle.std.proofs.Common.{◌≡◌, ◌+◌, ◌*◌, ◌≤◌, drop}
use Rattle.standing_laws.specs.Standings.{standing_after}
use Rattle.journey_watch.proofs.standings.standing_after.Given as goal

-- the rides that are left have from here the standing that all have from the beginning
abbrev pub invariant-loop-name : goal.invariant-loop-name
invariant-loop-name g l =
    (standing_after l.t.network l.t.state l.at.stop l.at.time l.number (drop l.name-index l.rides)
    ≡ standing_after l.t.network l.t.state l.from.stop l.from.time 1 l.rides)
    × (l.number ≡ l.name-index + 1)
    × (l.steps ≤ l.initial.steps + 2 * l.name-index)
