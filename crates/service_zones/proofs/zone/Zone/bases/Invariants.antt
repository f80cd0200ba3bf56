use Rattle.std.proofs.Common.{◌≡◌, pos, map, None}
use Rattle.std.specs.List.{range_with_len}
use Rattle.service_zones.specs.Bases.{base, day_of_wrong_length}
use Rattle.service_zones.proofs.zone.Zone.bases.Given as goal

-- the bases of the days so far
abbrev pub invariant-loop-day : goal.invariant-loop-day
invariant-loop-day l = map pos l.bases.items ≡ map (base l.self l.first) (range_with_len 0 l.day)
