use Rattle.std.proofs.Common.{◌≡◌, All, length}
use Rattle.pareto_scan.specs.Levels.{HasLevelRoom}
use Rattle.pareto_scan.proofs.fronts.build_levels.Given as goal

-- so many tables are there, each with its rows
abbrev pub invariant-loop : goal.invariant-loop
invariant-loop l = (length l.levels.items ≡ l.counter) × All (HasLevelRoom l.stops) l.levels.items
