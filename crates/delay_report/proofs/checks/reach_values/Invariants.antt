use Rattle.std.proofs.Common.{◌≡◌, ◌++◌, map, drop}
use Rattle.serde_json.specs.View.{view, items_of}
use Rattle.delay_report.specs.Checks.{reach_object, reach_objects}
use Rattle.delay_report.proofs.checks.reach_values.Given as goal

abbrev pub invariant-loop-reach : goal.invariant-loop-reach
invariant-loop-reach l = items_of (map view l.values.items ++ map (reach_object l.dir l.day) (drop l.reach-index l.reached)) ≡ reach_objects l.dir l.day l.reached
