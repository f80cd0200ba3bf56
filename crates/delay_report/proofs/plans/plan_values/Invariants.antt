use Rattle.std.proofs.Common.{◌≡◌, ◌++◌, map, drop}
use Rattle.serde_json.specs.View.{view, items_of}
use Rattle.delay_report.specs.Plans.{plan_object, plan_objects}
use Rattle.delay_report.proofs.plans.plan_values.Given as goal

abbrev pub invariant-loop-plan : goal.invariant-loop-plan
invariant-loop-plan l = items_of (map view l.values.items ++ map (plan_object l.dir l.day) (drop l.plan-index l.plans)) ≡ plan_objects l.dir l.day l.plans
