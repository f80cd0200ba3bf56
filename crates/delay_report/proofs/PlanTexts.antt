-- The texts of plans.
use Rattle.std.proofs.Common.{◌≡◌, ℕ, List, [], ◌∷◌, false, map, refl, ap}
use Rattle.serde_json.specs.Data.{item}
use Rattle.serde_json.specs.View.{items_of}
use Rattle.serde_json.specs.Written.{items_have_float}
use Rattle.mt_base.specs.declared.journeys.Plan.{Plan}
use Rattle.schedule_build.specs.Directory.{Names}
use Rattle.delay_report.specs.Plans.{plan_object, plan_objects}
use Rattle.delay_report.proofs.ReplyTexts.{rides_are_whole}

-- the objects of plans, one after the other
pub plans_listed : (names : Names) (day : ℕ) (plans : List Plan) → items_of (map (plan_object names day) plans) ≡ plan_objects names day plans
unfolding plan_objects
plans_listed names day [] = refl
plans_listed names day (p ∷ ps) = ap (item (plan_object names day p)) (plans_listed names day ps)

-- no plan holds a floating-point number, so its text is known byte by byte
pub plans_are_whole : (names : Names) (day : ℕ) (plans : List Plan) → items_have_float (plan_objects names day plans) ≡ false
unfolding plan_objects
plans_are_whole names day [] = refl
plans_are_whole names day (p ∷ ps) = rw (rides_are_whole names p.rides) (plans_are_whole names day ps)
