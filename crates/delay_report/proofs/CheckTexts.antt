-- The texts of what is reached.
use Rattle.std.proofs.Common.{◌≡◌, ℕ, List, [], ◌∷◌, false, map, refl, ap}
use Rattle.serde_json.specs.Data.{item}
use Rattle.serde_json.specs.View.{items_of}
use Rattle.serde_json.specs.Written.{items_have_float}
use Rattle.mt_base.specs.declared.certificates.Reach.{Reach}
use Rattle.schedule_build.specs.Directory.{Names}
use Rattle.delay_report.specs.Checks.{reach_object, reach_objects}

-- the objects of reached stops, one after the other
pub reached_listed : (names : Names) (day : ℕ) (reached : List Reach) → items_of (map (reach_object names day) reached) ≡ reach_objects names day reached
unfolding reach_objects
reached_listed names day [] = refl
reached_listed names day (x ∷ xs) = ap (item (reach_object names day x)) (reached_listed names day xs)

-- no reached stop holds a floating-point number, so its text is known byte by byte
pub reached_are_whole : (names : Names) (day : ℕ) (reached : List Reach) → items_have_float (reach_objects names day reached) ≡ false
unfolding reach_objects
reached_are_whole names day [] = refl
reached_are_whole names day (x ∷ xs) = reached_are_whole names day xs
