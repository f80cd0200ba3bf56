-- The texts of replies byte by byte.
use Rattle.std.proofs.Common.{◌≡◌, ℕ, List, [], ◌∷◌, ◌++◌, codes, false, map, refl, sym, ap, ◌∙◌, append_assoc}
use Rattle.std.specs.Prelude.{decimal}
use Rattle.serde_json.specs.Data.{item}
use Rattle.serde_json.specs.View.{items_of}
use Rattle.serde_json.specs.Written.{items_have_float}
use Rattle.serde_json.proofs.OnLiterals.{serde_json_on_literals}
use Rattle.mt_base.specs.declared.journeys.PlanRide.{PlanRide}
use Rattle.schedule_build.specs.Directory.{Names}
use Rattle.delay_report.specs.Journeys.{ride_object, ride_objects}
use Rattle.delay_report.specs.Replies.{accepted_object, line_of}

-- the objects of rides, one after the other
pub rides_listed : (names : Names) (rides : List PlanRide) → items_of (map (ride_object names) rides) ≡ ride_objects names rides
unfolding ride_objects
rides_listed names [] = refl
rides_listed names (r ∷ rides) = ap (item (ride_object names r)) (rides_listed names rides)

-- no ride holds a floating-point number, so its text is known byte by byte
pub rides_are_whole : (names : Names) (rides : List PlanRide) → items_have_float (ride_objects names rides) ≡ false
unfolding ride_objects
rides_are_whole names [] = refl
rides_are_whole names (r ∷ rides) = rides_are_whole names rides

pieces-joined : (a p b q c r e : List ℕ) → (((a ++ p) ++ (b ++ q)) ++ (c ++ r)) ++ e ≡ a ++ (p ++ (b ++ (q ++ (c ++ (r ++ e)))))
pieces-joined a p b q c r e = simp append_assoc

end-joined : (a p b q c r e f : List ℕ) → (a ++ (p ++ (b ++ (q ++ (c ++ (r ++ e)))))) ++ f ≡ a ++ (p ++ (b ++ (q ++ (c ++ (r ++ (e ++ f))))))
end-joined a p b q c r e f = simp append_assoc

-- the text of the reply to an accepted message
pub accepted-line : (line count changed : ℕ)
    → (((codes "{\"accepted\":" ++ decimal count) ++ (codes ",\"changed\":" ++ decimal changed)) ++ (codes ",\"line\":" ++ decimal line))
    ++ codes "}\n" ≡ line_of (accepted_object line count changed)
unfolding serde_json_on_literals
accepted-line line count changed =
    pieces-joined (codes "{\"accepted\":") (decimal count) (codes ",\"changed\":") (decimal changed) (codes ",\"line\":") (decimal line) (codes "}\n")
    ∙ sym (end-joined (codes "{\"accepted\":") (decimal count) (codes ",\"changed\":") (decimal changed) (codes ",\"line\":") (decimal line) (codes "}") (codes "\n"))
