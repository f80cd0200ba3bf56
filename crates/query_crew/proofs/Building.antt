-- A crew that was opened is ready for its first window.
use Rattle.query_crew.proofs.Words.{◌≡◌, List, [], ◌∷◌, ◌++◌, Option, Some, subst, sym, ◌∙◌, refl, Message, TimetableState}
use Rattle.std.specs.List.{All}
use Rattle.std.proofs.lemmas.List.Elements.{All-append, All-cons, All-nil}
use Rattle.std.proofs.lemmas.Option.{same_Some}
use Rattle.schedule_build.specs.Directory.{Names}
use Rattle.schedule_build.specs.InStep.{AreInStep}
use Rattle.query_crew.specs.declared.worker.Worker.{Worker}
use Rattle.query_crew.specs.Posted.{HasSearchRoom, IsRoomFor}
use Rattle.conn_scan.specs.ScratchState.{ScratchRoom}
use Rattle.information_service.specs.Taking.{service_with}
use Rattle.query_crew.specs.Posting.{HasService}

pub room-more : {V : Type 0} (ws : List (Worker V)) (w : Worker V) (room : ScratchRoom) → All (λ x. x.scratch.room ≡ room) ws → w.scratch.room ≡ room → All (λ x. x.scratch.room ≡ room) (ws ++ w ∷ [])
room-more ws w room before here = All-append (λ x. x.scratch.room ≡ room) ws (w ∷ []) before (All-cons (λ x. x.scratch.room ≡ room) w [] here (All-nil (λ x. x.scratch.room ≡ room)))

-- nothing was posted to the board yet
pub opened-board : (o : Option TimetableState) (t : TimetableState) (posted : List Message) (names : Names) → o ≡ Some t → posted ≡ [] → AreInStep names t.state → HasService o posted names
opened-board o t posted names opened none in_step =
    rw (opened, none) (service_with t 0 names, record { timetable = t; after = refl; is = refl; in_step = in_step })

pub opened-room : {V : Type 0} (o : Option TimetableState) (t : TimetableState) (ws : List (Worker V)) (room : ScratchRoom)
    → o ≡ Some t → IsRoomFor t room → All (λ w. w.scratch.room ≡ room) ws → All (λ w. HasSearchRoom o w.scratch.room) ws
opened-room o t ws room opened fits all = λ k d l u is.
    subst (IsRoomFor u) (sym (all k d l)) (subst (λ v. IsRoomFor v room) (same_Some t u (sym opened ∙ is)) fits)
