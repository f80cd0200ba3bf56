-- What a viewer saw that is a beginning of what was posted.
use Rattle.std.proofs.Common.{◌≡◌, ◌∷◌, ◌++◌, [], List, length, take, fold, Option, Some, None, IsSome, Result, Ok, Err, refl, sym, ◌∙◌, ap, arith}
use mathlib.Core.List.{IsPrefix}
use Rattle.delay_model.specs.Refusals.{refusal}
use Rattle.delay_model.specs.declared.messages.Message.{Message}
use Rattle.delay_model.specs.declared.messages.Refusal.{Refusal}
use Rattle.information_service.specs.ServiceState.{ServiceState}
use Rattle.journal_replay.specs.Journals.{AreTaken, messages_in}
use Rattle.journal_replay.specs.Reading.{accepted_wire, after_wire}
use Rattle.message_reader.specs.Resolved.{resolved}
use Rattle.message_reader.specs.declared.wire.Wire.{Wire}
use Rattle.query_crew.specs.Posted.{timetable_after}
use Rattle.timetable.specs.TimetableState.{TimetableState, taken}
use Rattle.journal_follower.specs.Boards.{BoardState, StandsAs}
use Rattle.journal_follower.specs.Following.{IsTimetableOf}

-- a timetable that stands as a service does so behind a message that both take
steps-by : (t : TimetableState) (s : ServiceState) (w : Wire) (m n : Message) (a : Option Refusal) → IsTimetableOf t s [] → resolved s.names w ≡ Ok n → refusal s.network s.state n ≡ a
    → accepted_wire s w ≡ Some m → IsTimetableOf (taken t m) (after_wire s w) []
steps-by t s w m n None h read accepts some =
    let same : Some n ≡ Some m = rw (read, accepts) at some in
    let one : n ≡ m = grind arith in
    let held : refusal t.network t.state m ≡ None = rw (h.network, h.state, ← one) accepts in
    record { network = rw (held, read, accepts) h.network; state = rw (held, read, accepts, h.state, one) refl }
steps-by t s w m n (Some r) h read refuses some = absurd (let bad = rw (read, refuses) at some in cc)

steps-read : (t : TimetableState) (s : ServiceState) (w : Wire) (m : Message) (read : Result Message Refusal) → IsTimetableOf t s [] → resolved s.names w ≡ read
    → accepted_wire s w ≡ Some m → IsTimetableOf (taken t m) (after_wire s w) []
steps-read t s w m (Ok n) h read some = steps-by t s w m n (refusal s.network s.state n) h read refl some
steps-read t s w m (Err r) h read some = absurd (let bad = rw read at some in cc)

steps-on : (t : TimetableState) (s : ServiceState) (w : Wire) (m : Message) → IsTimetableOf t s [] → accepted_wire s w ≡ Some m → IsTimetableOf (taken t m) (after_wire s w) []
steps-on t s w m h some = steps-read t s w m (resolved s.names w) h refl some

-- the messages of a beginning lead to where as many messages of the journal lead
looked-by : (t : TimetableState) (s : ServiceState) (w : Wire) (ws : List Wire) (m : Message) (seen : List Message) (o : Option Message) → IsTimetableOf t s []
    → accepted_wire s w ≡ o → IsSome o → AreTaken (after_wire s w) ws → IsPrefix (m ∷ seen) (messages_in s (w ∷ ws))
    → (IsTimetableOf (taken t m) (after_wire s w) []) × IsPrefix seen (messages_in (after_wire s w) ws)
looked-by t s w ws m seen (Some n) h some there others begins =
    let whole : (m ∷ seen) ++ begins.0 ≡ messages_in s (w ∷ ws) = begins.1 in
    let listed : m ∷ (seen ++ begins.0) ≡ n ∷ messages_in (after_wire s w) ws = rw some at whole in
    let first : m ≡ n = grind arith in
    let rest : seen ++ begins.0 ≡ messages_in (after_wire s w) ws = grind arith in
    (steps-on t s w m h (some ∙ ap (λ (k : Message). Some k) (sym first)), (begins.0, rest))
looked-by t s w ws m seen None h some there others begins = absurd (cc)

looked-from : (t : TimetableState) (s : ServiceState) (ws : List Wire) (seen : List Message) → IsTimetableOf t s [] → AreTaken s ws → IsPrefix seen (messages_in s ws)
    → IsTimetableOf (fold taken t seen) s (take (length seen) ws)
looked-from t s ws [] h all begins = h
looked-from t s [] (m ∷ seen) h all begins = absurd (let bad : (m ∷ seen) ++ begins.0 ≡ [] = begins.1 in cc)
looked-from t s (w ∷ ws) (m ∷ seen) h all begins =
    let one = looked-by t s w ws m seen (accepted_wire s w) h refl all.0 all.1 begins in
    let rest = looked-from (taken t m) (after_wire s w) ws seen one.0 all.1 one.1 in
    record { network = rest.network; state = rest.state }

-- so do the messages of a beginning that a viewer saw
pub looked-at : (opens : Option TimetableState) (opening : BoardState (List Message)) (s : ServiceState) (ws : List Wire) (seen : List Message) (t : TimetableState) → StandsAs opens opening s []
    → AreTaken s ws → IsPrefix seen (messages_in s ws) → timetable_after opens seen ≡ Some t → IsTimetableOf t s (take (length seen) ws)
looked-at None opening s ws seen t h all begins is = absurd (cc)
looked-at (Some first) opening s ws seen t h all begins is =
    let same : fold taken first seen ≡ t = grind arith in
    let none : opening.posted ≡ [] = h.0 in
    let at = h.1 in
    let after = at.after in
    let opens : first ≡ at.timetable = (let e = rw none at after in grind arith) in
    let begun : IsTimetableOf first s [] = record { network = rw (opens, at.is) refl; state = rw (opens, at.is) refl } in
    rw (← same) (looked-from first s ws seen begun all begins)
