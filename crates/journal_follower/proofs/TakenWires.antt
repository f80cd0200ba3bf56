-- A message that a board with its names takes.
use Rattle.std.proofs.Common.{◌≡◌, ℕ, ◌∷◌, ◌++◌, [], List, length, Bool, true, false, Option, Some, None, Result, Ok, Err, refl, ◌∙◌, ap, arith, append-nil}
use Rattle.std.specs.Option.{option_map_or}
use Rattle.delay_model.specs.Refusals.{refusal}
use Rattle.delay_model.specs.declared.messages.Message.{Message}
use Rattle.delay_model.specs.declared.messages.Refusal.{Refusal}
use Rattle.delay_model.specs.declared.messages.Refusal.TheVariants.{AgainstRank}
use Rattle.delay_report.specs.declared.replies.Reply.{Reply}
use Rattle.delay_report.specs.declared.replies.Reply.TheVariants.{Accepted}
use Rattle.information_service.specs.Output.{reply_to_refused}
use Rattle.information_service.specs.ServiceState.{ServiceState}
use Rattle.information_service.specs.Taking.{CanTake}
use Rattle.journal_replay.specs.Taking.{IsReadyFor, IsWireTaken}
use Rattle.message_reader.specs.declared.wire.Wire.{Wire}
use Rattle.message_reader.specs.declared.wire.Wire.TheVariants.{Extra}
use Rattle.message_reader.specs.Resolved.{resolved}
use Rattle.query_crew.specs.declared.window_line.WindowLine.TheVariants as shown
use Rattle.query_crew.specs.Posting.{IsTimetableAfter, StandsAt, IsTaken as IsPostedFor}
use Rattle.schedule_build.specs.Directory.{Names, day_named}
use Rattle.timetable.specs.TimetableState.{TimetableState}
use Rattle.journal_follower.specs.Boards.{BoardState, StandsAs}

-- it has as many messages as were posted
pub posted-count : {o : Option TimetableState} {posted : List Message} {names : Names} {s : ServiceState} → StandsAt o posted names s → s.count ≡ length posted
posted-count h = ap (λ (t : ServiceState). t.count) h.is

-- a board that is ready for a message can take one
pub can-take : {o : Option TimetableState} {b : BoardState (List Message)} → IsReadyFor (StandsAs o) b 1 → CanTake (IsTimetableAfter o) b.posted b.names
can-take {b = b} h =
    let at = h.stands.1 in
    record { timetable = at.timetable; count = length b.posted; held = (at.after, refl); room = omega (arith, h.room, posted-count at); in_step = at.in_step }

-- the reply says that the message is accepted
abbrev pub is_accepted : Reply → Bool
is_accepted (Accepted line number changed) = true
is_accepted _ = false

-- no other reply says so
pub not-other : (reply : Reply) → ((line number changed : ℕ) → reply ≡ Accepted line number changed → ⊥) → false ≡ is_accepted reply
not-other (Accepted line number changed) h = absurd (h line number changed refl)
not-other _ h = refl

by-day : (o : Option ℕ) (f : ℕ → Reply) (g : Reply) → ((day : ℕ) → is_accepted (f day) ≡ false) → is_accepted g ≡ false → is_accepted (option_map_or f o g) ≡ false
by-day None f g each other = other
by-day (Some day) f g each other = each day

-- that to a refused message does not
not-accepted : (names : Names) (line : ℕ) (w : Wire) (r : Refusal) → is_accepted (reply_to_refused names line w r) ≡ false
not-accepted names line (Extra trip date route calls) (AgainstRank from to) = by-day (day_named names date) _ _ (λ day. refl) refl
not-accepted names line w r = refl

-- what was posted for a message that is read as this one, with this answer
takes-by : (o : Option TimetableState) (old new : BoardState (List Message)) (s : ServiceState) (before : List Message)
    (number : ℕ) (w : Wire) (m : Message) (a : Option Refusal) (reply : Reply) (taken : Bool) → old.posted ≡ before → resolved s.names w ≡ Ok m → refusal s.network s.state m ≡ a
    → IsPostedFor o s number (shown.Message w) old.posted new.posted new.names (Some reply) → taken ≡ is_accepted reply → IsWireTaken (StandsAs o) s before w new taken
takes-by o old new s before number w m None reply taken is read accepts one says =
    let replied = rw (read, accepts) at one.replied in
    let yes_taken : taken ≡ true = cc in
    rw (read, accepts) (yes_taken, ((rw (read, accepts) at one.posted) ∙ ap (λ (l : List Message). l ++ m ∷ []) is, one.stands))
takes-by o old new s before number w m (Some r) reply taken is read refuses one says =
    let replied = rw (read, refuses) at one.replied in
    let refused = not-accepted s.names number w r in
    let not_taken : taken ≡ false = cc in
    rw (read, refuses) (not_taken, ((rw (read, refuses) at one.posted) ∙ append-nil old.posted ∙ is, rw (read, refuses) at one.stands))

takes-read : (o : Option TimetableState) (old new : BoardState (List Message)) (s : ServiceState) (before : List Message)
    (number : ℕ) (w : Wire) (read : Result Message Refusal) (reply : Reply) (taken : Bool) → old.posted ≡ before → resolved s.names w ≡ read
    → IsPostedFor o s number (shown.Message w) old.posted new.posted new.names (Some reply) → taken ≡ is_accepted reply → IsWireTaken (StandsAs o) s before w new taken
takes-read o old new s before number w (Ok m) reply taken is read one says = takes-by o old new s before number w m (refusal s.network s.state m) reply taken is read refl one says
takes-read o old new s before number w (Err r) reply taken is read one says =
    let replied = rw read at one.replied in
    let not_taken : taken ≡ false = cc in
    rw read (not_taken, ((rw read at one.posted) ∙ append-nil old.posted ∙ is, rw read at one.stands))

-- what the publisher posts for a message is what a board with its names takes
pub takes-posted : {o : Option TimetableState} {old new : BoardState (List Message)} {s : ServiceState} {before : List Message}
    {number : ℕ} {w : Wire} {reply : Reply} (taken : Bool) → StandsAs o old s before
    → IsPostedFor o s number (shown.Message w) old.posted new.posted new.names (Some reply) → taken ≡ is_accepted reply → IsWireTaken (StandsAs o) s before w new taken
takes-posted {o = o} {old = old} {new = new} {s = s} {before = before} {number = number} {w = w} {reply = reply} taken h one says =
    takes-read o old new s before number w (resolved s.names w) reply taken h.0 refl one says
