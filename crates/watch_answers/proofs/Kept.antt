-- Between the lines each watched journey has the standing that is kept of it.
use Rattle.std.proofs.Common.{◌≡◌, inl, inr, ℕ, false, List, [], Option, Some, None, Result, Ok, Err, get_or, refl, sym, ◌∙◌, ap, subst, ◌++◌}
use Rattle.std.specs.Option.{option_map_or}
use Rattle.std.specs.Result.{OnOk}
use Rattle.std.proofs.lemmas.Bool.{cases_Bool}
use Rattle.std.proofs.lemmas.List.{append-nil}
use Rattle.std.proofs.lemmas.List.Elements.{All-push}
use Rattle.schedule_build.specs.Directory.{Names}
use Rattle.delay_model.specs.declared.messages.Message.{Message}
use Rattle.delay_model.specs.declared.messages.Refusal.{Refusal}
use Rattle.delay_model.specs.declared.network.Network.{Network}
use Rattle.delay_model.specs.declared.state.State.{State}
use Rattle.delay_model.specs.Effect.{effect}
use Rattle.delay_model.specs.Refusals.{refusal}
use Rattle.delay_model.specs.Valid.{IsValid}
use Rattle.delay_model.specs.Journeys.{IsJourney}
use Rattle.delay_report.specs.declared.replies.Reply.{Reply}
use Rattle.delay_report.specs.declared.replies.Reply.TheVariants.{Journey}
use Rattle.delay_model.specs.After.{accepted_message}
use Rattle.information_service.specs.Following.{HasJustTaken, IsFollowed, IsFollowedBy}
use Rattle.information_service.specs.Output.{IsReplyToQuery}
use Rattle.information_service.specs.ServiceState.{ServiceState, after_message}
use Rattle.journey_watch.specs.declared.watched.Watched.{Watched}
use Rattle.journey_watch.specs.Watching.{AreElsewhereKept, WatchState, first_watched, standing_in}
use Rattle.journey_watch.proofs.Changes.{renewed-kept, told-changes}
use Rattle.message_reader.specs.declared.wire.Wire.{Wire}
use Rattle.mt_base.specs.declared.journeys.PlanRide.{PlanRide}
use Rattle.mt_base.specs.declared.journeys.Query.{Query}
use Rattle.standing_laws.specs.declared.standings.Alert.{Alert}
use Rattle.standing_laws.specs.declared.standings.Standing.TheVariants.{Good}
use Rattle.standing_laws.specs.Standings.{is_on_one}
use Rattle.standing_laws.proofs.Begun.{begins, stands}
use Rattle.standing_laws.proofs.Untouched.{untouched}
use Rattle.timetable.specs.Changed.{changed_nodes}
use Rattle.timetable.specs.TimetableState.{TimetableState}
use Rattle.timetable.proofs.Changed.{changed-each}
use Rattle.watch_answers.specs.WatchedMessages.{alerts_behind, are_kept, are_told, kept_behind, texts_of_alerts}
use Rattle.watch_answers.specs.WatchedQueries.{has_room, with_shown}

-- ---- messages

-- a journey of whose trains the message changes no event has the standing that is kept of it
pub elsewhere-kept : (t : TimetableState) (kept : WatchState) → HasJustTaken are_kept t kept → AreElsewhereKept t.network t.state t.changed kept.watched
elsewhere-kept t kept h = λ k d within off.
    let w = get_or kept.watched k d in
    let new = effect h.before h.message in
    let nodes = changed_nodes t.network h.before new in
    let named : t.changed ≡ nodes = h.changed_are ∙ ap (changed_nodes t.network h.before) h.state_is in
    let apart : is_on_one nodes w.rides ≡ false = subst (λ ns. is_on_one ns w.rides ≡ false) named off in
    let same = untouched t.network h.before h.message h.valid h.formed h.accepted nodes (λ v there. changed-each t.network h.before new v there) w.query w.rides apart in
    ap (λ st. standing_in t.network st w) h.state_is ∙ same ∙ h.ready k d within

kept-by : (t : ServiceState) (w : Wire) (m : Message) (o : Option Refusal) → refusal t.network t.state m ≡ o → (kept : WatchState) (told : Option (List Alert)) (now : WatchState)
    → IsFollowed are_told t (Ok m) kept told now → are_kept t.network t.state kept
    → are_kept (after_message t w (Ok m)).network (after_message t w (Ok m)).state now
kept-by t w m None is kept told now follows are =
    let h = rw is at follows in
    rw (is, h.2.1) (renewed-kept t.network (effect t.state m) kept.watched)
kept-by t w m (Some r) is kept told now follows are =
    let h = rw is at follows in
    rw (is, h.1) are

-- so they are behind a message
pub kept-behind : (t : ServiceState) (w : Wire) (read : Result Message Refusal) (kept : WatchState) (told : Option (List Alert)) (now : WatchState)
    → IsFollowed are_told t read kept told now → are_kept t.network t.state kept → are_kept (after_message t w read).network (after_message t w read).state now
kept-behind t w (Ok m) kept told now follows are = kept-by t w m (refusal t.network t.state m) refl kept told now follows are
kept-behind t w (Err r) kept told now follows are = rw follows.1 are

-- what is told is what the message changes
told-by : (t : ServiceState) (o : Option Message) (kept : WatchState) (told : Option (List Alert)) (now : WatchState)
    → IsFollowedBy are_told t.network t.state kept told now o → are_kept t.network t.state kept
    → (option_map_or (λ (alerts : List Alert). alerts) told [] ≡ alerts_behind t kept o) × (now ≡ kept_behind t kept o)
told-by t None kept told now follows are = (ap (λ (o : Option (List Alert)). option_map_or (λ (alerts : List Alert). alerts) o []) follows.0, follows.1)
told-by t (Some m) kept told now follows are = (
  ap (λ (o : Option (List Alert)). option_map_or (λ (alerts : List Alert). alerts) o []) follows.1
      ∙ follows.2.0 ∙ told-changes t.network t.state (effect t.state m) kept.watched are,
  follows.2.1,
)

pub told-behind : (t : ServiceState) (read : Result Message Refusal) (kept : WatchState) (told : Option (List Alert)) (now : WatchState)
    → IsFollowed are_told t read kept told now → are_kept t.network t.state kept
    → (option_map_or (λ (alerts : List Alert). alerts) told [] ≡ alerts_behind t kept (accepted_message t.network t.state read))
    × (now ≡ kept_behind t kept (accepted_message t.network t.state read))
told-behind t read kept told now follows are = told-by t (accepted_message t.network t.state read) kept told now follows are

-- the reply with the lines of what is told
pub text-told : (names : Names) (line : ℕ) (text grown replied : List ℕ) (alerts told : List Alert) → grown ≡ text ++ texts_of_alerts names line alerts → text ≡ replied → alerts ≡ told
    → grown ≡ replied ++ texts_of_alerts names line told
text-told names line text grown replied alerts told more is same = more ∙ λ i. is i ++ texts_of_alerts names line (same i)

pub text-silent : (names : Names) (line : ℕ) (text replied : List ℕ) (told : List Alert) → text ≡ replied → [] ≡ told → text ≡ replied ++ texts_of_alerts names line told
text-silent names line text replied told is none = is ∙ sym (append-nil replied) ∙ ap (λ told. replied ++ texts_of_alerts names line told) none

-- ---- queries

-- a journey begins to be watched with its standing
first-kept : (nw : Network) (st : State) → IsValid nw st → (number day : ℕ) (q : Query) (rides : List PlanRide) (at : ℕ) → IsJourney nw st q rides at
    → standing_in nw st (first_watched number day q rides) ≡ (first_watched number day q rides).standing
first-kept nw st valid number day q rides at is = stands nw st valid q rides at is ∙ ap Good (sym (begins nw st valid q rides at is))

shown-by : (nw : Network) (st : State) → IsValid nw st → (line number count day : ℕ) (q : Query) (rides : List PlanRide) (at : ℕ) → IsJourney nw st q rides at → (kept : WatchState)
    → are_kept nw st kept
    → are_kept nw st (with_shown kept number q (Journey line count day at rides))
shown-by nw st valid line number count day q rides at is kept are = elim (cases_Bool (has_room kept)) [
  | inl room ↦ rw room (All-push (λ (w : Watched). standing_in nw st w ≡ w.standing) kept.watched (first_watched number day q rides) are (first-kept nw st valid number day q rides at is))
  | inr full ↦ rw full are
]

-- so they are when a journey is watched
pub kept-shown : (nw : Network) (st : State) → IsValid nw st → (line number count day : ℕ) (q : Query) (reply : Reply) → IsReplyToQuery nw st count line day q reply → (kept : WatchState)
    → are_kept nw st kept
    → are_kept nw st (with_shown kept number q reply)
kept-shown nw st valid line number count day q reply (inl found) kept are =
    subst (λ r. are_kept nw st (with_shown kept number q r)) (sym found.2) (shown-by nw st valid line number count day q found.1 found.0 found.3.journey kept are)
kept-shown nw st valid line number count day q reply (inr none) kept are =
    subst (λ r. are_kept nw st (with_shown kept number q r)) (sym none.0) are

pub on-ok : {X E : Type 0} (r : Result X E) (P : Type 0) → P → OnOk r P
on-ok (Ok x) P p = p
on-ok (Err e) P p = tt
