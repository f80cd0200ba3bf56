-- A message that the publisher takes.
use Rattle.query_crew.proofs.Words.{◌≡◌, ℕ, ◌+◌, List, [], ◌∷◌, ◌++◌, length, Option, Some, None, Result, Ok, Err, refl, sym, ◌∙◌, ap, arith, append-nil, length-append, fold-append, Message, effect, Refusal, refusal, Reply, ServiceState, Wire, resolved, Names, TimetableState, taken, stepped, timetable_after, StandsAt, IsTaken}
use Rattle.delay_model.specs.Touched.{changed_count}
use Rattle.information_service.proofs.InStep.{stays-in_step}
use Rattle.information_service.specs.Output.{reply_by_refusal, reply_to_message}
use Rattle.information_service.specs.ServiceState.{after_answer, after_message}
use Rattle.information_service.specs.Taking.{HasTaken, IsHeldAfter, IsMessageTaken, service_with}
use Rattle.timetable.proofs.Changed.{changed-length}
use Rattle.query_crew.specs.declared.window_line.WindowLine.TheVariants as shown
use Rattle.query_crew.specs.Posting.{IsPosted}

pub same-timetable : (t u : TimetableState) → Some t ≡ Some u → t ≡ u
same-timetable t u h = grind arith

-- the timetable after one message more
timetable-more : (o : Option TimetableState) (list : List Message) (m : Message) (t : TimetableState) → timetable_after o list ≡ Some t → timetable_after o (list ++ m ∷ []) ≡ Some (taken t m)
timetable-more None list m t h = absurd (cc)
timetable-more (Some opening) list m t h =
    ap (λ (r : TimetableState). Some r) (fold-append taken opening list (m ∷ []) ∙ ap (λ (r : TimetableState). taken r m) (same-timetable _ t h))

-- how many events a message changes that was accepted and posted
pub posts-changed : (o : Option TimetableState) (old : List Message) (m : Message) (t v u : TimetableState)
    → timetable_after o old ≡ Some t → timetable_after o old ≡ Some v → refusal v.network v.state m ≡ None
    → timetable_after o (old ++ m ∷ []) ≡ Some u → length u.changed ≡ changed_count t.network t.state m
posts-changed o old m t v u before held accepts after =
    let same : v ≡ t = same-timetable v t (sym held ∙ before) in
    let now : refusal t.network t.state m ≡ None = rw same at accepts in
    let one : taken t m ≡ stepped t m = rw now refl in
    let next : u ≡ stepped t m = same-timetable u (taken t m) (sym after ∙ timetable-more o old m t before) ∙ one in
    ap (λ (r : TimetableState). length r.changed) next ∙ changed-length t.network t.state (effect t.state m)

-- the board after a message that is accepted, or refused
posts-by : (o : Option TimetableState) (old new : List Message) (names known : Names)
    (s : ServiceState) (number : ℕ) (w : Wire) (m : Message) (a : Option Refusal) (reply : Reply) → (h : StandsAt o old names s) → resolved names w ≡ Ok m
    → refusal h.timetable.network h.timetable.state m ≡ a → IsHeldAfter IsPosted old new m a → known ≡ (after_answer (service_with h.timetable (length old) names) w m a).names
    → reply ≡ reply_by_refusal h.timetable.network names h.timetable.state (length old) number w m a
    → IsTaken o s number (shown.Message w) old new known (Some reply)
posts-by o old new names known s number w m None reply h read accepts posted e is =
    let t = h.timetable in
    let one : taken t m ≡ stepped t m = rw accepts refl in
    let count = length-append old (m ∷ []) in
    record {
      stands = record {
        timetable = stepped t m;
        after = rw posted (timetable-more o old m t h.after ∙ ap (λ (r : TimetableState). Some r) one);
        is = rw (h.is, read, accepts, posted, count, e) refl;
        in_step = rw e (stays-in_step names t.state w m h.in_step read);
      };
      posted = rw (h.is, read, accepts, posted) refl;
      replied = rw (h.is, read, accepts, is) refl;
    }
posts-by o old new names known s number w m (Some r) reply h read refuses same e is =
    record {
      stands = record { timetable = h.timetable; after = rw same h.after; is = rw (h.is, read, refuses, same, e) refl; in_step = rw e h.in_step };
      posted = rw (h.is, read, refuses, same) (sym (append-nil old));
      replied = rw (h.is, read, refuses, is) refl;
    }

posts-read : (o : Option TimetableState) (old new : List Message) (names known : Names)
    (s : ServiceState) (number : ℕ) (w : Wire) (read : Result Message Refusal) (reply : Reply) → (h : StandsAt o old names s) → resolved names w ≡ read
    → HasTaken IsPosted h.timetable old new read → known ≡ (after_message (service_with h.timetable (length old) names) w read).names
    → reply ≡ reply_to_message h.timetable.network names h.timetable.state (length old) number w read
    → IsTaken o s number (shown.Message w) old new known (Some reply)
posts-read o old new names known s number w (Ok m) reply h read posted e is =
    posts-by o old new names known s number w m (refusal h.timetable.network h.timetable.state m) reply h read refl posted e is
posts-read o old new names known s number w (Err r) reply h read same e is =
    record {
      stands = record { timetable = h.timetable; after = rw same h.after; is = rw (h.is, read, same, e) refl; in_step = rw e h.in_step };
      posted = rw (h.is, read, same) (sym (append-nil old));
      replied = rw (h.is, read, is) refl;
    }

-- a message that is taken by whoever holds the timetable is one that the publisher takes
pub posts-message : {o : Option TimetableState} {old new : List Message} {names known : Names} {s : ServiceState}
    {number : ℕ} {w : Wire} {reply : Reply} (h : StandsAt o old names s) → IsMessageTaken IsPosted h.timetable (length old) number w old new names known reply
    → IsTaken o s number (shown.Message w) old new known (Some reply)
posts-message {o = o} {old = old} {new = new} {names = names} {known = known} {s = s} {number = number} {w = w} {reply = reply} h one =
    posts-read o old new names known s number w (resolved names w) reply h refl one.holder one.known one.replied
