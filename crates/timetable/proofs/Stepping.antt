-- What is marked and stored after an accepted message is what settling asks for, and it reads no more than a message may take.
use Rattle.timetable.proofs.Words.{◌≡◌, ◌+◌, ◌*◌, ◌≤◌, ◌∙◌, false, refl, sym, filter, All, Network, State, Message, effect, events, refusal, None, IsValid, IsWellFormed, live_keys, key_order, StoredTimes, IsPrepared, Marked, is_marked, AreUnsettled}
use Rattle.timetable.proofs.Words.{IsMarkedBefore, IsStateAfter, GraphState}
use Rattle.timetable.proofs.Words.{arith, subst, Option, Some, TimetableState}
use Rattle.std.proofs.lemmas.Grind.{not_there}
use Rattle.std.specs.List.{sum_by}
use Rattle.propagate.specs.Reads.{reads_of}
use Rattle.timetable.specs.Reads.{renewed_count}
use Rattle.timetable.proofs.ReadCounts.{both-fit}
use Rattle.propagate.specs.Settling.{FollowsRule, is_due, reads_at}
use Rattle.propagate.proofs.{Ordered.live-keyed, StepStays.unmarked-values, StepCosts.step-cost}

module _ {nw : Network} {st : State} {m : Message} (valid : IsValid nw st) (well : IsWellFormed m) (accepted : refusal nw st m ≡ None) where
  -- a message that is accepted makes the state after it
  pub step-made : IsStateAfter nw st (effect st m) m
  step-made = record { valid = valid; well_formed = well; accepted = accepted; made = refl }

  -- so the events are marked that may have another value
  pub step-due : {marks after : Marked} (g : GraphState) → g ≡ record { network = nw; state = effect st m } → IsMarkedBefore nw st m marks → ((old : State) → IsStateAfter g.network old g.state m → IsMarkedBefore g.network old m marks → AreUnsettled g.network old m after) → AreUnsettled nw st m after
  step-due g is before h = (rw is at h) st step-made before

module _ {nw : Network} {st : State} {m : Message} {times : StoredTimes} (p : IsPrepared nw st (effect st m) times) {marks : Marked} (due : AreUnsettled nw st m marks) where
  pub step-values : IsStateAfter nw st (effect st m) m → All (λ k. is_marked marks k ≡ false → FollowsRule (record { network = nw; state = effect st m }) times k) (live_keys (events (effect st m)))
  step-values step =
      unmarked-values nw st m step.valid step.well_formed step.accepted times p.stored marks (λ k at h. due.marked k (live-keyed (events (effect st m)) k at) ∙ h)

  pub step-reads : sum_by (reads_at (record { network = nw; state = effect st m })) (filter (is_due (record { network = nw; state = effect st m }) marks times) (key_order (events (effect st m)))) ≤ reads_of nw st m
  step-reads = step-cost nw st m times p.stored marks (λ k at h. sym (due.marked k (live-keyed (events (effect st m)) k at)) ∙ h)

  -- with two for each event that gets another time
  pub step-both : IsStateAfter nw st (effect st m) m → sum_by (reads_at (record { network = nw; state = effect st m })) (filter (is_due (record { network = nw; state = effect st m }) marks times) (key_order (events (effect st m)))) + 2 * renewed_count nw st m ≤ reads_of nw st m
  step-both step = both-fit nw st m step p.stored marks (λ k at h. sym (due.marked k (live-keyed (events (effect st m)) k at)) ∙ h)

-- a message that is accepted in a timetable as it is seen is accepted in it
pub accepted-inside : {r s : TimetableState} (m : Message) → r ≡ s → refusal s.network s.state m ≡ None → refusal r.network r.state m ≡ None
accepted-inside m e h = subst (λ (t : TimetableState). refusal t.network t.state m ≡ None) (sym e) h

-- a message of which it is known that it is accepted is accepted
pub none-known : {X : Type 0} (q : Option X) → ∥ q ≡ None ∥₁ → q ≡ None
none-known None h = refl
none-known (Some x) h = absurd (not_there h (λ e. grind (arith, e)))
