use Rattle.call_lines.proofs.Words.{Event, ◌≡◌, ◌-◌, ◌∷◌, Some, cond, length, slice_get, sym, ap, arith, common_steps, gets, slice_get_past, ltb-false, drop-nil, refl, suc, events_at, map, call_of, walk, drop}
use Rattle.call_lines.proofs.events.TrainEventsIterator.next.Goals as goal

pub returns-in_err-call-clause-steps : goal.returns-in_err-call-clause-steps
returns-in_err-call-clause-steps c =
    let s = c.self.inside in
    let left : s.left ≡ suc (s.left - 1) = omega arith in
    let past = slice_get_past s.calls.now s.slot (ltb-false _ _ (sym c.in_err-call.ensures.lookup.0)) in
    grind (arith, left, past, c.self.view_is, c.from_residual.ensures, drop-nil {A = Event} (cond s.departs 1 0))

pub returns-then-self : goal.returns-then-self
returns-then-self c =
    let s = c.self.inside in
    let left : s.left ≡ suc (s.left - 1) = omega arith in
    let steps : c.args.self.now ≡ c.stored_event-event.result ∷ events_at s.train s.route (map call_of (walk s.calls.now (s.left - 1) c.after-self-inside.result)) =
    grind (arith, common_steps, gets, left, c.self.view_is, c.stored_event-event.ensures, c.after-self-inside.ensures, c.if-self.true) in
    record { steps = steps; goes = record { on = λ _. (tt, tt, omega (arith, ap length steps)); keeps = tt; rests = λ _. tt } }

pub returns : goal.returns
returns c =
    let s = c.self.inside in
    let left : s.left ≡ suc (s.left - 1) = omega arith in
    let there : slice_get s.calls.now s.slot ≡ Some c.in_ok-call.call.now = grind (arith, common_steps, gets) in
    let steps : c.args.self.now ≡ c.stored_event-event.result ∷ drop 1 (events_at s.train s.route (map call_of (walk s.calls.now s.left s.slot))) =
    rw (← c.self.view_is, c.stored_event-event.ensures, c.if-self.false, left, there) refl in
    record { steps = steps; goes = record { on = λ _. (tt, tt, omega (arith, ap length steps)); keeps = tt; rests = λ _. tt } }
