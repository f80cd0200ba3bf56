use Rattle.std.proofs.Common.{◌≡◌, List, map, ◌∙◌, ap}
use Rattle.std.proofs.lemmas.Result.{IfOk-weaker}
use Rattle.delay_model.specs.declared.state.Event.{Event}
use Rattle.delay_model.specs.declared.state.Timed.{Timed}
use Rattle.delay_model.specs.Events.{events, events_from, live_events}
use Rattle.delay_model.specs.Timing.{timed_by, time_at, live_times}
use Rattle.delay_model.proofs.InOrder.{live_times-kept}
use Rattle.delay_model.proofs.evaluate.event_times.Goals as goal

pub time_all-requires-clause-all : goal.time_all-requires-clause-all
unfolding events
time_all-requires-clause-all c = c.deref.ensures.value ∙ c.in_ok-all_events.ensures ∙ ap (events_from 0) c.as_slice.ensures

pub returns : goal.returns
unfolding events
returns c =
    IfOk-weaker c.keep_live.result _ (λ all. all.items ≡ live_times c.args.nw.now c.args.st.now) (λ all h.
    h
    ∙ ap (λ (rows : List Timed). map (timed_by (time_at rows)) (live_events c.deref-2.result.now)) c.deref-3.ensures.value
    ∙ ap (λ (es : List Event). map (timed_by (time_at c.in_ok-times.times.items)) (live_events es)) (c.deref-2.ensures.value ∙ c.in_ok-all_events.ensures ∙ ap (events_from 0) c.as_slice.ensures)
    ∙ live_times-kept c.args.nw.now c.args.st.now c.in_ok-times.times.items c.in_ok-times.ensures) c.keep_live.ensures
