use Rattle.std.proofs.Common.{◌+◌, ◌*◌, ◌≤◌, length, sym, subst}
use Rattle.delay_model.specs.declared.state.State.{State}
use Rattle.delay_model.specs.Events.{events}
use Rattle.delay_model.specs.Valid.{IsValid}
use Rattle.edge_rules.specs.AtStops.{AreAtStops}
use Rattle.feed_load.proofs.LoadedDays.{few-nodes}
use Rattle.feed_load.proofs.load.load_days.Goals as goal

pub returns-in-Ok-clause-valid : goal.returns-in-Ok-clause-valid
returns-in-Ok-clause-valid c = λ nw same.
    subst (IsValid nw) (sym c.in-Ok.ensures.schedule) (c.schedules_are_valid.ensures.valid nw same)

pub returns-in-Ok-clause-nodes : goal.returns-in-Ok-clause-nodes
returns-in-Ok-clause-nodes c =
    subst (λ (st : State). length (events st) + 2 * st.spare_calls ≤ 2097152) (sym c.in-Ok.ensures.schedule) (few-nodes _ _ c.args.opts.now c.requires.options c.in-Ok.ensures.fits)

pub returns-in-Ok-clause-stops : goal.returns-in-Ok-clause-stops
returns-in-Ok-clause-stops c =
    subst (AreAtStops c.args.t.now.stops) (sym c.in-Ok.ensures.schedule) c.schedules_call_at_stops.ensures
