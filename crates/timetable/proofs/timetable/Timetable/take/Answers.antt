use Rattle.timetable.proofs.Words.{◌≡◌, refl, ◌∙◌, ◌+◌, ◌*◌, ◌≤◌, arith, ap, subst, effect, events, length, Marked, TimetableState}
use Rattle.timetable.specs.Reads.{renewed_count}
use Rattle.timetable.specs.TimetableState.{stepped}
use Rattle.propagate.specs.Reads.{reads_of}
use Rattle.delay_model.specs.Touched.{changed_count}
use Rattle.timetable.proofs.{Changed.changed-length, Listing.live-held, Moving.gone-fit, Moving.gone-there, LabelPlaces.places-kept, Moving.departures-live, Moving.time-changes-fit, Numbers.still-left, Prepared.names-are}
use Rattle.timetable.proofs.Stepping.{accepted-inside, step-both, step-due, step-made, step-reads, step-values}
use Rattle.timetable.proofs.timetable.Timetable.take.Goals as goal

pub mark_after-requires-clause-stepped : goal.mark_after-requires-clause-stepped
mark_after-requires-clause-stepped g c =
    rw c.apply.ensures.effect
    (record {
      old = c.self.inside.graph.state;
      step = step-made c.self.invariant.settled.valid c.apply.ensures.well_formed (accepted-inside c.args.m.now c.self.view_is c.requires.accepted);
      before = c.mark_before.ensures.marked;
    })

pub mark_after-requires-clause-room : goal.mark_after-requires-clause-room
mark_after-requires-clause-room g c =
    rw c.apply.ensures.effect (omega (arith, c.apply.ensures.prepared.fewer, c.self.invariant.roomy.marks, c.mark_before.ensures.marks_room))

pub settle-requires-clause-valid : goal.settle-requires-clause-valid
settle-requires-clause-valid g c = rw c.apply.ensures.effect c.apply.ensures.prepared.valid

pub settle-requires-clause-held : goal.settle-requires-clause-held
settle-requires-clause-held g c =
    let p = c.apply.ensures.prepared in
    rw c.apply.ensures.effect (live-held _ c.apply.new.times p.valid.trains p.has_times)

pub settle-requires-clause-marked : goal.settle-requires-clause-marked
settle-requires-clause-marked g c =
    let due = step-due c.self.invariant.settled.valid c.apply.ensures.well_formed (accepted-inside c.args.m.now c.self.view_is c.requires.accepted) c.apply.new.graph c.apply.ensures.effect c.mark_before.ensures.marked c.mark_after.ensures.marked in
    rw c.apply.ensures.effect due.live

pub settle-requires-clause-settled : goal.settle-requires-clause-settled
settle-requires-clause-settled g c =
    let due = step-due c.self.invariant.settled.valid c.apply.ensures.well_formed (accepted-inside c.args.m.now c.self.view_is c.requires.accepted) c.apply.new.graph c.apply.ensures.effect c.mark_before.ensures.marked c.mark_after.ensures.marked in
    rw c.apply.ensures.effect (step-values c.apply.ensures.prepared due (step-made c.self.invariant.settled.valid c.apply.ensures.well_formed (accepted-inside c.args.m.now c.self.view_is c.requires.accepted)))

pub settle-requires-clause-room : goal.settle-requires-clause-room
settle-requires-clause-room g c =
    rw c.apply.ensures.effect (omega (arith, c.apply.ensures.prepared.fewer, c.self.invariant.roomy.time_changes, c.clear.ensures.capacity, c.clear.ensures.items, c.clear.new.self.ok.0, ap length c.clear.ensures.items))

pub settle-requires-clause-marks_room : goal.settle-requires-clause-marks_room
settle-requires-clause-marks_room g c =
    rw c.apply.ensures.effect (omega (arith, c.apply.ensures.prepared.fewer, c.self.invariant.roomy.marks, c.mark_before.ensures.marks_room, c.mark_after.ensures.room))

pub take_departures-requires-clause-live : goal.take_departures-requires-clause-live
take_departures-requires-clause-live g c =
    let a = c.self.inside.graph in
    rw (c.trains.ensures.trains, c.self.invariant.order.departures) (departures-live a.network a.state)

pub take_departures-requires-clause-there : goal.take_departures-requires-clause-there
take_departures-requires-clause-there g c =
    let a = c.self.inside.graph in
    rw (c.deref.ensures.value, c.mark_before.ensures.leaving, c.trains.ensures.trains) (gone-there a.state (events (effect a.state c.args.m.now)) c.self.invariant.settled.valid.trains)

pub push_names-requires : goal.push_names-requires
push_names-requires g c =
    let a = c.self.inside.graph in
    let p = c.apply.ensures.prepared in
    let list = rw (c.clear.ensures.items, c.apply.ensures.effect) at c.settle.ensures.changed in
    let gone = ap length c.mark_before.ensures.leaving in
    rw (c.deref-3.ensures.value, list)
    (omega (arith, gone, gone-fit (events a.state) (events (effect a.state c.args.m.now)), time-changes-fit c.self.invariant.settled.valid.trains p, p.fewer, c.self.invariant.roomy.changed, c.mark_before.ensures.capacity, c.mark_before.new.changed.ok.0))

pub apply-requires-clause-places : goal.apply-requires-clause-places
apply-requires-clause-places g c = places-kept c.self.invariant.places c.take_departures.ensures.room

pub renew_departures-requires : goal.renew_departures-requires
renew_departures-requires g c =
    let a = c.self.inside.graph in
    let is = c.apply.ensures.effect in
    let list = rw (c.clear.ensures.items, is) at c.settle.ensures.changed in
    rw (c.deref-2.ensures.value, list, is)
    (record {
      old = a.state;
      before = c.self.inside.departures;
      times = c.apply.new.times;
      step = step-made c.self.invariant.settled.valid c.apply.ensures.well_formed (accepted-inside c.args.m.now c.self.view_is c.requires.accepted);
      prepared = c.apply.ensures.prepared;
      order = c.self.invariant.order;
      room = c.self.invariant.departures_room;
      departures = c.apply.ensures.departures.departures ∙ rw (c.deref.ensures.value, c.mark_before.ensures.leaving) at c.take_departures.ensures.departures;
      numbers = still-left (rw (c.deref.ensures.value, c.mark_before.ensures.leaving) at c.take_departures.ensures.numbers) c.apply.ensures.departures;
      places = c.apply.ensures.places;
      is_noted = c.noted_arrival-noted.ensures;
      changes_are = refl;
    })

pub invariant_of-self : goal.invariant_of-self
invariant_of-self g c =
    let p = c.apply.ensures.prepared in
    let is = c.apply.ensures.effect in
    let roomy = c.self.invariant.roomy in
    rw is (record {
      settled = record { valid = p.valid; times = rw is at c.settle.ensures.times; has_times = c.settle.ensures.has_times _ p.has_times };
      order = rw is at c.renew_departures.ensures.order;
      places = rw is at c.renew_departures.ensures.places;
      departures_room = rw is at c.renew_departures.ensures.room;
      unmarked = ap (λ (m : Marked). m.keys) c.settle.ensures.marks;
      roomy = record {
        changed = omega (arith, roomy.changed, p.fewer, c.mark_before.ensures.capacity, c.push_names.ensures.capacity);
        marks = omega (arith, roomy.marks, p.fewer, c.mark_before.ensures.marks_room, c.mark_after.ensures.room, ap (λ (m : Marked). m.room) c.settle.ensures.marks);
        time_changes = omega (arith, roomy.time_changes, p.fewer, c.clear.ensures.capacity, c.settle.ensures.capacity);
      };
    })

pub returns-clause-effect : goal.returns-clause-effect
returns-clause-effect g c =
    let p = c.apply.ensures.prepared in
    let list = rw (c.clear.ensures.items, c.apply.ensures.effect) at c.settle.ensures.changed in
    let names = rw (c.deref-3.ensures.value, list, c.mark_before.ensures.leaving, names-are p) at c.push_names.ensures.names in
    let numbers : length c.renew_departures.new.departures.entries ≡ length c.self.inside.departures.entries = c.renew_departures.ensures.numbers ∙ ap length c.apply.ensures.departures.entries ∙ c.take_departures.ensures.numbers.lengths in
    rw (c.apply.ensures.effect, names, numbers, c.saturating_add-self-inside.ensures) (ap (λ (r : TimetableState). stepped r c.args.m.now) c.self.view_is)

pub returns-clause-changed : goal.returns-clause-changed
returns-clause-changed g c =
    let a = c.self.inside.graph in
    let p = c.apply.ensures.prepared in
    let list = rw (c.clear.ensures.items, c.apply.ensures.effect) at c.settle.ensures.changed in
    let names = rw (c.deref-3.ensures.value, list, c.mark_before.ensures.leaving, names-are p) at c.push_names.ensures.names in
    rw (c.len.ensures, c.push_names.new.changed.ok.0, names, changed-length a.network a.state (effect a.state c.args.m.now))
    (ap (λ (r : TimetableState). changed_count r.network r.state c.args.m.now) c.self.view_is)

pub returns-clause-cost : goal.returns-clause-cost
returns-clause-cost g c =
    let due = step-due c.self.invariant.settled.valid c.apply.ensures.well_formed (accepted-inside c.args.m.now c.self.view_is c.requires.accepted) c.apply.new.graph c.apply.ensures.effect c.mark_before.ensures.marked c.mark_after.ensures.marked in
    let reads = step-reads c.apply.ensures.prepared due in
    let cost = rw c.apply.ensures.effect at c.settle.ensures.cost in
    subst (λ (r : TimetableState). c.settle.new.steps ≤ c.args.steps.now + reads_of r.network r.state c.args.m.now) c.self.view_is (omega (arith, cost, reads))

pub returns-clause-both : goal.returns-clause-both
returns-clause-both g c =
    let made = step-made c.self.invariant.settled.valid c.apply.ensures.well_formed (accepted-inside c.args.m.now c.self.view_is c.requires.accepted) in
    let due = step-due c.self.invariant.settled.valid c.apply.ensures.well_formed (accepted-inside c.args.m.now c.self.view_is c.requires.accepted) c.apply.new.graph c.apply.ensures.effect c.mark_before.ensures.marked c.mark_after.ensures.marked in
    let reads = step-both c.apply.ensures.prepared due made in
    let cost = rw c.apply.ensures.effect at c.settle.ensures.cost in
    subst (λ (r : TimetableState). c.settle.new.steps + 2 * renewed_count r.network r.state c.args.m.now ≤ c.args.steps.now + reads_of r.network r.state c.args.m.now) c.self.view_is (omega (arith, cost, reads))
