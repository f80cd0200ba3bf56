use Rattle.timetable.proofs.Words.{subst, refl, ◌≡◌, ◌+◌, ◌*◌, ◌∙◌, arith, ap, sym, effect, events, length, length-map, live_only, names_of, node_of, time_change_at, TimetableState}
use Rattle.timetable.specs.Reads.{renewed_count}
use Rattle.timetable.specs.TimetableState.{stepped}
use Rattle.timetable.proofs.{Followed.others, Followed.taken-names, Listing.live-held, Moving.gone-fit, Moving.gone-there, LabelPlaces.places-kept, Moving.departures-live, Moving.time-changes-fit, Numbers.still-left, Prepared.names-are, ReadCounts.renewed-length}
use Rattle.timetable.proofs.Stepping.{accepted-inside, step-made}
use Rattle.timetable.proofs.timetable.Timetable.follow_accepted.Goals as goal

pub take_departures-requires-clause-live : goal.take_departures-requires-clause-live
take_departures-requires-clause-live g c =
    let a = c.self.inside.graph in
    rw (c.trains.ensures.trains, c.self.invariant.order.departures) (departures-live a.network a.state)

pub take_departures-requires-clause-there : goal.take_departures-requires-clause-there
take_departures-requires-clause-there g c =
    let a = c.self.inside.graph in
    rw (c.deref.ensures.value, c.list_taken.ensures.list, c.trains.ensures.trains) (gone-there a.state (events (effect a.state c.args.m.now)) c.self.invariant.settled.valid.trains)

pub names_from-requires : goal.names_from-requires
names_from-requires g c =
    let seen = c.other.view_is ∙ c.requires.stepped ∙ ap (λ (r : TimetableState). stepped r c.args.m.now) (sym c.self.view_is) in
    let gone = ap length c.list_taken.ensures.list in
    let at : c.len-first.result ≡ length (names_of (live_only (events c.self.inside.graph.state) (events (effect c.self.inside.graph.state c.args.m.now)))) = omega (arith, c.len-first.ensures, gone, c.list_taken.new.list.ok.0) in
    (taken-names c.apply.ensures.prepared c.deref-2.result.now (c.deref-2.ensures.value ∙ ap (λ (r : TimetableState). r.changed) seen) c.len-first.result at).0

pub take_times-requires-clause-valid : goal.take_times-requires-clause-valid
take_times-requires-clause-valid g c = rw c.apply.ensures.effect c.apply.ensures.prepared.valid

pub take_times-requires-clause-held : goal.take_times-requires-clause-held
take_times-requires-clause-held g c =
    let p = c.apply.ensures.prepared in
    rw c.apply.ensures.effect (live-held _ c.apply.new.times p.valid.trains p.has_times)

pub take_times-requires-clause-other : goal.take_times-requires-clause-other
take_times-requires-clause-other g c =
    let seen = c.other.view_is ∙ c.requires.stepped ∙ ap (λ (r : TimetableState). stepped r c.args.m.now) (sym c.self.view_is) in
    let network = ap (λ (r : TimetableState). r.network) seen in
    let state = ap (λ (r : TimetableState). r.state) seen in
    rw c.apply.ensures.effect (rw (network, state) at c.other.invariant.settled.times)

pub take_times-requires-clause-names : goal.take_times-requires-clause-names
take_times-requires-clause-names g c =
    let seen = c.other.view_is ∙ c.requires.stepped ∙ ap (λ (r : TimetableState). stepped r c.args.m.now) (sym c.self.view_is) in
    let gone = ap length c.list_taken.ensures.list in
    let at : c.len-first.result ≡ length (names_of (live_only (events c.self.inside.graph.state) (events (effect c.self.inside.graph.state c.args.m.now)))) = omega (arith, c.len-first.ensures, gone, c.list_taken.new.list.ok.0) in
    rw c.apply.ensures.effect (c.names_from.ensures ∙ (taken-names c.apply.ensures.prepared c.deref-2.result.now (c.deref-2.ensures.value ∙ ap (λ (r : TimetableState). r.changed) seen) c.len-first.result at).1)

pub take_times-requires-clause-room : goal.take_times-requires-clause-room
take_times-requires-clause-room g c =
    let a = c.self.inside.graph in
    let p = c.apply.ensures.prepared in
    let seen = c.other.view_is ∙ c.requires.stepped ∙ ap (λ (r : TimetableState). stepped r c.args.m.now) (sym c.self.view_is) in
    let gone = ap length c.list_taken.ensures.list in
    let at : c.len-first.result ≡ length (names_of (live_only (events c.self.inside.graph.state) (events (effect c.self.inside.graph.state c.args.m.now)))) = omega (arith, c.len-first.ensures, gone, c.list_taken.new.list.ok.0) in
    let names = c.names_from.ensures ∙ (taken-names p c.deref-2.result.now (c.deref-2.ensures.value ∙ ap (λ (r : TimetableState). r.changed) seen) c.len-first.result at).1 in
    let keys = others a.network (effect a.state c.args.m.now) c.apply.new.times in
    omega (arith, ap length names, length-map keys node_of, length-map keys (time_change_at a.network (effect a.state c.args.m.now) c.apply.new.times), time-changes-fit c.self.invariant.settled.valid.trains p, p.fewer, c.self.invariant.roomy.time_changes, c.clear.ensures.capacity, c.clear.ensures.len)

pub push_names-requires : goal.push_names-requires
push_names-requires g c =
    let a = c.self.inside.graph in
    let p = c.apply.ensures.prepared in
    let list = rw (c.clear.ensures.items, c.apply.ensures.effect) at c.take_times.ensures.changes in
    let gone = ap length c.list_taken.ensures.list in
    rw (c.deref-4.ensures.value, list)
    (omega (arith, gone, gone-fit (events a.state) (events (effect a.state c.args.m.now)), time-changes-fit c.self.invariant.settled.valid.trains p, p.fewer, c.self.invariant.roomy.changed, c.list_taken.ensures.capacity, c.list_taken.new.list.ok.0))

pub apply-requires-clause-places : goal.apply-requires-clause-places
apply-requires-clause-places g c = places-kept c.self.invariant.places c.take_departures.ensures.room

pub renew_departures-requires : goal.renew_departures-requires
renew_departures-requires g c =
    let a = c.self.inside.graph in
    let is = c.apply.ensures.effect in
    let list = rw (c.clear.ensures.items, is) at c.take_times.ensures.changes in
    rw (c.deref-3.ensures.value, list, is)
    (record {
      old = a.state;
      before = c.self.inside.departures;
      times = c.apply.new.times;
      step = step-made c.self.invariant.settled.valid c.apply.ensures.well_formed (accepted-inside c.args.m.now c.self.view_is c.requires.accepted);
      prepared = c.apply.ensures.prepared;
      order = c.self.invariant.order;
      room = c.self.invariant.departures_room;
      departures = c.apply.ensures.departures.departures ∙ rw (c.deref.ensures.value, c.list_taken.ensures.list) at c.take_departures.ensures.departures;
      numbers = still-left (rw (c.deref.ensures.value, c.list_taken.ensures.list) at c.take_departures.ensures.numbers) c.apply.ensures.departures;
      places = c.apply.ensures.places;
      is_noted = c.noted_arrival-noted.ensures;
      changes_are = refl;
    })

pub invariant_of-self : goal.invariant_of-self
invariant_of-self g c =
    let p = c.apply.ensures.prepared in
    let is = c.apply.ensures.effect in
    let roomy = c.self.invariant.roomy in
    rw is (record {
      settled = record { valid = p.valid; times = rw is at c.take_times.ensures.times; has_times = c.take_times.ensures.has_times _ p.has_times };
      order = rw is at c.renew_departures.ensures.order;
      places = rw is at c.renew_departures.ensures.places;
      departures_room = rw is at c.renew_departures.ensures.room;
      unmarked = c.self.invariant.unmarked;
      roomy = record {
        changed = omega (arith, roomy.changed, p.fewer, c.list_taken.ensures.capacity, c.push_names.ensures.capacity);
        marks = omega (arith, roomy.marks, p.fewer);
        time_changes = omega (arith, roomy.time_changes, p.fewer, c.clear.ensures.capacity, c.take_times.ensures.capacity);
      };
    })

pub returns-clause-effect : goal.returns-clause-effect
returns-clause-effect g c =
    let p = c.apply.ensures.prepared in
    let list = rw (c.clear.ensures.items, c.apply.ensures.effect) at c.take_times.ensures.changes in
    let names = rw (c.deref-4.ensures.value, list, c.list_taken.ensures.list, names-are p) at c.push_names.ensures.names in
    let numbers : length c.renew_departures.new.departures.entries ≡ length c.self.inside.departures.entries = c.renew_departures.ensures.numbers ∙ ap length c.apply.ensures.departures.entries ∙ c.take_departures.ensures.numbers.lengths in
    rw (c.apply.ensures.effect, names, numbers, c.saturating_add-self-inside.ensures) (ap (λ (r : TimetableState). stepped r c.args.m.now) c.self.view_is)

pub returns-clause-cost : goal.returns-clause-cost
returns-clause-cost g c =
    let a = c.self.inside.graph in
    let p = c.apply.ensures.prepared in
    let seen = c.other.view_is ∙ c.requires.stepped ∙ ap (λ (r : TimetableState). stepped r c.args.m.now) (sym c.self.view_is) in
    let gone = ap length c.list_taken.ensures.list in
    let at : c.len-first.result ≡ length (names_of (live_only (events c.self.inside.graph.state) (events (effect c.self.inside.graph.state c.args.m.now)))) = omega (arith, c.len-first.ensures, gone, c.list_taken.new.list.ok.0) in
    let names = c.names_from.ensures ∙ (taken-names p c.deref-2.result.now (c.deref-2.ensures.value ∙ ap (λ (r : TimetableState). r.changed) seen) c.len-first.result at).1 in
    let keys = others a.network (effect a.state c.args.m.now) c.apply.new.times in
    subst (λ (r : TimetableState). c.take_times.new.steps ≡ c.args.steps.now + 2 * renewed_count r.network r.state c.args.m.now) c.self.view_is
    (omega (arith, c.take_times.ensures.cost, ap length names, length-map keys node_of, length-map keys (time_change_at a.network (effect a.state c.args.m.now) c.apply.new.times), renewed-length c.args.m.now p))
