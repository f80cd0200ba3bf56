use Rattle.timetable.proofs.Words.{subst, effect, Message, stays-valid, changed_train, message_of_shape}
use Rattle.timetable.proofs.{CallsKept.calls-kept, LabelPlaces.of-same-labels, LabelPlaces.places-for, Turns.shape-made, Changed.IsAlike, Changed.valued-alike, Changed.chosen-alike, Prepared.prepared-same, Prepared.prepared-shape, Shapes.reshaped, Shapes.room-for}
use Rattle.timetable.proofs.prepare.apply.Goals as goal

pub add_times-requires-clause-room : goal.add_times-requires-clause-room
add_times-requires-clause-room c =
    let g = c.args.graph.now in
    let says = c.in-Shape.ensures.says in
    room-for g.network g.state c.in-Shape.shape c.args.times.now (rw (← says) at c.kind.ensures.well_formed) (rw (← says) at c.requires.accepted) c.requires.settled.has_times

pub returns-in-Value-clause-prepared : goal.returns-in-Value-clause-prepared
returns-in-Value-clause-prepared c =
    let g = c.args.graph.now in
    let v = c.in-Value.value in
    prepared-same g.network g.state (effect g.state c.args.m.now) c.args.times.now (subst (λ (m : Message). IsAlike g.state (effect g.state m)) c.in-Value.ensures.says (valued-alike g.state v))
    (stays-valid g.network g.state c.args.m.now c.requires.settled.valid c.kind.ensures.well_formed c.requires.accepted) (calls-kept g.state c.args.m.now c.requires.settled.valid.trains) c.requires.settled

pub returns-in-Choice-clause-prepared : goal.returns-in-Choice-clause-prepared
returns-in-Choice-clause-prepared c =
    let g = c.args.graph.now in
    let d = c.in-Choice.choice in
    prepared-same g.network g.state (effect g.state c.args.m.now) c.args.times.now (subst (λ (m : Message). IsAlike g.state (effect g.state m)) c.in-Choice.ensures.says (chosen-alike g.state d.choice d.feeder d.train))
    (stays-valid g.network g.state c.args.m.now c.requires.settled.valid c.kind.ensures.well_formed c.requires.accepted) (calls-kept g.state c.args.m.now c.requires.settled.valid.trains) c.requires.settled

pub returns-in-Shape-clause-prepared : goal.returns-in-Shape-clause-prepared
returns-in-Shape-clause-prepared c =
    let g = c.args.graph.now in
    let s = c.in-Shape.shape in
    let m = message_of_shape s in
    let says = c.in-Shape.ensures.says in
    let was = c.requires.settled in
    let well = rw (← says) at c.kind.ensures.well_formed in
    let accepted = rw (← says) at c.requires.accepted in
    rw (c.add_times.ensures.times, ← says)
    (prepared-shape g.network g.state (effect g.state m) (changed_train s) c.args.times.now _ was.valid (stays-valid g.network g.state m was.valid well accepted) (reshaped g.network g.state s c.args.times.now was.valid well accepted was.has_times) was.times (calls-kept g.state m was.valid.trains)
    (shape-made g.network g.state s was.valid well accepted))

pub add_times-requires-clause-places : goal.add_times-requires-clause-places
add_times-requires-clause-places c = of-same-labels c.requires.settled.has_times c.requires.places

pub returns-in-Value-clause-places : goal.returns-in-Value-clause-places
returns-in-Value-clause-places c = places-for (returns-in-Value-clause-prepared c).has_times (of-same-labels c.requires.settled.has_times c.requires.places)

pub returns-in-Choice-clause-places : goal.returns-in-Choice-clause-places
returns-in-Choice-clause-places c = places-for (returns-in-Choice-clause-prepared c).has_times (of-same-labels c.requires.settled.has_times c.requires.places)

pub returns-in-Shape-clause-places : goal.returns-in-Shape-clause-places
returns-in-Shape-clause-places c = places-for (returns-in-Shape-clause-prepared c).has_times c.add_times.ensures.places
