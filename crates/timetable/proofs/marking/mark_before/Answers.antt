use Rattle.timetable.proofs.Words.{◌∙◌, sym, ap, message_of}
use Rattle.timetable.proofs.Renewed.{choice-before, choice-there, shape-before, shape-leaves, shape-taken, value-before, value-leaves, value-there}
use Rattle.timetable.proofs.marking.mark_before.Goals as goal

pub mark_value-requires-clause-live : goal.mark_value-requires-clause-live
mark_value-requires-clause-live c =
    let g = c.args.graph.now in
    rw c.trains-trains.ensures.trains (value-there g.network g.state c.in-Value.value (sym (ap message_of c.in-Value.is) ∙ c.kind.ensures.says) c.requires.accepted)

pub mark_event-requires-clause-live : goal.mark_event-requires-clause-live
mark_event-requires-clause-live c =
    let g = c.args.graph.now in
    rw c.trains-trains.ensures.trains (choice-there g.network g.state c.in-Choice.choice (sym (ap message_of c.in-Choice.is) ∙ c.kind.ensures.says) c.requires.accepted)

pub mark_fed-requires-clause-live : goal.mark_fed-requires-clause-live
mark_fed-requires-clause-live c =
    let g = c.args.graph.now in
    rw (c.deref.ensures.value, c.list_taken.ensures.list, ← shape-leaves g.network g.state c.in-Shape._shape (sym (ap message_of c.in-Shape.is) ∙ c.kind.ensures.says) c.requires.valid c.kind.ensures.well_formed c.requires.accepted)
    (shape-taken g.network g.state c.in-Shape._shape (sym (ap message_of c.in-Shape.is) ∙ c.kind.ensures.says) c.requires.valid c.kind.ensures.well_formed c.requires.accepted)

pub mark_value-requires-clause-empty : goal.mark_value-requires-clause-empty
mark_value-requires-clause-empty c =
    let g = c.args.graph.now in
    c.list_taken.ensures.list ∙ sym (value-leaves g.network g.state c.in-Value.value (sym (ap message_of c.in-Value.is) ∙ c.kind.ensures.says))

pub returns-in-Value-clause-leaving : goal.returns-in-Value-clause-leaving
returns-in-Value-clause-leaving c =
    let g = c.args.graph.now in
    c.mark_value.ensures.empty ∙ value-leaves g.network g.state c.in-Value.value (sym (ap message_of c.in-Value.is) ∙ c.kind.ensures.says)

pub returns-in-Value-clause-marked : goal.returns-in-Value-clause-marked
returns-in-Value-clause-marked c =
    let g = c.args.graph.now in
    let fit = rw c.trains-trains.ensures.trains at c.mark_value.ensures.fit in
    let marked = rw (c.trains-trains.ensures.trains, c.requires.unmarked) at c.mark_value.ensures.marked in
    value-before g.network g.state c.in-Value.value (sym (ap message_of c.in-Value.is) ∙ c.kind.ensures.says) c.mark_value.new.marks fit marked

pub returns-in-Choice-clause-marked : goal.returns-in-Choice-clause-marked
returns-in-Choice-clause-marked c =
    let g = c.args.graph.now in
    let fit = rw c.trains-trains.ensures.trains at c.mark_event.ensures.fit in
    let marked = rw (c.trains-trains.ensures.trains, c.requires.unmarked) at c.mark_event.ensures.marked in
    choice-before g.network g.state c.in-Choice.choice (sym (ap message_of c.in-Choice.is) ∙ c.kind.ensures.says) c.mark_event.new.marks fit marked

pub returns-in-Shape-clause-marked : goal.returns-in-Shape-clause-marked
returns-in-Shape-clause-marked c =
    let g = c.args.graph.now in
    let list = c.list_taken.ensures.list ∙ sym (shape-leaves g.network g.state c.in-Shape._shape (sym (ap message_of c.in-Shape.is) ∙ c.kind.ensures.says) c.requires.valid c.kind.ensures.well_formed c.requires.accepted) in
    let marked = rw (c.deref.ensures.value, list, c.requires.unmarked) at c.mark_fed.ensures.marked in
    shape-before g.network g.state c.in-Shape._shape (sym (ap message_of c.in-Shape.is) ∙ c.kind.ensures.says) c.requires.valid c.kind.ensures.well_formed c.requires.accepted c.mark_fed.new.marks c.mark_fed.ensures.fit marked
