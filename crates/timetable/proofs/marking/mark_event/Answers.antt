use Rattle.timetable.proofs.Words.{events, ap, ◌||◌, ◌∙◌}
use Rattle.train_nodes.proofs.EventLemmas.{live-there}
use Rattle.propagate.proofs.Ordered.{live-keyed}
use Rattle.rank_order.specs.Marked.{is_marked}
use Rattle.timetable.proofs.Feeds.{key-marks, named-live}
use Rattle.timetable.proofs.Words.{refl}
use Rattle.timetable.proofs.marking.mark_event.Goals as goal

pub event-requires : goal.event-requires
event-requires c = live-there c.args.trains.now c.args.n.now c.requires.live

pub mark-requires : goal.mark-requires
mark-requires c =
    let st = c.args.trains.now in
    let v = c.event.result in
    let is = named-live st c.args.n.now v c.requires.trains c.requires.live c.event.ensures in
    record { events = events st; fit = c.requires.fit; live = live-keyed (events st) v.key (v, is.there, refl, is.live) }

pub returns-clause-fit : goal.returns-clause-fit
returns-clause-fit c =
    let st = c.args.trains.now in
    let v = c.event.result in
    let is = named-live st c.args.n.now v c.requires.trains c.requires.live c.event.ensures in
    c.mark.ensures.fit (events st) c.requires.fit (live-keyed (events st) v.key (v, is.there, refl, is.live))

pub returns-clause-marked : goal.returns-clause-marked
returns-clause-marked c = λ q live.
    let st = c.args.trains.now in
    let v = c.event.result in
    let is = named-live st c.args.n.now v c.requires.trains c.requires.live c.event.ensures in
    c.mark.ensures.marked q ∙ ap (λ b. is_marked c.args.marks.now q || b) (key-marks st c.args.n.now v c.requires.trains is q live)
