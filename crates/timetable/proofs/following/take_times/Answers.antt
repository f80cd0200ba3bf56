use Rattle.timetable.proofs.Words.{arith, drop_all, refl}
use Rattle.timetable.proofs.Listing.{cut-at}
use Rattle.timetable.proofs.Followed.{next-has, next-other, next-there, taken-all, taken-first, taken-next}
use Rattle.timetable.proofs.following.take_times.Goals as goal

pub loop-n-init : goal.loop-n-init
loop-n-init g c = record {
  part = rw c.requires.names (taken-first c.requires.valid c.args.times.now c.args.other.now c.requires.held c.requires.other c.args.changes.now.items);
  room = c.requires.room;
  capacity = refl;
  cost = refl;
}

pub take_time-requires-clause-there : goal.take_time-requires-clause-there
take_time-requires-clause-there g c =
    let part = rw (cut-at c.args.names.now c.loop-n.n-index c.n-item.result c.loop-n-test.true c.n-item.is) at c.loop-n.invariant.part in
    rw c.trains.ensures.trains (next-there c.requires.valid c.args.times.now c.args.other.now c.requires.held c.requires.other part)

pub take_time-requires-clause-has : goal.take_time-requires-clause-has
take_time-requires-clause-has g c =
    let part = rw (cut-at c.args.names.now c.loop-n.n-index c.n-item.result c.loop-n-test.true c.n-item.is) at c.loop-n.invariant.part in
    next-has c.requires.valid c.args.times.now c.args.other.now c.requires.held c.requires.other part

pub take_time-requires-clause-other_has : goal.take_time-requires-clause-other_has
take_time-requires-clause-other_has g c =
    let part = rw (cut-at c.args.names.now c.loop-n.n-index c.n-item.result c.loop-n-test.true c.n-item.is) at c.loop-n.invariant.part in
    next-other c.requires.valid c.args.times.now c.args.other.now c.requires.held c.requires.other part

pub loop-n-preserved : goal.loop-n-preserved
loop-n-preserved g c =
    let cut = cut-at c.args.names.now c.loop-n.n-index c.n-item.result c.loop-n-test.true c.n-item.is in
    let part = rw cut at c.loop-n.invariant.part in
    let room = rw cut at c.loop-n.invariant.room in
    let cost = rw cut at c.loop-n.invariant.cost in
    let e = c.take_time.ensures in
    let key = rw c.trains.ensures.trains at e.key in
    record {
      part = taken-next c.requires.valid c.args.times.now c.args.other.now c.requires.held c.requires.other part c.take_time.result key e.was e.is e.stored e.time c.push_reserved.ensures.items;
      room = omega (arith, room, c.push_reserved.ensures.len, c.push_reserved.ensures.capacity);
      capacity = omega (arith, c.loop-n.invariant.capacity, c.push_reserved.ensures.capacity);
      cost = omega (arith, cost, e.cost);
    }

pub returns-clause-times : goal.returns-clause-times
returns-clause-times g c = (taken-all c.requires.valid c.args.times.now c.args.other.now c.requires.held c.requires.other (rw (drop_all c.loop-n.n-index c.args.names.now c.loop-n-test.false) at c.loop-n.invariant.part)).0

pub returns-clause-changes : goal.returns-clause-changes
returns-clause-changes g c = (taken-all c.requires.valid c.args.times.now c.args.other.now c.requires.held c.requires.other (rw (drop_all c.loop-n.n-index c.args.names.now c.loop-n-test.false) at c.loop-n.invariant.part)).1

pub returns-clause-cost : goal.returns-clause-cost
returns-clause-cost g c =
    let cost = rw (drop_all c.loop-n.n-index c.args.names.now c.loop-n-test.false) at c.loop-n.invariant.cost in
    omega (arith, cost)
