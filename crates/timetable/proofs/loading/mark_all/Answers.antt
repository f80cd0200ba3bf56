use Rattle.timetable.proofs.Words.{events}
use Rattle.timetable.proofs.AllMarked.{last-known, marked-more, none-marked}
use Rattle.timetable.proofs.loading.mark_all.Goals as goal

pub loop-k-init : goal.loop-k-init
loop-k-init c = none-marked (events c.args.trains.now) c.sort_unstable.new.self.items c.args.marks.now c.requires (rw c.in_ok-keys.ensures at c.sort_unstable.ensures.permutation)

pub mark-requires : goal.mark-requires
mark-requires c = record {
  events = events c.args.trains.now;
  fit = c.loop-k.invariant.fit;
  live = last-known (events c.args.trains.now) c.pop.new.self.items c.in-Some.k c.args.marks.now.room c.loop-k.marks (rw c.in-Some.ensures.items at c.loop-k.invariant);
}

pub loop-k-preserved : goal.loop-k-preserved
loop-k-preserved c =
    let es = events c.args.trains.now in
    let part = rw c.in-Some.ensures.items at c.loop-k.invariant in
    let live = last-known es c.pop.new.self.items c.in-Some.k c.args.marks.now.room c.loop-k.marks part in
    marked-more es c.pop.new.self.items c.in-Some.k c.args.marks.now.room c.loop-k.marks c.mark.new.marks part (c.mark.ensures.fit es part.fit live) c.mark.ensures.marked c.mark.ensures.room
