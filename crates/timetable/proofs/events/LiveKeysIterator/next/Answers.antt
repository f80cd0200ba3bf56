use Rattle.timetable.proofs.Words.{◌≡◌, None, rules, arith}
use Rattle.timetable.proofs.Listing.{taken-train}
use Rattle.timetable.proofs.events.LiveKeysIterator.next.Goals as goal

pub loop-key-preserved : goal.loop-key-preserved
loop-key-preserved c =
    let inside = c.loop-key.self-inside in
    let none : c.loop-key.key ≡ None = search rules in
    let part = rw none at c.loop-key.invariant in
    let one = c.next_live-key-in-loop-key in
    taken-train inside.trains.now inside.next _ _ c.events-self-inside.result one.new.events one.result (omega arith) c.new.ensures part.0 c.events-self-inside.ensures one.ensures.some one.ensures.none one.ensures.left
