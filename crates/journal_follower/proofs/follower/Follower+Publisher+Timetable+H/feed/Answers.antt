use Rattle.std.proofs.Common.{arith}
use Rattle.journal_follower.proofs.Feeding.{can-read, IsFed, stays-posted, stays-ready}
use Rattle.journal_follower.proofs.follower.Follower+Publisher+Timetable+H.feed.Goals as goal
use Rattle.journal_follower.proofs.follower.Follower+Publisher+Timetable+H.feed.Given.{Over}

pub feed-requires-clause-ready : goal.feed-requires-clause-ready
feed-requires-clause-ready g c = λ none.
    let ready = rw (← c.self.view_is) at c.requires.ready in
    let lines = rw (← c.self.view_is) at c.requires.lines in
    can-read ready lines (omega arith) none

fed : (g : Over) (c : goal.After-feed g) → IsFed g.H.Opening.opening (record { reader = c.self.inside.reader; board = c.self.inside.board })
    (record { reader = c.feed.new.self; board = c.feed.new.taker }) c.args.piece.now c.feed.result
fed g c = record {
  ready = rw (← c.self.view_is) at c.requires.ready;
  read = c.feed.ensures.read;
  memory = c.feed.ensures.memory;
  refused = c.feed.ensures.refused;
  answers = c.feed.ensures.answer;
}

pub returns-clause-read : goal.returns-clause-read
returns-clause-read g c = rw (← c.self.view_is) c.feed.ensures.read

pub returns-clause-later : goal.returns-clause-later
returns-clause-later g c = rw (← c.self.view_is) (stays-posted (fed g c))

pub returns-clause-ready : goal.returns-clause-ready
returns-clause-ready g c = stays-ready (fed g c)
