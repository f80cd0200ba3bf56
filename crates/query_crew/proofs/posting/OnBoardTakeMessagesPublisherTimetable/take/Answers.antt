use Rattle.query_crew.proofs.Taking.{posts-changed}
use Rattle.query_crew.proofs.posting.OnBoardTakeMessagesPublisherTimetable.take.Goals as goal

pub returns-clause-changed : goal.returns-clause-changed
returns-clause-changed g c = λ t count held.
    let a = c.requires.accepted in
    let after = rw c.in-Ok.ensures at c.state.ensures in
    rw c.changed.ensures (posts-changed g.H.Opening.opening c.args.holder.now c.args.message t a.timetable c.state.result.now held.0 a.held.0 a.accepted after)
