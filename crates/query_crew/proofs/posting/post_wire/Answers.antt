use Rattle.query_crew.proofs.Words.{length, refl, sym}
use Rattle.query_crew.proofs.Taking.{posts-message}
use Rattle.query_crew.proofs.posting.post_wire.Goals as goal

pub returns-clause-taken : goal.returns-clause-taken
returns-clause-taken g c = λ s h.
    posts-message h (c.in_ok-reply.ensures.taken h.timetable (length c.args.publisher.now) (h.after, refl))

pub returns-clause-later : goal.returns-clause-later
returns-clause-later g c =
    let h = c.requires.board.1 in
    let one = posts-message h (c.in_ok-reply.ensures.taken h.timetable (length c.args.publisher.now) (h.after, refl)) in
    (_, sym one.posted)
