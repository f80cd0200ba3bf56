use Rattle.std.proofs.Common.{◌≡◌, length, refl, ap, sym, ◌∙◌}
use Rattle.query_crew.proofs.Taking.{posts-message}
use Rattle.journal_follower.proofs.TakenWires.{can-take, is_accepted, not-other, takes-posted}
use Rattle.journal_follower.proofs.board.NamedBoardPublisherTimetableTakeJournal.take.Goals as goal
use Rattle.journal_follower.proofs.board.NamedBoardPublisherTimetableTakeJournal.take.Goals.{in-Accepted, in_default}

pub take_wire-requires-clause-ready : goal.take_wire-requires-clause-ready
take_wire-requires-clause-ready g c =
    let h = rw (← c.self.view_is) at c.requires.ready in
    can-take h

pub returns-clause-taken : goal.returns-clause-taken
returns-clause-taken g c = λ s before stands.
    let h = rw (← c.self.view_is) at stands in
    let at = h.1 in
    let says : c.match-matches.matches ≡ is_accepted c.in_ok-reply.reply = elim c.match-matches.branch [
      | in-Accepted w ↦ w.matches-is ∙ sym (ap is_accepted w.in-Accepted.is)
      | in_default w ↦ w.matches-is ∙ not-other c.in_ok-reply.reply w.in_default.not-Accepted
    ] in
    takes-posted c.match-matches.matches h (posts-message at (c.in_ok-reply.ensures.taken at.timetable (length c.self.inside.publisher) (at.after, refl))) says
