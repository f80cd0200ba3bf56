use Rattle.query_crew.proofs.Words.{rules, IfOk, length, IsReplyToQuery}
use Rattle.query_crew.proofs.WorkLemmas.{search-room, answered-whole}
use Rattle.query_crew.proofs.worker.look_for.Goals as goal

pub look-requires : goal.look-requires
look-requires g c = λ x list after small seen learnt. search-room g.H.Opening.opening c.args.scratch.room list x.now c.requires.room after

pub returns-clause-answer : goal.returns-clause-answer
returns-clause-answer g c =
    let t = c.look.ensures.shown.now in
    let is : IfOk c.look.result.1 (IsReplyToQuery t.network t.state (length c.look.new.self.seen) c.args.number c.args.asked.now.day c.args.asked.now.query) = search rules in
    answered-whole g.H.Opening.opening c.look.new.self.seen c.args.number c.args.asked.now t c.look.result.1 c.look.ensures.state is
