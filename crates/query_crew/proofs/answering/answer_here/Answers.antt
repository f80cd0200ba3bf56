use Rattle.query_crew.proofs.WorkLemmas.{search-room, new-entry}
use Rattle.query_crew.proofs.answering.answer_here.Goals as goal

pub reply_to_asked-requires : goal.reply_to_asked-requires
reply_to_asked-requires g c =
    let fits = search-room g.H.Opening.opening c.args.scratch.now.room c.args.publisher.now c.state.result.now c.requires.room c.state.ensures in
    record { stops = fits.stops; numbers = fits.numbers }

pub returns-in-Some-clause-entry : goal.returns-in-Some-clause-entry
returns-in-Some-clause-entry g c =
    new-entry g.H.Opening.opening c.args.publisher.now c.args.number c.count-after.result
    c.in-Some.query c.args.asked.now c.state.result.now c.in_ok-reply.reply c.in-Some.is c.count-after.ensures c.state.ensures c.in_ok-reply.ensures.reply
