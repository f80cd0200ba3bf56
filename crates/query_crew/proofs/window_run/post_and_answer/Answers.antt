use Rattle.std.proofs.Common.{arith}
use Rattle.query_crew.proofs.Keeping.{rooms-kept}
use Rattle.query_crew.proofs.window_run.post_and_answer.Goals as goal

pub meet_all-requires-clause-room : goal.meet_all-requires-clause-room
meet_all-requires-clause-room g c =
    let kept = c.in_ok-run_beside.ensures.kept in
    λ i d l. rooms-kept g.H.Opening.opening c.args.all.now c.run_beside.new.all kept c.requires.room i d (omega (arith, l, kept.count))

pub returns-then-meet_all-clause-answered : goal.returns-then-meet_all-clause-answered
returns-then-meet_all-clause-answered g c =
    let run = c.in_ok-run_beside.ensures in
    let answered = rw run.kept.count at c.meet_all.ensures.answered in
    answered c.if-meet_all.true c.args.publisher.now run.later run.worked
