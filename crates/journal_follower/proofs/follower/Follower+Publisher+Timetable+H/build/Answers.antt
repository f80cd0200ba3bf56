use Rattle.std.proofs.Common.{ap, arith, length}
use Rattle.journal_follower.proofs.Feeding.{opened}
use Rattle.journal_follower.proofs.follower.Follower+Publisher+Timetable+H.build.Goals as goal

pub returns-clause-ready : goal.returns-clause-ready
returns-clause-ready g c = λ none.
    let leader = c.args.leader in
    let posted = c.in_ok-publisher.publisher in
    let empty = c.in_ok-publisher.ensures.publisher in
    record {
      service = opened g.H.Opening.opening leader.timetable posted leader.directory c.requires.opening empty c.requires.in_step;
      few = omega (arith, ap length empty);
    }
