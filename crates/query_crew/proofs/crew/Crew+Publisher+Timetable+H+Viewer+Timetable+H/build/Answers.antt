use Rattle.query_crew.proofs.Keeping.{all-have}
use Rattle.std.proofs.Common.{arith}
use Rattle.query_crew.proofs.Choosing.{both}
use Rattle.query_crew.proofs.crew.Crew+Publisher+Timetable+H+Viewer+Timetable+H.build.Goals as goal

pub returns-clause-viewers : goal.returns-clause-viewers
returns-clause-viewers g c =
    both c.build_limited.result c.build_limited.ensures.workers c.build_limited.ensures.viewers (λ crew count have. all-have c.args.plan.workers crew.workers have count)
