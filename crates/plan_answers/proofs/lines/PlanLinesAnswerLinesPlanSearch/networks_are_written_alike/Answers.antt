use Rattle.plan_answers.proofs.Alike.{planned-alike}
use Rattle.plan_answers.proofs.lines.PlanLinesAnswerLinesPlanSearch.networks_are_written_alike.Goals as goal

pub returns : goal.returns
returns c = planned-alike
