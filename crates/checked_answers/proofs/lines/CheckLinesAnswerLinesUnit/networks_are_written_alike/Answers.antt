use Rattle.checked_answers.proofs.Alike.{checked-alike}
use Rattle.checked_answers.proofs.lines.CheckLinesAnswerLinesUnit.networks_are_written_alike.Goals as goal

pub returns : goal.returns
returns c = checked-alike
