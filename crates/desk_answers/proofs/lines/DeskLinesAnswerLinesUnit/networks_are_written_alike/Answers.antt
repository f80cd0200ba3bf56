use Rattle.desk_answers.proofs.Alike.{desk-alike}
use Rattle.desk_answers.proofs.lines.DeskLinesAnswerLinesUnit.networks_are_written_alike.Goals as goal

pub returns : goal.returns
returns c = desk-alike
