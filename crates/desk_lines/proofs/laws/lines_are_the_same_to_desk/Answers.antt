use Rattle.desk_lines.proofs.QuestionLemmas.{line-bad, lines-same}
use Rattle.desk_lines.proofs.laws.lines_are_the_same_to_desk.Goals as goal

pub returns-clause-same : goal.returns-clause-same
returns-clause-same c = lines-same

pub returns-clause-bad : goal.returns-clause-bad
returns-clause-bad c = line-bad
