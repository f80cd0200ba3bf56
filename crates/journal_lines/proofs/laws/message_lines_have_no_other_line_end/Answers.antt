use Rattle.journal_lines.proofs.ReadBack.{lines-clear}
use Rattle.journal_lines.proofs.laws.message_lines_have_no_other_line_end.Goals as goal

pub returns : goal.returns
returns c = λ w line is labels texts ends. lines-clear w line ends
