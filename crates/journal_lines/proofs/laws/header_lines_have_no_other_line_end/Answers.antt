use Rattle.journal_lines.proofs.ReadBack.{header-clear}
use Rattle.journal_lines.proofs.laws.header_lines_have_no_other_line_end.Goals as goal

pub returns : goal.returns
returns c = header-clear
