use Rattle.journal_laws.proofs.Written.{are-input-lines, first-are-input-lines}
use Rattle.journal_laws.proofs.laws.lines_of_inputs_are_input_lines.Goals as goal

pub returns-clause-all : goal.returns-clause-all
returns-clause-all c = are-input-lines

pub returns-clause-first : goal.returns-clause-first
returns-clause-first c = first-are-input-lines
