use Rattle.std.proofs.Common.{refl}
use Rattle.std.specs.Fmt.{digits}
use Rattle.json.specs.Print.{escape_byte}
use Rattle.message_reader.specs.Spelled.{date_text, time_text}
use Rattle.journal_lines.specs.Lines.{text_of_head, text_of_message}
use Rattle.journal_lines.proofs.laws.worked_lines_are_as_they_stand.Goals as goal

pub returns-clause-header : goal.returns-clause-header
unfolding text_of_head date_text escape_byte digits
returns-clause-header c = refl

pub returns-clause-message : goal.returns-clause-message
unfolding text_of_message date_text time_text escape_byte digits
returns-clause-message c = refl
