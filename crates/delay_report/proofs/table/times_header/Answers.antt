use Rattle.csv.specs.Writing.{fields_text, is_blank}
use Rattle.std.proofs.Common.{refl}
use Rattle.delay_report.specs.Table.{header}
use Rattle.delay_report.proofs.table.times_header.Goals as goal

pub returns : goal.returns
unfolding header fields_text is_blank
returns c = refl
