use Rattle.mt_io.proofs.Runs.{begins, ends, goes_on, stops}
use Rattle.mt_io.proofs.laws.answers_are_the_lines.Goals as goal

pub returns : goal.returns
returns c = record { begins = begins; goes_on = goes_on; ends = ends; stops = stops }
