use Rattle.mt_io.proofs.Runs.{ends_exactly, spends_exactly}
use Rattle.mt_io.proofs.laws.ends_are_exact.Goals as goal

pub returns : goal.returns
returns c = record { end = ends_exactly; budget = spends_exactly }
