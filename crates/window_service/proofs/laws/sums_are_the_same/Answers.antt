use Rattle.window_service.proofs.SameSums.{same-sums}
use Rattle.window_service.proofs.laws.sums_are_the_same.Goals as goal

pub returns : goal.returns
returns c = same-sums
