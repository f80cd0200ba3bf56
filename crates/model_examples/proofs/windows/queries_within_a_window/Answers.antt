use Rattle.model_examples.proofs.Words.{refl, windows}
use Rattle.model_examples.proofs.windows.queries_within_a_window.Goals as goal

pub returns : goal.returns
unfolding windows
returns c = refl
