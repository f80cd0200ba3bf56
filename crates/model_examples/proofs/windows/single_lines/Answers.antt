use Rattle.model_examples.proofs.Words.{refl}
use Rattle.model_examples.proofs.windows.single_lines.Goals as goal

pub returns : goal.returns
returns c = refl
