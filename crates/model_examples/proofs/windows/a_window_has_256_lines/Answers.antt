use Rattle.model_examples.proofs.Words.{refl, windows}
use Rattle.model_examples.proofs.windows.a_window_has_256_lines.Goals as goal

pub returns : goal.returns
unfolding windows
returns c = record { full = refl; just_full = refl; flush = refl; after_a_flush = refl }
