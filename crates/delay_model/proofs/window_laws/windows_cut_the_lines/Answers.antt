use Rattle.delay_model.proofs.WindowLemmas.{windows-are}
use Rattle.delay_model.proofs.window_laws.windows_cut_the_lines.Goals as goal

pub returns : goal.returns
returns g c = λ is_flush lines ws. windows-are is_flush lines ws
