use Rattle.delay_model.proofs.WindowLemmas.{bounds-length, bounds-at}
use Rattle.delay_model.proofs.window_laws.each_line_has_the_bounds_of_its_window.Goals as goal

pub returns-clause-count : goal.returns-clause-count
returns-clause-count g c = λ next count s ws. bounds-length next count s ws

pub returns-clause-bounds : goal.returns-clause-bounds
returns-clause-bounds g c = λ next count s before later w i l. bounds-at next count s before later w i l
