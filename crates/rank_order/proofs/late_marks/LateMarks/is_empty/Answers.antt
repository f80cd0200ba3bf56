use Rattle.std.proofs.Common.{sym, ◌∙◌}
use Rattle.std.proofs.lemmas.Bool.{eqb-true}
use Rattle.rank_order.proofs.HeapLemmas.{none-in}
use Rattle.rank_order.proofs.late_marks.LateMarks.is_empty.Goals as goal

pub returns : goal.returns
returns c = λ e. sym c.self.view_is ∙ none-in c.self.inside.heap (eqb-true _ _ (sym c.is_empty.ensures ∙ e))
