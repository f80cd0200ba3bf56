use Rattle.std.proofs.Common.{◌++◌, subst}
use Rattle.rank_order.specs.Marked.{Ascends, Marked}
use Rattle.rank_order.proofs.OrderLemmas.{in_order-ascends}
use Rattle.rank_order.proofs.marks.Marks.marks_are_in_order.Goals as goal

pub returns-clause-ascends : goal.returns-clause-ascends
returns-clause-ascends c = subst (λ (m : Marked). Ascends m.keys) c.self.view_is (in_order-ascends (c.self.inside.keys.items ++ c.self.inside.late))
