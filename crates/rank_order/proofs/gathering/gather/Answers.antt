use Rattle.std.proofs.Common.{◌≡◌, ◌++◌, sym, subst}
use Rattle.rank_order.specs.InOrder.{in_order}
use Rattle.rank_order.proofs.OrderLemmas.{in_order-alone}
use Rattle.rank_order.proofs.gathering.gather.Goals as goal

pub returns-then-is_empty-clause-keys : goal.returns-then-is_empty-clause-keys
returns-then-is_empty-clause-keys c =
    subst (λ ls. c.args.keys.now.items ≡ in_order (c.args.keys.now.items ++ ls)) (sym (c.is_empty.ensures c.if-is_empty.true)) (sym (in_order-alone c.args.keys.now.items c.requires.ascends))
