use Rattle.std.proofs.Common.{◌≡◌, ◌∙◌, ◌++◌, subst, sym}
use Rattle.rank_order.specs.InOrder.{in_order}
use Rattle.rank_order.specs.Marked.{Ascends}
use Rattle.rank_order.proofs.OrderLemmas.{in_order-alone, in_order-ascends}
use Rattle.rank_order.proofs.marks.gather_if_full.Goals as goal

pub returns-then-is_full-clause-ascends : goal.returns-then-is_full-clause-ascends
returns-then-is_full-clause-ascends c = subst Ascends (sym c.gather.ensures.keys) (in_order-ascends (c.args.keys.now.items ++ c.args.late.now))

pub returns-then-is_full-clause-keys : goal.returns-then-is_full-clause-keys
returns-then-is_full-clause-keys c =
    let ks = c.gather.new.keys.items in
    let all = in_order (c.args.keys.now.items ++ c.args.late.now) in
    let up : Ascends ks = subst Ascends (sym c.gather.ensures.keys) (in_order-ascends (c.args.keys.now.items ++ c.args.late.now)) in
    subst (λ ls. in_order (ks ++ ls) ≡ all) (sym c.gather.ensures.late) (in_order-alone ks up ∙ c.gather.ensures.keys)
