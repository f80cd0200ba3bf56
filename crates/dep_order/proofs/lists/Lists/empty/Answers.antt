use Rattle.dep_order.proofs.Words.{◌∙◌, ap, arith, map, departure_in}
use Rattle.dep_order.proofs.BuildLemmas.{empty-entries, kept-empty}
use Rattle.dep_order.proofs.lists.Lists.empty.Goals as goal

pub returns : goal.returns
returns c =
    let slots = c.in_ok-fresh.ensures in
    let buckets = c.in_ok-vec.ensures.items_if_clones_equal (λ y h. h) in
    record {
      kept = kept-empty _ c.args.room _ c.requires (omega arith) slots buckets;
      entries = ap (map departure_in) slots ∙ empty-entries c.args.room;
    }
