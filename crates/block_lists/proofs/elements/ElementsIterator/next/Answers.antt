use Rattle.block_lists.proofs.RangeLemmas.{range-step}
use Rattle.block_lists.proofs.elements.ElementsIterator.next.Goals as goal

pub returns-clause-steps : goal.returns-clause-steps
returns-clause-steps g c =
    let v = c.self.inside in
    rw (← c.self.view_is) (range-step v.list.now.items v.next v.end _ c.self.invariant.1 (rw (← c.self.view_is) at c.in_ok-item.ensures.some))
