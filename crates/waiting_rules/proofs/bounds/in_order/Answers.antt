use Rattle.waiting_rules.proofs.bounds.in_order.Goals as goal

pub returns-clause-order : goal.returns-clause-order
returns-clause-order c = c.into_iter.ensures.into_iter_gives.5
