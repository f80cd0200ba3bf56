use Rattle.waiting_rules.proofs.first_rules.in_order.Goals as goal

pub returns-clause-sorted : goal.returns-clause-sorted
returns-clause-sorted c = c.into_iter.ensures.into_iter_gives.5
