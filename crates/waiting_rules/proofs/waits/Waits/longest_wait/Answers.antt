use Rattle.waiting_rules.proofs.WaitLemmas.{longest-is, longest-small}
use Rattle.waiting_rules.proofs.waits.Waits.longest_wait.Goals as goal

pub returns-clause-longest : goal.returns-clause-longest
returns-clause-longest c = rw (c.self.invariant.greatest, ← c.self.view_is) (longest-is c.self.inside.rows.rules.items)

pub returns-clause-small : goal.returns-clause-small
returns-clause-small c = rw c.self.invariant.greatest (longest-small 86400 c.self.inside.rows.rules.items c.self.invariant.longest)
