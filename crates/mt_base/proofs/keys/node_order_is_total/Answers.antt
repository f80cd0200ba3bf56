use Rattle.mt_base.proofs.KeyLemmas.{nodes_total, exact_nodes}
use Rattle.mt_base.proofs.keys.node_order_is_total.Goals as goal

pub returns-clause-total : goal.returns-clause-total
returns-clause-total c = nodes_total

pub returns-clause-exact : goal.returns-clause-exact
returns-clause-exact c = exact_nodes
