use Rattle.mt_base.specs.Order.{is_same_node}
use Rattle.mt_base.proofs.keys.Node.is_same.Goals as goal

pub returns : goal.returns
unfolding is_same_node
returns c = c.eq.ensures
