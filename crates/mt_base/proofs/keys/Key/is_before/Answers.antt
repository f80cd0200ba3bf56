use Rattle.std.proofs.Common.{rules}
use Rattle.mt_base.specs.Order.{is_before}
use Rattle.mt_base.proofs.keys.Key.is_before.Goals as goal

pub returns : goal.returns
unfolding is_before
returns c = search rules
