use Rattle.std.proofs.Common.{rules}
use Rattle.mt_base.specs.Order.{is_before_entry}
use Rattle.mt_base.proofs.index_entries.Entry.is_before.Goals as goal

pub returns : goal.returns
unfolding is_before_entry
returns c = search rules
