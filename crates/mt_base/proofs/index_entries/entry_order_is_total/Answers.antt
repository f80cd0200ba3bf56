use Rattle.mt_base.proofs.KeyLemmas.{entries_total, exact_entries}
use Rattle.mt_base.proofs.index_entries.entry_order_is_total.Goals as goal

pub returns-clause-total : goal.returns-clause-total
returns-clause-total c = entries_total

pub returns-clause-exact : goal.returns-clause-exact
returns-clause-exact c = exact_entries
