use Rattle.mt_base.proofs.KeyLemmas.{keys_total, exact_keys}
use Rattle.mt_base.proofs.keys.key_order_is_total.Goals as goal

pub returns-clause-total : goal.returns-clause-total
returns-clause-total c = keys_total

pub returns-clause-exact : goal.returns-clause-exact
returns-clause-exact c = exact_keys
