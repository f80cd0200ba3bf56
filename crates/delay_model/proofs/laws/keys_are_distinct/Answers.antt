use Rattle.delay_model.proofs.Apart.{events-apart, events-unique}
use Rattle.delay_model.proofs.laws.keys_are_distinct.Goals as goal

pub returns-clause-apart : goal.returns-clause-apart
returns-clause-apart c = events-apart c.args.st.now c.requires

pub returns-clause-known : goal.returns-clause-known
returns-clause-known c = events-unique c.args.st.now c.requires
