use Rattle.cause_laws.proofs.Ruled.{rule-of-two}
use Rattle.cause_laws.proofs.laws.rules_are_asked_of_two_events.Goals as goal

pub returns : goal.returns
returns c = λ u v e time hu hv from to. rule-of-two c.args.nw.now c.args.st.now c.requires u v e time hu hv from to
