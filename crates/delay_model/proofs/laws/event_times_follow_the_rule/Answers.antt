use Rattle.delay_model.specs.Timing.{event_time}
use Rattle.delay_model.proofs.Solve.{valid-graph, time-local, timing-unique}
use Rattle.delay_model.proofs.laws.event_times_follow_the_rule.Goals as goal

pub returns-clause-rule : goal.returns-clause-rule
unfolding event_time
returns-clause-rule c = λ v h _. time-local _ _ (valid-graph c.args.nw.now c.args.st.now c.requires) v h

pub returns-clause-unique : goal.returns-clause-unique
unfolding event_time
returns-clause-unique c = λ t follows v h live. timing-unique _ _ (valid-graph c.args.nw.now c.args.st.now c.requires) t follows v h live
