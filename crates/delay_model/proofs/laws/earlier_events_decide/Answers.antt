use Rattle.delay_model.specs.Timing.{event_time}
use Rattle.delay_model.proofs.Solve.{valid-graph, unique-below}
use Rattle.delay_model.proofs.laws.earlier_events_decide.Goals as goal

pub returns : goal.returns
unfolding event_time
returns c = λ t k follows v h live before. unique-below _ _ (valid-graph c.args.nw.now c.args.st.now c.requires) t k follows v h live before
