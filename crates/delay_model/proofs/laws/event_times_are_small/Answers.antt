use Rattle.std.proofs.lemmas.List.Elements.{Contains-get_or}
use Rattle.delay_model.specs.Events.{events}
use Rattle.delay_model.specs.Timing.{event_time}
use Rattle.delay_model.proofs.Solve.{valid-graph}
use Rattle.delay_model.proofs.Bounds.{event_time-small, time-late}
use Rattle.delay_model.proofs.laws.event_times_are_small.Goals as goal

pub returns-clause-small : goal.returns-clause-small
returns-clause-small c = λ k d l.
    event_time-small c.args.nw.now c.args.st.now c.requires _ (Contains-get_or (events c.args.st.now) k d l)

pub returns-clause-late : goal.returns-clause-late
unfolding event_time
returns-clause-late c = λ k d l.
    time-late _ _ (valid-graph c.args.nw.now c.args.st.now c.requires) c.requires.small _ (Contains-get_or (events c.args.st.now) k d l)
