-- Links of chains, to be written in a line, and timetables where two trains feed a third.
use Rattle.std.specs.Prelude.{ℕ, Bool, [], ◌∷◌}
use Rattle.mt_base.specs.declared.keys.Key.{Key}
use Rattle.delay_model.specs.declared.state.State.{State}
use Rattle.delay_model.specs.declared.state.Train.{Train}
use Rattle.cause_laws.specs.declared.causes.Cause.{Cause}
use Rattle.cause_laws.specs.declared.causes.Link.{Link}
use Rattle.model_examples.specs.TwoTrains.{opts, start, t1, t2}

-- scheduled at this time, of this train and label, a departure or not
abbrev pub key : ℕ → ℕ → ℕ → Bool → Key
key time train label dep = record { time = time; train = train; label = label; dep = dep }

-- the event takes place at this time, for this cause
abbrev pub link_at : Key → ℕ → Cause → Link
link_at event time cause = record { event = event; time = time; cause = cause }

-- three trains: one in the place of the first of the timetable, that one as the train 1, and the
-- second of the timetable as the train 2
abbrev pub fed_by : Train → State
fed_by first = record (start opts) { trains = first ∷ t1 ∷ t2 ∷ [] }

-- both feeders are of the route for which the second train waits
abbrev pub two_feeders : State
two_feeders = fed_by t1

-- for the first feeder, which is of another route, no train waits
abbrev pub two_routes : State
two_routes = fed_by (record t1 { route = 2 })
