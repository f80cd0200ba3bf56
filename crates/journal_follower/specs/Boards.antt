-- A board of timetables with the names that are known.
use Rattle.std.specs.Prelude.{◌≡◌, List}
use Rattle.std.specs.declared.option.Option.{Option}
use Rattle.delay_model.specs.declared.messages.Message.{Message}
use Rattle.information_service.specs.ServiceState.{ServiceState}
use Rattle.query_crew.specs.Posting.{StandsAt}
use Rattle.schedule_build.specs.Directory.{Names}
use Rattle.timetable.specs.TimetableState.{TimetableState}

-- what was posted, as the publisher is seen, and the names that are known
pub record BoardState (P : Type 0) : Type 0 where
  pub posted : P
  pub names : Names

-- it stands as a service in this state, after these messages, which were all posted to it. It
-- opened with this timetable, where it is known
abbrev pub StandsAs : Option TimetableState → BoardState (List Message) → ServiceState
    → List Message → Type 0
StandsAs o b s before = (b.posted ≡ before) × StandsAt o b.posted b.names s
