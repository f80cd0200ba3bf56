-- What a search has found.
use Rattle.std.specs.Prelude.{ℕ, List, Option}
use Rattle.mt_base.specs.declared.journeys.PlanRide.{PlanRide}
use Rattle.mt_base.specs.declared.journeys.Query.{Query}
use Rattle.delay_model.specs.declared.network.Network.{Network}
use Rattle.delay_model.specs.declared.state.State.{State}
use Rattle.conn_scan.specs.ScratchState.{IsAnswer, IsSettled, ScratchRoom}
use Rattle.conn_scan.specs.declared.earliest_arrival.Found.{Found}

-- the answer with these rides, and the arrivals by stop that are held, are right, whatever room
-- there is
pub record HasFound (nw : Network) (st : State) (q : Query) (found : Found) (rides : List PlanRide)
    (held : List (Option ℕ)) : Type 0 where
  pub answer : IsAnswer nw st q rides found
  pub settled : (room : ScratchRoom)
      → IsSettled nw st q found (record { room = room; rides = rides; held = held })
