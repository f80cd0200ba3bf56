-- What a timetable is seen as, and what an accepted message makes of it.
use Rattle.std.specs.Prelude.{ℕ, ◌+◌, ◌-◌, ◌^◌, List, min, refl, if◌then◌else◌, is_none}
use Rattle.std.specs.Coded.{Coded, code_by, coded×, coded_ℕ, coded_list}
use Rattle.mt_base.specs.declared.keys.Node.{Node}
use Rattle.mt_base.specs.Order.{coded_node}
use Rattle.delay_model.specs.declared.messages.Message.{Message}
use Rattle.delay_model.specs.declared.network.Network.{Network}
use Rattle.delay_model.specs.declared.state.State.{State}
use Rattle.delay_model.specs.contracts.network.Network.{the_row as network_row}
use Rattle.delay_model.specs.contracts.state.State.{the_row as state_row}
use Rattle.delay_model.specs.Effect.{effect}
use Rattle.delay_model.specs.Refusals.{refusal}
use Rattle.timetable.specs.Changed.{changed_nodes}

-- what no message changes, the state of the trains, how many numbers departures can have, how many
-- messages were accepted, and the events that the last of them changed
pub record TimetableState : Type 0 where
  pub network : Network
  pub state : State
  pub numbers : ℕ
  pub count : ℕ
  pub changed : List Node

-- a timetable is stored as its fields
abbrev pub timetable_state_code : Coded TimetableState
timetable_state_code =
    code_by (Network × (State × (ℕ × (ℕ × List Node))))
    (coded× network_row.coded
    (coded× state_row.coded (coded× coded_ℕ (coded× coded_ℕ (coded_list coded_node)))))
    (λ r. (r.network, (r.state, (r.numbers, (r.count, r.changed)))))
    (λ p. record {
      network = p.0;
      state = p.1.0;
      numbers = p.1.1.0;
      count = p.1.1.1.0;
      changed = p.1.1.1.1;
    }) (λ _. refl)

-- one message more, as far as 64 bits count
abbrev pub counted : ℕ → ℕ
counted n = min (n + 1) (2 ^ 64 - 1)

-- the timetable after an accepted message
abbrev pub stepped : TimetableState → Message → TimetableState
stepped r m =
    record {
      network = r.network;
      state = effect r.state m;
      numbers = r.numbers;
      count = counted r.count;
      changed = changed_nodes r.network r.state (effect r.state m);
    }

-- the state after a message, which changes nothing if it is refused
abbrev pub state_after : Network → State → Message → State
state_after nw st m = if is_none (refusal nw st m) then effect st m else st

-- the timetable after a message, which changes nothing if it is refused
abbrev pub taken : TimetableState → Message → TimetableState
taken r m = if is_none (refusal r.network r.state m) then stepped r m else r
