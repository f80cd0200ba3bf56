-- What a graph is seen as.
use Rattle.std.specs.Prelude.{refl}
use Rattle.std.specs.Coded.{Coded, code_by, coded×}
use Rattle.delay_model.specs.declared.network.Network.{Network}
use Rattle.delay_model.specs.declared.state.State.{State}
use Rattle.delay_model.specs.contracts.network.Network.{the_row as network_row}
use Rattle.delay_model.specs.contracts.state.State.{the_row as state_row}

-- what no message changes, and the state of the trains
pub record GraphState : Type 0 where
  pub network : Network
  pub state : State

-- with another state of the trains
abbrev pub with_state : State → GraphState → GraphState
with_state st g = record g { state = st }

-- a graph is stored as the pair of its fields
abbrev pub graph_state_code : Coded GraphState
graph_state_code =
    code_by (Network × State) (coded× network_row.coded state_row.coded)
    (λ g. (g.network, g.state)) (λ p. record { network = p.0; state = p.1 }) (λ _. refl)
