-- What is told over a run of messages.
use Rattle.std.specs.Prelude.{List, [], ◌∷◌, if◌then◌else◌, map}
use Rattle.delay_model.specs.declared.messages.Message.{Message}
use Rattle.delay_model.specs.declared.network.Network.{Network}
use Rattle.delay_model.specs.declared.state.State.{State}
use Rattle.delay_model.specs.Effect.{effect}
use Rattle.standing_laws.specs.declared.standings.Alert.{Alert}
use Rattle.journey_watch.specs.declared.watched.Watched.{Watched}
use Rattle.journey_watch.specs.Watching.{alert_of, alerts_of, is_same_standing, renewed, standing_in}

-- the changes of standing from one state to another, each as it is told
abbrev pub changes_of : Network → State → State → List Watched → List Alert
changes_of nw old new [] = []
changes_of nw old new (w ∷ ws) =
    if is_same_standing (standing_in nw new w) (standing_in nw old w) then changes_of nw old new ws
    else alert_of nw new w ∷ changes_of nw old new ws

-- the changes of standing that each of these messages makes in the state that those before it leave
abbrev pub changes_along : Network → State → List Watched → List Message → List (List Alert)
changes_along nw st ws [] = []
changes_along nw st ws (m ∷ ms) =
    changes_of nw st (effect st m) ws ∷ changes_along nw (effect st m) ws ms

-- what is told behind each of these messages, where what is told is kept
abbrev pub alerts_along : Network → State → List Watched → List Message → List (List Alert)
alerts_along nw st ws [] = []
alerts_along nw st ws (m ∷ ms) =
    alerts_of nw (effect st m) ws
    ∷ alerts_along nw (effect st m) (map (renewed nw (effect st m)) ws) ms
