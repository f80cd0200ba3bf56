-- How many stored times a message may take to read.
use Rattle.std.specs.Prelude.{ℕ, ◌+◌, length}
use Rattle.std.specs.List.{sum_by}
use Rattle.delay_model.specs.declared.messages.Message.{Message}
use Rattle.delay_model.specs.declared.network.Network.{Network}
use Rattle.delay_model.specs.declared.state.Event.{Event}
use Rattle.delay_model.specs.declared.state.State.{State}
use Rattle.delay_model.specs.Edges.{edges}
use Rattle.delay_model.specs.Effect.{effect}
use Rattle.delay_model.specs.Timing.{incoming}
use Rattle.delay_model.specs.Touched.{touched}

-- for each event that a message touches three, and one for each edge that leads to it afterwards
abbrev pub reads_of : Network → State → Message → ℕ
reads_of nw st m =
    sum_by (λ (v : Event). 3 + length (incoming (edges nw (effect st m)) v.key)) (touched nw st m)
