-- Why there is no edge for a connection that is chosen.
use Rattle.std.specs.Prelude.{◌&&◌, not, Option}
use Rattle.std.specs.Option.{option_or}
use Rattle.mt_base.specs.declared.keys.Node.{Node}
use Rattle.delay_model.specs.declared.messages.Refusal.{Refusal}
use Rattle.delay_model.specs.declared.messages.Refusal.TheVariants.{Unknown, NoConnection}
use Rattle.delay_model.specs.declared.network.Network.{Network}
use Rattle.delay_model.specs.declared.state.State.{State}
use Rattle.delay_model.specs.Events.{is_live}
use Rattle.delay_model.specs.Refusals.{refused_if, is_no_connection}

-- one of the two events is not live, or there is no connection between them
abbrev pub no_edge : Network → State → Node → Node → Option Refusal
no_edge nw st feeder train =
    option_or (refused_if (not (is_live st feeder && is_live st train)) Unknown)
    (refused_if (is_no_connection nw st feeder train) NoConnection)
