-- What the proofs of this crate speak of.
pub use Rattle.delay_model.specs.After.{after_messages}
unfoldable pub use Rattle.delay_model.specs.Changes.{change}
unfoldable pub use Rattle.delay_model.specs.Edges.{transfer}
unfoldable pub use Rattle.delay_model.specs.Effect.{effect}
unfoldable pub use Rattle.delay_model.specs.Events.{events}
pub use Rattle.delay_model.specs.Overrides.{connection_cmp}
unfoldable pub use Rattle.delay_model.specs.Refusals.{refusal}
unfoldable pub use Rattle.delay_model.specs.Timing.{cap, event_time, incoming, local, time, time_within}
unfoldable pub use Rattle.delay_model.specs.Waits.{wait}
unfoldable pub use Rattle.delay_model.specs.Windows.{windows}
pub use Rattle.delay_model.specs.declared.messages.Refusal.TheVariants.{AgainstRank, Full}
pub use Rattle.delay_model.specs.declared.messages.Short.TheVariants.{Overrides}
pub use Rattle.delay_model.specs.declared.network.Network.{Network}
pub use Rattle.delay_model.specs.declared.overrides.Override.{Override}
pub use Rattle.delay_model.specs.declared.state.Call.{Call}
pub use Rattle.delay_model.specs.declared.state.Event.{Event}
pub use Rattle.delay_model.specs.declared.state.State.{State}
pub use Rattle.delay_model.specs.declared.state.Train.{Train}
pub use Rattle.model_examples.specs.TwoTrains.{arrival, at, at_b1, at_eight, call, clock, departure, keep_at_b, network, opts, platform_b1, platform_b2, start, stop_a, stop_c, stop_d, t1_at_b}
unfoldable pub use Rattle.mt_base.specs.Order.{is_before, is_same, is_same_node}
pub use Rattle.std.proofs.Common.{All, Bool, List, None, Option, Some, [], ap, arith, false, length, lit<, lit≤, refl, subst, sym, true, ℕ, ◌++◌, ◌+◌, ◌<◌, ◌∙◌, ◌∷◌, ◌≡◌, ◌≤◌}
pub use Rattle.std.specs.FinMap.{len-empty}
