-- Refusals and effects of what is chosen for connections.
use Rattle.std.proofs.Common.{◌≡◌, ◌<◌, arith, true, false, Option, Some, None, refl, sym, ap}
use Rattle.std.specs.Option.{option_or}
use Rattle.delay_model.specs.declared.messages.Refusal.{Refusal}
use Rattle.delay_model.specs.declared.network.Network.{Network}
use Rattle.delay_model.specs.declared.overrides.Override.{Override}
use Rattle.delay_model.specs.declared.overrides.Override.TheVariants.{Keep, Drop}
use Rattle.delay_model.specs.declared.state.State.{State}
use Rattle.delay_model.specs.Effect.{effect, has_override, with_override, without_override}
use Rattle.delay_model.specs.Messages.{IsWellFormed}
use Rattle.delay_model.specs.Overrides.{connection}
use Rattle.delay_model.specs.Refusals.{refusal}
use Rattle.mt_base.specs.declared.keys.Node.{Node}
use Rattle.train_nodes.specs.Kinds.{message_by_choice}
use Rattle.graph_edit.specs.Choices.{no_edge}

-- a feeder is an arrival, and what it feeds a departure
pub ends : (o : Option Override) (f t : Node) → IsWellFormed (message_by_choice o f t) → (f.dep ≡ false) × (t.dep ≡ true)
ends (Some Keep) f t h = h
ends (Some Drop) f t h = h
ends None f t h = h

-- the refusal before others is the first
pub refused_first : (nw : Network) (st : State) (o : Option Override) (f t : Node) (e : Refusal) → Some e ≡ no_edge nw st f t → refusal nw st (message_by_choice o f t) ≡ Some e
unfolding refusal
refused_first nw st (Some Keep) f t e h = grind (arith, h)
refused_first nw st (Some Drop) f t e h = grind (arith, h)
refused_first nw st None f t e h = grind (arith, h)

-- where there is none before others, those are left
pub accepted_first : (a b x : Option Refusal) → None ≡ option_or a b → option_or a (option_or b x) ≡ x
accepted_first None b x h = ap (λ o. option_or o x) (sym h)
accepted_first (Some r) b x h = absurd (cc)

-- a connection without override, for which there is room
pub spare : (nw : Network) (st : State) (o : Override) (f t : Node) → refusal nw st (message_by_choice (Some o) f t) ≡ None → has_override st (connection f t) ≡ false → 0 < st.spare_overrides
unfolding refusal
spare nw st Keep f t h e = grind (arith, h, e)
spare nw st Drop f t h e = grind (arith, h, e)

-- the connection is kept or dropped
pub chosen : (st : State) (o : Override) (f t : Node) → effect st (message_by_choice (Some o) f t) ≡ with_override (connection f t) o st
unfolding effect
chosen st Keep f t = refl
chosen st Drop f t = refl

-- or left to the waiting rules
pub left : (st : State) (f t : Node) → effect st (message_by_choice None f t) ≡ without_override (connection f t) st
unfolding effect
left st f t = refl
