-- Edges along a train against the order of keys, event by event.
use Rattle.std.specs.Prelude.{List, [], ◌∷◌, Option, Some, None}
use Rattle.std.specs.Option.{option_or}
use Rattle.delay_model.specs.declared.messages.Refusal.{Refusal}
use Rattle.delay_model.specs.declared.state.Event.{Event}
use Rattle.delay_model.specs.Edges.{edge_on}
use Rattle.delay_model.specs.Refusals.{first_against_rank}
use Rattle.mt_base.specs.declared.options.Opts.{Opts}

-- the edge from the event before, if there is one, to this one, if it is against rank
abbrev pub rank_to : Opts → Option Event → Event → Option Refusal
rank_to o None v = None
rank_to o (Some u) v = first_against_rank (edge_on o u (v ∷ []))

-- the first edge against rank along these events of a train, to the first of which one leads from
-- the event before, if there is one
abbrev pub rank_along : Opts → Option Event → List Event → Option Refusal
rank_along o before [] = None
rank_along o before (v ∷ vs) = option_or (rank_to o before v) (rank_along o (Some v) vs)

-- the last of these events, or else the event before them
abbrev pub last_of : Option Event → List Event → Option Event
last_of before [] = before
last_of before (v ∷ vs) = last_of (Some v) vs
