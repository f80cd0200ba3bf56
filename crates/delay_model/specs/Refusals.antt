-- Why a message is refused: the first cause that holds. A message that meets none is accepted.
use Rattle.std.specs.Prelude.{◌≡◌, ℕ, ◌+◌, List, [], ◌∷◌, Bool, true, false, ◌&&◌, ◌||◌, not, nat_eq, nat_lt, nat_le, if◌then◌else◌, Option, Some, None, is_none, length, find}
use Rattle.std.specs.List.{list_any, list_all}
use Rattle.std.specs.Option.{option_map, option_map_or, option_or, option_and_then}
use Rattle.mt_base.specs.declared.keys.Node.{Node}
use Rattle.mt_base.specs.declared.new_calls.NewCall.{NewCall}
use Rattle.mt_base.specs.Order.{node_of, is_before}
use Rattle.delay_model.specs.declared.network.Network.{Network}
use Rattle.delay_model.specs.declared.overrides.Override.TheVariants.{Keep as Kept}
use Rattle.delay_model.specs.declared.messages.Message.{Message}
use Rattle.delay_model.specs.declared.messages.Message.TheVariants.{Report, Forecast, Correct, Withdraw, Cancel, Reroute, Extra, Keep, Drop, Rule}
use Rattle.delay_model.specs.declared.messages.Refusal.{Refusal}
use Rattle.delay_model.specs.declared.messages.Refusal.TheVariants.{Unknown, Known, NoConnection, Contradiction, AgainstRank, Full, Nothing}
use Rattle.delay_model.specs.declared.messages.Short.TheVariants.{Trains, Calls, Overrides}
use Rattle.delay_model.specs.declared.state.Call.{Call}
use Rattle.delay_model.specs.declared.state.State.{State}
use Rattle.delay_model.specs.declared.state.Event.{Event}
use Rattle.delay_model.specs.declared.state.Edge.{Edge}
use Rattle.delay_model.specs.Overrides.{connection}
use Rattle.delay_model.specs.Cuts.{before, after}
use Rattle.delay_model.specs.Changes.{is_stop}
use Rattle.delay_model.specs.Events.{calls_of, train_events, is_event, event_named, is_live, live_report}
use Rattle.delay_model.specs.Edges.{edges_along, transfer, change_between}
use Rattle.delay_model.specs.Effect.{effect, node_at, stretch, is_call, has_override}

-- a refusal, if a test holds
abbrev pub refused_if : Bool → Refusal → Option Refusal
refused_if b r = if b then Some r else None

-- the calls of the train have one of this label
abbrev pub has_call : ℕ → List Call → Bool
has_call label cs = list_any (is_call label) cs

-- both are calls of the train, and the one stands before the other
abbrev pub stands_before : ℕ → ℕ → List Call → Bool
stands_before from to cs = has_call from cs && has_call to (after (is_call from) cs)

-- every new call is at a stop, where trains call
abbrev pub are_at_stops : Network → List NewCall → Bool
are_at_stops nw calls = list_all (λ (c : NewCall). is_stop nw.stops c.stop) calls

-- a train, stop, call or live event that the message names is not there, or the one call does not
-- stand before the other
abbrev pub is_unknown : Network → State → Message → Bool
is_unknown nw st (Report n t) = not (is_live st n)
is_unknown nw st (Forecast n t) = not (is_live st n)
is_unknown nw st (Correct n o) = not (is_live st n)
is_unknown nw st (Withdraw n) = not (is_live st n)
is_unknown nw st (Cancel train from to) = not (stands_before from to (calls_of st train))
is_unknown nw st (Reroute train from to via) =
    not (stands_before from to (calls_of st train)
    && ((is_live st (node_at train from true) && is_live st (node_at train to false))
    && are_at_stops nw via))
is_unknown nw st (Extra train day route calls) =
    not (nat_le train (length st.trains) && are_at_stops nw calls)
is_unknown nw st (Keep feeder train) = not (is_live st feeder && is_live st train)
is_unknown nw st (Drop feeder train) = not (is_live st feeder && is_live st train)
is_unknown nw st (Rule feeder train) = not (is_live st feeder && is_live st train)

-- the extra train is there already: its number is that of a train
abbrev pub is_known : State → Message → Bool
is_known st (Extra train day route calls) = nat_lt train (length st.trains)
is_known st _ = false

-- no change is possible from the one event's stop to the other's
abbrev pub has_no_change : Network → State → Node → Node → Bool
has_no_change nw st feeder train =
    is_none (option_and_then (λ u. option_and_then (λ v. change_between nw u v)
    (event_named st train)) (event_named st feeder))

-- the two events are of one train, or no change is possible between their stops
abbrev pub is_no_connection : Network → State → Node → Node → Bool
is_no_connection nw st feeder train =
    nat_eq feeder.train train.train || has_no_change nw st feeder train

abbrev pub has_no_connection : Network → State → Message → Bool
has_no_connection nw st (Keep feeder train) = is_no_connection nw st feeder train
has_no_connection nw st (Drop feeder train) = is_no_connection nw st feeder train
has_no_connection nw st (Rule feeder train) = is_no_connection nw st feeder train
has_no_connection nw st _ = false

-- the first live event whose report passes a test, with that report
abbrev pub first_reported : (ℕ → Bool) → List Event → Option Refusal
first_reported p [] = None
first_reported p (v ∷ vs) =
    option_or (option_and_then (λ r. refused_if (p r) (Contradiction (node_of v.key) r))
    (live_report v)) (first_reported p vs)

-- the report of another event that event n at time t contradicts, or another report of n where the
-- message does not replace it: an earlier event reported after t, n at another time, a later event
-- reported before t
abbrev pub contradicted_at : Bool → ℕ → Node → List Event → Option Refusal
contradicted_at replaces t n es =
    option_or (first_reported (λ r. nat_lt t r) (before (is_event n) es))
    (option_or (option_and_then (λ v. first_reported (λ r. not (replaces || nat_eq r t)) (v ∷ []))
    (find (is_event n) es))
    (first_reported (λ r. nat_lt r t) (after (is_event n) es)))

-- the first live event among these that is reported
abbrev pub any_reported : List Event → Option Refusal
any_reported es = first_reported (λ r. true) es

-- the event of this name, if it is live and reported
abbrev pub itself_reported : State → Node → Option Refusal
itself_reported st n = option_and_then (λ v. any_reported (v ∷ [])) (event_named st n)

-- the first event in the train's order whose report the message contradicts
abbrev pub contradiction : State → Message → Option Refusal
contradiction st (Report n t) = contradicted_at false t n (train_events st n.train)
contradiction st (Forecast n t) = contradicted_at false t n (train_events st n.train)
contradiction st (Correct n o) =
    option_and_then (λ t. contradicted_at true t n (train_events st n.train)) o
contradiction st (Withdraw n) = None
contradiction st (Cancel train from to) = any_reported (stretch st train from to)
contradiction st (Reroute train from to via) =
    any_reported (after (is_event (node_at train from true)) (train_events st train))
contradiction st (Extra train day route calls) = None
contradiction st (Keep feeder train) = itself_reported st train
contradiction st (Drop feeder train) = itself_reported st train
contradiction st (Rule feeder train) = None

-- an edge to an event that is not later by key, or for which the schedule leaves too little time
abbrev pub is_against_rank : Edge → Bool
is_against_rank e = not (is_before e.from e.to) || nat_lt e.to.time (e.from.time + e.weight)

abbrev pub against_rank_by : Edge → Refusal
against_rank_by e = AgainstRank (node_of e.from) (node_of e.to)

abbrev pub first_against_rank : List Edge → Option Refusal
first_against_rank es = option_map against_rank_by (find is_against_rank es)

-- the edge of a kept connection
abbrev pub kept_edge : Network → State → Node → Node → List Edge
kept_edge nw st feeder train =
    option_map_or (λ u. option_map_or (λ v. transfer nw (Some Kept) u v) (event_named st train) [])
    (event_named st feeder) []

-- the first edge against rank that the message would make: along the changed train in the state
-- after it, or of the kept connection
abbrev pub against_rank : Network → State → Message → Option Refusal
against_rank nw st (Reroute train from to via) =
    first_against_rank (edges_along nw.opts
    (train_events (effect st (Reroute train from to via)) train))
against_rank nw st (Extra train day route calls) =
    first_against_rank (edges_along nw.opts
    (train_events (effect st (Extra train day route calls)) train))
against_rank nw st (Keep feeder train) = first_against_rank (kept_edge nw st feeder train)
against_rank nw st _ = None

abbrev pub calls_short : State → ℕ → Option Refusal
calls_short st n = refused_if (nat_lt st.spare_calls n) (Full Calls)

abbrev pub overrides_short : State → Node → Node → Option Refusal
overrides_short st feeder train =
    refused_if (not (has_override st (connection feeder train)) && nat_eq st.spare_overrides 0)
    (Full Overrides)

-- too little is spare for the message
abbrev pub shortage : State → Message → Option Refusal
shortage st (Reroute train from to via) = calls_short st (length via)
shortage st (Extra train day route calls) =
    option_or (refused_if (nat_eq st.spare_trains 0) (Full Trains)) (calls_short st (length calls))
shortage st (Keep feeder train) = overrides_short st feeder train
shortage st (Drop feeder train) = overrides_short st feeder train
shortage st _ = None

-- the event of this name has no such value
abbrev pub lacks : (Event → Option ℕ) → State → Node → Bool
lacks value st n = is_none (option_and_then value (event_named st n))

-- there is no report to correct, or no forecast to withdraw
abbrev pub has_nothing : State → Message → Bool
has_nothing st (Correct n o) = lacks (λ v. v.report) st n
has_nothing st (Withdraw n) = lacks (λ v. v.forecast) st n
has_nothing st _ = false

-- none of the causes holds that come before the order of keys
pub record ComesToRank (nw : Network) (st : State) (m : Message) : Type 0 where
  pub known : is_unknown nw st m ≡ false
  pub new : is_known st m ≡ false
  pub connection : has_no_connection nw st m ≡ false
  pub agrees : contradiction st m ≡ None

-- the answer to a message: the first refusal that holds, or None where it is accepted
unfoldable pub refusal : Network → State → Message → Option Refusal
refusal nw st m =
    option_or (refused_if (is_unknown nw st m) Unknown)
    (option_or (refused_if (is_known st m) Known)
    (option_or (refused_if (has_no_connection nw st m) NoConnection)
    (option_or (contradiction st m)
    (option_or (against_rank nw st m)
    (option_or (shortage st m)
    (refused_if (has_nothing st m) Nothing))))))
