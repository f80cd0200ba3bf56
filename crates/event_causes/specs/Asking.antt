-- What the edges to an event ask for, one after another.
use Rattle.std.specs.Prelude.{◌≡◌, ℕ, ◌+◌, ◌^◌, ◌<◌, max, Bool, true, false, not, ◌&&◌, ◌||◌, nat_eq, if◌then◌else◌, Option, Some, None, Contains}
use Rattle.std.specs.Option.{option_map_or}
use Rattle.mt_base.specs.Order.{is_before, node_of}
use Rattle.delay_model.specs.declared.network.Network.{Network}
use Rattle.delay_model.specs.declared.state.State.{State}
use Rattle.delay_model.specs.declared.state.Event.{Event}
use Rattle.delay_model.specs.declared.state.Edge.{Edge}
use Rattle.delay_model.specs.declared.state.EdgeKind.{EdgeKind}
use Rattle.delay_model.specs.declared.state.EdgeKind.TheVariants.{Train, Planned, Kept}
use Rattle.delay_model.specs.Events.{events, event_named, is_live}
use Rattle.delay_model.specs.Timing.{counts, event_time, floor_of}
use Rattle.train_nodes.specs.Calls.{has_event}
use Rattle.timetable.specs.LiveTimes.{live_time}
use Rattle.cause_laws.specs.declared.causes.Cause.{Cause}
use Rattle.cause_laws.specs.Causes.{edge_cause, floor_cause, goes_first_between, is_along, waits_by_rule}
use Rattle.event_causes.specs.declared.cause.Candidate.{Candidate}
use Rattle.event_causes.specs.declared.cause.Due.{Due}

-- the event is the one of its name, live, and takes place at this time
pub record TakesPlace (nw : Network) (st : State) (v : Event) (time : ℕ) : Type 0 where
  pub named : event_named st (node_of v.key) ≡ Some v
  pub there : Contains (events st) v
  pub live : is_live st (node_of v.key) ≡ true
  pub at : event_time nw st v.key ≡ time

-- the edge leads from a live event, and asks for a time that is in range
pub record AsksInTime (nw : Network) (st : State) (e : Edge) : Type 0 where
  pub there : has_event st (node_of e.from) ≡ true
  pub time : live_time nw st (node_of e.from) ≡ Some (event_time nw st e.from)
  pub fits : event_time nw st e.from + e.weight < 2 ^ 25

-- by the waiting rules alone an edge of this kind from u would be there, and hold v until this time.
-- None along a train is by the rules, a planned one is, and of a kept one they are asked
abbrev pub by_rule_from : Network → Event → ℕ → Option Event → EdgeKind → Bool
by_rule_from nw v time u Train = false
by_rule_from nw v time u (Planned wait) = true
by_rule_from nw v time u Kept = option_map_or (λ (u : Event). waits_by_rule nw u v time) u false

abbrev pub by_rule : Network → State → Event → ℕ → Edge → Bool
by_rule nw st v time e = by_rule_from nw v time (event_named st (node_of e.from)) e.kind

-- candidate d is named and not e: e leads between trains, and d along the train, or goes first of
-- two between trains
abbrev pub goes_before : Candidate → Candidate → Bool
goes_before d e = not (is_along e.edge.kind) && (is_along d.edge.kind
    || goes_first_between d.by_rule e.by_rule (is_before d.edge.from e.edge.from))

-- of a candidate and of one that is named among others, the one that is named among all
abbrev pub first_of : Candidate → Option Candidate → Candidate
first_of c None = c
first_of c (Some d) = if goes_before c d then c else d

-- the candidate as a cause
abbrev pub cause_of : Candidate → Cause
cause_of c = edge_cause c.edge c.by_rule

-- the cause of an event at a time that is its floor, or else that of the edge which is named
abbrev pub cause_of_due : Event → ℕ → Due → Cause
cause_of_due v time d =
    if nat_eq (floor_of v) time then floor_cause v else option_map_or cause_of d.named (floor_cause v)

-- what is asked by some edges, and by one more, of which it is said whether the rules hold it, and
-- for which time it asks
abbrev pub with_asked : Bool → ℕ → ℕ → Due → Edge → Due
with_asked ruled time asked d e = record {
  time = if counts e.kind e.to.time asked then max d.time asked else d.time;
  named =
      if nat_eq asked time && counts e.kind e.to.time time
      then Some (first_of (record { edge = e; by_rule = ruled }) d.named)
      else d.named;
}

-- what is asked of v, for which a time is set, by some edges and by one more of the state
abbrev pub with_edge : Network → State → Event → ℕ → Due → Edge → Due
with_edge nw st v time d e =
    with_asked (by_rule nw st v time e) time (event_time nw st e.from + e.weight) d e
