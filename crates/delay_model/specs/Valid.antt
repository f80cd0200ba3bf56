-- Valid states: what every accepted message keeps.
use Rattle.std.specs.Prelude.{◌≡◌, ◌≢◌, ℕ, ◌+◌, ◌^◌, ◌<◌, ◌≤◌, List, [], ◌∷◌, Bool, true, false, Some, None, IfSome, IsSome, All, Contains, length}
use Rattle.std.specs.FinMap.{get, len}
use Rattle.mt_base.specs.Options.{IsInRange}
use Rattle.mt_base.specs.Order.{is_before, node_of}
use Rattle.delay_model.specs.declared.network.Network.{Network}
use Rattle.delay_model.specs.declared.overrides.Connection.{Connection}
use Rattle.delay_model.specs.declared.overrides.Override.{Override}
use Rattle.delay_model.specs.declared.state.Call.{Call}
use Rattle.delay_model.specs.declared.state.Train.{Train}
use Rattle.delay_model.specs.declared.state.State.{State}
use Rattle.delay_model.specs.declared.state.Event.{Event}
use Rattle.delay_model.specs.declared.state.Edge.{Edge}
use Rattle.delay_model.specs.Events.{events, events_of, live_report}
use Rattle.delay_model.specs.Edges.{edges, may_connect, change_between}

-- an edge leads to a later event by key, and the schedule leaves time enough for it
pub record IsForward (e : Edge) : Type 0 where
  pub later : is_before e.from e.to ≡ true
  pub room : e.from.time + e.weight ≤ e.to.time

-- scheduled time, forecast and report are below 2^24 seconds
pub record IsSmall (v : Event) : Type 0 where
  pub scheduled : v.key.time < 2 ^ 24
  pub forecast : IfSome v.forecast (λ t. t < 2 ^ 24)
  pub report : IfSome v.report (λ t. t < 2 ^ 24)

-- no live event among these was reported before the time r
abbrev pub AreReportedFrom : ℕ → List Event → Type 0
AreReportedFrom r es = All (λ v. IfSome (live_report v) (λ s. r ≤ s)) es

-- along the events of a train the reports of live events do not fall
abbrev pub HasReportsInOrder : List Event → Type 0
HasReportsInOrder [] = Unit {0}
HasReportsInOrder (v ∷ vs) = IfSome (live_report v) (λ r. AreReportedFrom r vs)
    × HasReportsInOrder vs

-- no two calls have one label
abbrev pub HasDistinctLabels : List Call → Type 0
HasDistinctLabels [] = Unit {0}
HasDistinctLabels (c ∷ cs) = All (λ d. c.label ≢ d.label) cs × HasDistinctLabels cs

-- an arrival is live exactly where the departure before it is, which `live` says of the first; the
-- last departure is not live
abbrev pub IsRun : Bool → List Call → Type 0
IsRun live [] = live ≡ false
IsRun live (c ∷ cs) = (c.arrival.live ≡ live) × IsRun c.departure.live cs

-- what holds of each train's calls
pub record IsTrain (t : Train) : Type 0 where
  pub labels : HasDistinctLabels t.calls
  pub used : All (λ c. c.label < t.next_label) t.calls
  pub run : IsRun false t.calls
  pub reports : (number : ℕ) → HasReportsInOrder (events_of number t)

-- a kept or dropped connection leads from a live arrival to a live departure of another train,
-- between whose stops a change is possible
pub record IsConnection (nw : Network) (es : List Event) (p : Connection) : Type 0 where
  pub arrival : Event
  pub departure : Event
  pub arrival_there : Contains es arrival
  pub departure_there : Contains es departure
  pub is_arrival : node_of arrival.key ≡ p.arrival
  pub is_departure : node_of departure.key ≡ p.departure
  pub connects : may_connect arrival departure ≡ true
  pub change : IsSome (change_between nw arrival departure)

-- a valid state, in a network whose options are in their ranges
pub record IsValid (nw : Network) (st : State) : Type 0 where
  pub options : IsInRange nw.opts
  pub forward : All IsForward (edges nw st)
  pub trains : All IsTrain st.trains
  pub unreported : All (λ v. v.live ≡ false → v.report ≡ None) (events st)
  pub connections : (p : Connection) (o : Override) → get st.overrides p ≡ Some o
      → IsConnection nw (events st) p
  pub small : All IsSmall (events st)

-- the numbers of trains, calls and overrides, with those that are spare, are numbers of 32 bits.
-- What is taken from the spare ones is added to the others
pub record HasRoom (st : State) : Type 0 where
  pub trains : length st.trains + st.spare_trains < 2 ^ 32
  pub calls : All (λ t. t.next_label + st.spare_calls < 2 ^ 32) st.trains
  pub spare : st.spare_calls < 2 ^ 32
  pub overrides : len st.overrides + st.spare_overrides < 2 ^ 32
