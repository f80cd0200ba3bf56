-- What decides the time of an event.
use Rattle.std.specs.Prelude.{◌≡◌, ◌≢◌, ℕ, ◌+◌, ◌<◌, List, [], ◌∷◌, Bool, true, false, not, ◌&&◌, ◌||◌, nat_eq, nat_le, nat_lt, if◌then◌else◌, Option, Some, None, is_some, unwrap_or, fold, filter, Contains}
use Rattle.std.specs.List.{list_any}
use Rattle.std.specs.Option.{option_or, option_map, option_map_or}
use Rattle.mt_base.specs.declared.keys.Key.{Key}
use Rattle.mt_base.specs.Order.{is_before, is_same}
use Rattle.delay_model.specs.declared.network.Network.{Network}
use Rattle.delay_model.specs.declared.state.State.{State}
use Rattle.delay_model.specs.declared.state.Event.{Event}
use Rattle.delay_model.specs.declared.state.Edge.{Edge}
use Rattle.delay_model.specs.declared.state.EdgeKind.{EdgeKind}
use Rattle.delay_model.specs.declared.state.EdgeKind.TheVariants.{Train, Planned, Kept as KeptEdge}
use Rattle.delay_model.specs.Events.{events, live_report}
use Rattle.delay_model.specs.Edges.{edges, transfer, transfer_edges}
use Rattle.delay_model.specs.Timing.{incoming, after_key, floor_of, counts, later, event_time}
use Rattle.cause_laws.specs.declared.causes.Cause.{Cause}
use Rattle.cause_laws.specs.declared.causes.Cause.TheVariants.{Report, Capped, Schedule, Forecast, Run, Stop, Hold, Kept}

-- what the event is due: the greatest of its floor and of what the edges to it that count ask for
unfoldable pub due : List Edge → (Key → ℕ) → Event → ℕ
due gs t v = fold (later t) (floor_of v) (incoming gs v.key)

-- the first live event of the train among these that is reported
abbrev pub first_reported : ℕ → List Event → Option Event
first_reported train [] = None
first_reported train (v ∷ vs) =
    if nat_eq v.key.train train && is_some (live_report v) then Some v
    else first_reported train vs

-- the event whose report is the cap of v
unfoldable pub capper : List Event → Event → Option Event
capper es v = first_reported v.key.train (after_key v.key es)

-- a report decides alone
abbrev pub by_report : Event → Option Cause
by_report v = if is_some v.report then Some Report else None

-- a later report of the train is before what the event is due
abbrev pub by_cap : ℕ → Option Event → Option Cause
by_cap due None = None
by_cap due (Some u) =
    if option_map_or (λ r. nat_lt r due) u.report false then Some (Capped u.key) else None

-- what makes the floor. Of a departure it is the schedule, unless the forecast is later. Of an
-- arrival it is the forecast, if there is one
abbrev pub floor_cause : Event → Cause
floor_cause v =
    if v.key.dep then (if nat_le (unwrap_or v.forecast 0) v.key.time then Schedule else Forecast)
    else (if is_some v.forecast then Forecast else Schedule)

-- the floor decides where it is the event's time
abbrev pub by_floor : ℕ → Event → Option Cause
by_floor time v = if nat_eq (floor_of v) time then Some (floor_cause v) else None

-- the edge counts, and asks for just this time
abbrev pub asks_for : (Key → ℕ) → ℕ → Edge → Bool
asks_for t time e = nat_eq (t e.from + e.weight) time && counts e.kind e.to.time time

-- the edge leads along a train, and not from one to another
abbrev pub is_along : EdgeKind → Bool
is_along Train = true
is_along (Planned wait) = false
is_along KeptEdge = false

-- of two edges between trains, of which it is said whether the rules hold, the first is named and
-- not the second: the rules hold the first alone, or they hold both or neither, and the first is
-- from a lesser key
abbrev pub goes_first_between : Bool → Bool → Bool → Bool
goes_first_between true true lesser = lesser
goes_first_between true false lesser = true
goes_first_between false true lesser = false
goes_first_between false false lesser = lesser

-- edge d is named and not e, where a test says of which edges the rules hold: e leads between
-- trains, and d along the train, or goes first of two between trains
abbrev pub goes_first : (Edge → Bool) → Edge → Edge → Bool
goes_first ruled d e = not (is_along e.kind)
    && (is_along d.kind || goes_first_between (ruled d) (ruled e) (is_before d.from e.from))

-- of an edge and of one that is named among others, the one that is named among all
abbrev pub first_of : (Edge → Bool) → Edge → Option Edge → Edge
first_of ruled e None = e
first_of ruled e (Some d) = if goes_first ruled d e then d else e

-- the edge of these that is named: the one along the train; or else the one from the least key of
-- those that the rules hold, or of all, where they hold none
abbrev pub named : (Edge → Bool) → List Edge → Option Edge
named ruled [] = None
named ruled (e ∷ es) = Some (first_of ruled e (named ruled es))

-- the edges between trains where no dispatcher chose anything
abbrev pub edges_by_rule : Network → State → List Edge
edges_by_rule nw st = transfer_edges nw (λ _ _. None) (events st)

-- by the waiting rules alone there would be an edge from and to the same events, and it would count
abbrev pub holds_by_rule : List Edge → ℕ → Edge → Bool
holds_by_rule rule time e = list_any (λ g. is_same g.from e.from
    && (is_same g.to e.to && counts g.kind g.to.time time)) rule

-- by the waiting rules alone the departure v would wait for the arrival u until this time
abbrev pub waits_by_rule : Network → Event → Event → ℕ → Bool
waits_by_rule nw u v time = list_any (λ g. counts g.kind g.to.time time) (transfer nw None u v)

-- an edge as a cause
abbrev pub edge_cause : Edge → Bool → Cause
edge_cause e by_rule =
    if is_along e.kind then (if e.from.dep then Run e.from else Stop e.from)
    else (if by_rule then Hold e.from else Kept e.from)

-- of edges that lead to one event and ask for its time, the one that is named decides
abbrev pub by_edges : (Edge → Bool) → List Edge → Option Cause
by_edges ruled asking = option_map (λ (e : Edge). edge_cause e (ruled e)) (named ruled asking)

-- the cause of an event's time, over these events, edges, edges by rule and times: the first that
-- holds
unfoldable pub cause_over : List Event → List Edge → List Edge → (Key → ℕ) → Event
    → Option Cause
cause_over es gs rule t v =
    option_or (by_report v)
    (option_or (by_cap (due gs t v) (capper es v))
    (option_or (by_floor (t v.key) v)
    (by_edges (holds_by_rule rule (t v.key))
    (filter (asks_for t (t v.key)) (incoming gs v.key)))))

-- the cause of the time of an event of a state
abbrev pub cause : Network → State → Event → Option Cause
cause nw st v = cause_over (events st) (edges nw st) (edges_by_rule nw st) (event_time nw st) v

-- The edge leads from event k to v and counts, and the time of v is that of k and the edge's weight.
-- The floor is earlier, and no cap is. None of the edges that ask for this time goes first: an edge
-- between trains decides only where none along the train does, one that the rules do not hold only
-- where they hold none, and of two alike the one from the lesser key.
pub record IsDecidedBy (gs rule : List Edge) (t : Key → ℕ) (v : Event) (k : Key) (e : Edge)
    : Type 0 where
  pub there : Contains gs e
  pub from : e.from ≡ k
  pub to : e.to ≡ v.key
  pub counting : counts e.kind e.to.time (t v.key) ≡ true
  pub time : t v.key ≡ t k + e.weight
  pub first : (d : Edge) → Contains gs d → d.to ≡ v.key → asks_for t (t v.key) d ≡ true
      → goes_first (holds_by_rule rule (t v.key)) d e ≡ false
  pub floor : floor_of v < t v.key
  pub as_due : t v.key ≡ due gs t v

-- v is not reported, its time is its floor, and it takes place when it is due
pub record IsByFloor (gs : List Edge) (t : Key → ℕ) (v : Event) : Type 0 where
  pub unreported : v.report ≡ None
  pub floor : floor_of v ≡ t v.key
  pub as_due : t v.key ≡ due gs t v

-- v is not later than the report of u, a later event of its train, and due after it
pub record IsCappedBy (es : List Event) (gs : List Edge) (t : Key → ℕ) (v : Event) (k : Key)
    (u : Event) : Type 0 where
  pub there : Contains es u
  pub named : u.key ≡ k
  pub live : u.live ≡ true
  pub train : u.key.train ≡ v.key.train
  pub next : capper es v ≡ Some u
  pub report : u.report ≡ Some (t v.key)
  pub early : t v.key < due gs t v

-- what a cause says of the event's time
abbrev pub Explains : List Event → List Edge → List Edge → (Key → ℕ) → Event → Cause → Type 0
Explains es gs rule t v Report = v.report ≡ Some (t v.key)
Explains es gs rule t v (Capped k) = (v.report ≡ None)
    × ((u : Event) × IsCappedBy es gs t v k u)
Explains es gs rule t v Schedule = IsByFloor gs t v × (v.key.time ≡ t v.key)
    × (v.key.dep ≡ false → v.forecast ≡ None)
Explains es gs rule t v Forecast = IsByFloor gs t v × (v.forecast ≡ Some (t v.key))
    × (v.key.dep ≡ true → v.key.time < t v.key)
Explains es gs rule t v (Run k) = (v.report ≡ None)
    × ((e : Edge) × IsDecidedBy gs rule t v k e × (is_along e.kind ≡ true) × (k.dep ≡ true))
Explains es gs rule t v (Stop k) = (v.report ≡ None)
    × ((e : Edge) × IsDecidedBy gs rule t v k e × (is_along e.kind ≡ true) × (k.dep ≡ false))
Explains es gs rule t v (Hold k) = (v.report ≡ None)
    × ((e : Edge) × IsDecidedBy gs rule t v k e × (is_along e.kind ≡ false)
    × (holds_by_rule rule (t v.key) e ≡ true))
Explains es gs rule t v (Kept k) = (v.report ≡ None)
    × ((e : Edge) × IsDecidedBy gs rule t v k e × (is_along e.kind ≡ false)
    × (holds_by_rule rule (t v.key) e ≡ false))

-- what a cause says of the time of an event of a state
abbrev pub IsExplained : Network → State → Event → Cause → Type 0
IsExplained nw st v c = Explains (events st) (edges nw st) (edges_by_rule nw st)
    (event_time nw st) v c

-- what a cause names: a later event of the train; of the train the departure before an arrival, or
-- the arrival of the same call before its departure; or for a departure an arrival of another train
abbrev pub IsOfItsTrain : Event → Cause → Type 0
IsOfItsTrain v Report = Unit {0}
IsOfItsTrain v (Capped k) = k.train ≡ v.key.train
IsOfItsTrain v Schedule = Unit {0}
IsOfItsTrain v Forecast = Unit {0}
IsOfItsTrain v (Run k) = (k.train ≡ v.key.train) × (k.dep ≡ true) × (v.key.dep ≡ false)
IsOfItsTrain v (Stop k) = (k.train ≡ v.key.train) × (k.label ≡ v.key.label) × (k.dep ≡ false)
    × (v.key.dep ≡ true)
IsOfItsTrain v (Hold k) = (k.train ≢ v.key.train) × (k.dep ≡ false) × (v.key.dep ≡ true)
IsOfItsTrain v (Kept k) = (k.train ≢ v.key.train) × (k.dep ≡ false) × (v.key.dep ≡ true)
