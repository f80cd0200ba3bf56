-- The chain of events that decides the time of an event.
use Rattle.std.specs.Prelude.{◌≡◌, ◌≢◌, ℕ, zero, suc, ◌+◌, ◌≤◌, List, [], ◌∷◌, true, Option, Some, None, IfSome, IsSome, ◌&&◌, find, length, Contains, ◌⊎◌}
use Rattle.std.specs.Option.{option_map_or, option_and_then, MatchOption}
use Rattle.mt_base.specs.declared.keys.Key.{Key}
use Rattle.mt_base.specs.declared.keys.Node.{Node}
use Rattle.delay_model.specs.declared.network.Network.{Network}
use Rattle.delay_model.specs.declared.state.State.{State}
use Rattle.delay_model.specs.declared.state.Event.{Event}
use Rattle.delay_model.specs.declared.state.Edge.{Edge}
use Rattle.delay_model.specs.Events.{events, is_event}
use Rattle.delay_model.specs.Edges.{edges}
use Rattle.delay_model.specs.Timing.{cap, counts, event_time, event_with, floor_of}
use Rattle.cause_laws.specs.declared.causes.Cause.{Cause}
use Rattle.cause_laws.specs.declared.causes.Cause.TheVariants.{Report, Capped, Schedule, Forecast, Run, Stop, Hold, Kept}
use Rattle.cause_laws.specs.declared.causes.Link.{Link}
use Rattle.cause_laws.specs.Causes.{cause_over, edges_by_rule, Explains}

-- the event that a cause names; a report, a schedule and a forecast name none
abbrev pub origin : Cause → Option Key
origin Report = None
origin (Capped k) = Some k
origin Schedule = None
origin Forecast = None
origin (Run k) = Some k
origin (Stop k) = Some k
origin (Hold k) = Some k
origin (Kept k) = Some k

-- the next event of the chain
abbrev pub next : List Event → Cause → Option Event
next es c = option_and_then (event_with es) (origin c)

-- an event with its time by t, and its cause
abbrev pub link : (Key → ℕ) → Event → Cause → Link
link t v c = record { event = v.key; time = t v.key; cause = c }

-- up to so many links of the chain from an event on
unfoldable pub chain_over : List Event → List Edge → List Edge → (Key → ℕ) → ℕ → Event → List Link
chain_over es gs rule t zero v = []
chain_over es gs rule t (suc n) v =
    option_map_or (λ (c : Cause). link t v c ∷ option_map_or (chain_over es gs rule t n)
    (next es c) []) (cause_over es gs rule t v) []

-- the chain that decides the time of an event of a state
abbrev pub chain : Network → State → Event → List Link
chain nw st v = chain_over (events st) (edges nw st) (edges_by_rule nw st) (event_time nw st)
    (length (events st) + 1) v

-- the chain of the live event of this name; no link where there is none
unfoldable pub why : Network → State → Node → List Link
why nw st n =
    option_map_or (chain nw st) (find (λ (v : Event). is_event n v && v.live) (events st)) []

-- these links are the chain of v: the first is that of v, with its time and its cause, which says
-- how it comes to that time; after it comes the chain of the live event that the cause names, or
-- nothing where it names none
abbrev pub IsChainOver : List Event → List Edge → List Edge → (Key → ℕ) → Event → List Link
    → Type 0
IsChainOver es gs rule t v [] = ⊥
IsChainOver es gs rule t v (l ∷ ls) =
    (l.event ≡ v.key) × (l.time ≡ t v.key) × (cause_over es gs rule t v ≡ Some l.cause)
    × Explains es gs rule t v l.cause
    × MatchOption (origin l.cause) (ls ≡ []) (λ k. (u : Event) × Contains es u × (u.key ≡ k)
    × (u.live ≡ true) × IsChainOver es gs rule t u ls)

-- these links are the chain of an event of a state
abbrev pub IsChain : Network → State → Event → List Link → Type 0
IsChain nw st v ls = IsChainOver (events st) (edges nw st) (edges_by_rule nw st)
    (event_time nw st) v ls

-- the last of these links is a report, a schedule or a forecast
abbrev pub EndsPlainly : List Link → Type 0
EndsPlainly [] = ⊥
EndsPlainly (l ∷ []) = origin l.cause ≡ None
EndsPlainly (l ∷ m ∷ ms) = EndsPlainly (m ∷ ms)

-- an edge leads from the event of link m to that of link l, and the time of l is that of m and the
-- edge's weight
abbrev pub IsAfter : List Edge → Link → Link → Type 0
IsAfter gs l m = (e : Edge) × Contains gs e × (e.from ≡ m.event) × (e.to ≡ l.event)
    × (l.time ≡ m.time + e.weight)

-- the cause of l names the event of m, and says how the time of l comes from that of m: a report
-- is the time itself, an edge adds its weight
abbrev pub Follows : List Edge → Link → Link → Type 0
Follows gs l m = (origin l.cause ≡ Some m.event)
    × ((((k : Key) × (l.cause ≡ Capped k)) × (m.cause ≡ Report) × (l.time ≡ m.time))
    ⊎ IsAfter gs l m)

-- each of these links but the last is followed so
abbrev pub AreLinked : List Edge → List Link → Type 0
AreLinked gs [] = Unit {0}
AreLinked gs (l ∷ []) = Unit {0}
AreLinked gs (l ∷ m ∷ ms) = Follows gs l m × AreLinked gs (m ∷ ms)

-- in another state the event of a link takes place, is not reported earlier, and where it is not
-- reported no later report caps it earlier
pub record IsFree (es : List Event) (l : Link) (v : Event) : Type 0 where
  pub there : Contains es v
  pub key : v.key ≡ l.event
  pub live : v.live ≡ true
  pub report : IfSome v.report (λ r. l.time ≤ r)
  pub cap : v.report ≡ None → IfSome (cap es v) (λ c. l.time ≤ c)

-- the value with which a chain ends stands: a report no earlier, or a floor no earlier
abbrev pub EndStands : List Event → Link → Type 0
EndStands es l = (v : Event) × IsFree es l v × (IsSome v.report ⊎ (l.time ≤ floor_of v))

-- an edge from m to l stands and counts, and asks for no less time than it did
abbrev pub EdgeStands : List Event → List Edge → (Key → ℕ) → Link → Link → Type 0
EdgeStands es gs t l m = (v : Event) × IsFree es l v × ((e : Edge) × Contains gs e
    × (e.from ≡ m.event) × (e.to ≡ l.event) × (l.time ≤ m.time + e.weight)
    × (counts e.kind e.to.time (t m.event + e.weight) ≡ true))

-- In a state with these events, edges and times a chain of edges stands: its last value, and each
-- edge. A cap is no part of such a chain.
abbrev pub Stands : List Event → List Edge → (Key → ℕ) → List Link → Type 0
Stands es gs t [] = Unit {0}
Stands es gs t (l ∷ []) = EndStands es l
Stands es gs t (l ∷ m ∷ ms) = EdgeStands es gs t l m × Stands es gs t (m ∷ ms)

-- no report of another event caps the event
abbrev pub IsNotCapped : Link → Type 0
IsNotCapped l = (k : Key) → l.cause ≢ Capped k

-- a chain of edges stands in a state
abbrev pub StandsIn : Network → State → List Link → Type 0
StandsIn nw st ls = Stands (events st) (edges nw st) (event_time nw st) ls

-- in a state the event is not reported, and its cap is no later than this time
pub record IsCappedIn (st : State) (k : Key) (time : ℕ) : Type 0 where
  pub event : Event
  pub there : Contains (events st) event
  pub key : event.key ≡ k
  pub unreported : event.report ≡ None
  pub report : ℕ
  pub capped : cap (events st) event ≡ Some report
  pub early : report ≤ time
