-- Calls in their slots, linked along their trains.
use Rattle.std.specs.Prelude.{◌≡◌, ◌≢◌, ℕ, zero, suc, ◌+◌, ◌-◌, ◌<◌, ◌^◌, min, List, [], ◌∷◌, if◌then◌else◌, Bool, ◌&&◌, nat_lt, Option, Some, None, true, false, slice_get, length, map}
use Rattle.std.specs.Option.{option_map_or, option_or}
use Rattle.delay_model.specs.declared.state.EventValues.{EventValues}
use Rattle.delay_model.specs.declared.state.Call.{Call}
use Rattle.event_numbers.specs.Numbering.{Numbering, slot_of}
use Rattle.call_lines.specs.Loaded.{call_at}
use Rattle.call_lines.specs.declared.calls.TableCall.{TableCall}
use Rattle.call_lines.specs.declared.optional_time.OptionalTime.{OptionalTime}
use Rattle.call_lines.specs.declared.stored_call.StoredEvent.{StoredEvent}
use Rattle.call_lines.specs.declared.stored_call.StoredCall.{StoredCall}

-- a time that may be missing: numbers of 2^25 and more stand for none
abbrev pub time_by : OptionalTime → Option ℕ
time_by t = if nat_lt t.seconds (2 ^ 25) then Some t.seconds else None

-- what is known of an event
abbrev pub values_by : StoredEvent → EventValues
values_by e = record {
  scheduled = e.scheduled;
  live = e.live;
  forecast = time_by e.forecast;
  report = time_by e.report;
}

-- the call that is stored
abbrev pub call_of : StoredCall → Call
call_of c =
    record {
      label = c.label;
      stop = c.stop;
      arrival = values_by c.arrival;
      departure = values_by c.departure;
      board = c.board;
      alight = c.alight;
    }

abbrev pub next_report_of : StoredCall → Option ℕ
next_report_of c = time_by c.next_report

-- the calls differ in what is known of their events alone
abbrev pub IsEdited : StoredCall → StoredCall → Type 0
IsEdited c d = d ≡ record c { arrival = d.arrival; departure = d.departure }

-- they differ in the first report after them, and the second has this place
abbrev pub IsPlaced : ℕ → StoredCall → StoredCall → Type 0
IsPlaced place c d = d ≡ record c { place = place; next_report = d.next_report }

-- so many calls one after the other, from the one in a slot on
abbrev pub walk : List StoredCall → ℕ → ℕ → List StoredCall
walk cs zero slot = []
walk cs (suc n) slot = option_map_or (λ (c : StoredCall). c ∷ walk cs n c.after)
    (slice_get cs slot) []

-- the report of an event, if it is live
abbrev pub live_report : EventValues → Option ℕ
live_report e = if e.live then e.report else None

-- the report of a call's arrival, or else of its departure, of those that are live
abbrev pub call_report : Call → Option ℕ
call_report c = option_or (live_report c.arrival) (live_report c.departure)

-- the first report of these calls
abbrev pub report_of : List Call → Option ℕ
report_of [] = None
report_of (c ∷ cs) = option_or (call_report c) (report_of cs)

-- the call with this label of a train stands in this slot, and is one of the train's calls now
pub record IsCurrentAt (cs : List StoredCall) (nb : Numbering) (train label slot : ℕ) : Type 0 where
  pub call : StoredCall
  pub stored : slice_get cs slot ≡ Some call
  pub number : slot_of nb train label ≡ Some slot
  pub current : call.current ≡ true

-- no call of a train has this label now
abbrev pub HasNoCurrent : List StoredCall → Numbering → ℕ → ℕ → Type 0
HasNoCurrent cs nb train label =
    (slot : ℕ) (c : StoredCall) → slot_of nb train label ≡ Some slot → slice_get cs slot ≡ Some c
    → c.current ≡ false

-- each of these calls knows the first report of those after it
abbrev pub HasNextReports : List StoredCall → Type 0
HasNextReports [] = Unit {0}
HasNextReports (x ∷ xs) = (next_report_of x ≡ report_of (map call_of xs)) × HasNextReports xs

-- each of these calls at a place below `known` knows that place; and where the next one is below it
-- too, the first report after the call is what that one and the report after it tell
pub record AreKnown (known : ℕ) (cs : List StoredCall) : Type 0 where
  pub places : (place : ℕ) (x : StoredCall) → place < known → slice_get cs place ≡ Some x
      → x.place ≡ place
  pub reports : (place : ℕ) (x y : StoredCall) → place + 1 < known → slice_get cs place ≡ Some x
      → slice_get cs (place + 1) ≡ Some y
      → next_report_of x ≡ option_or (call_report (call_of y)) (next_report_of y)

-- the call differs in its place and next report at most, and not at all where it is another train's
pub record IsRenewedCall (train : ℕ) (old new : List StoredCall) (i : ℕ)
    (x : StoredCall) : Type 0 where
  pub now : StoredCall
  pub there : slice_get new i ≡ Some now
  pub same : now ≡ record x { place = now.place; next_report = now.next_report }
  pub other : x.train ≢ train → now ≡ x

-- the calls of a train, so many from a slot on, know their places and next reports again: nothing
-- else changed, and nothing of other trains
pub record IsRenewed (train first len : ℕ) (old new : List StoredCall) : Type 0 where
  pub same_count : length new ≡ length old
  pub alike : (i : ℕ) (x : StoredCall) → slice_get old i ≡ Some x → IsRenewedCall train old new i x
  pub places : (place : ℕ) (x : StoredCall) → place < len
      → slice_get (walk new len first) place ≡ Some x → x.place ≡ place
  pub reports : HasNextReports (walk new len first)

-- the call is stored at a place among so many new ones of a train, in the slots from `first` on
pub record IsLaid (train first count place : ℕ) (call : Call) (x : StoredCall) : Type 0 where
  pub call_is : call_of x ≡ call
  pub train_is : x.train ≡ train
  pub place_is : x.place ≡ place
  pub is_current : x.current ≡ true
  pub before_is : x.before ≡ first + (place - 1)
  pub after_is : x.after ≡ first + min (place + 1) (count - 1)
  pub report : next_report_of x ≡ None

-- so many calls more than before, the new ones at the places below that number, as the timetable
-- gives them
pub record AreLaid (train first : ℕ) (calls : List TableCall) (laid : ℕ)
    (old new : List StoredCall) : Type 0 where
  pub count : length new ≡ length old + laid
  pub stay : (i : ℕ) (x : StoredCall) → slice_get old i ≡ Some x → slice_get new i ≡ Some x
  pub added : (place : ℕ) (c : TableCall) → place < laid → slice_get calls place ≡ Some c
      → (x : StoredCall) × (slice_get new (length old + place) ≡ Some x)
      × IsLaid train first (length calls) place (call_at (length calls) place c) x

-- the call of this label stands between two places of its train
abbrev pub is_between : List StoredCall → Numbering → ℕ → ℕ → ℕ → ℕ → Bool
is_between cs nb train first last label =
    option_map_or (λ (slot : ℕ). option_map_or (λ (c : StoredCall).
    c.current && (nat_lt first c.place && nat_lt c.place last)) (slice_get cs slot) false)
    (slot_of nb train label) false
