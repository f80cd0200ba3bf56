-- The line of a train: the slots of its calls, by their places.
use Rattle.std.specs.Prelude.{◌≡◌, ℕ, ◌+◌, ◌-◌, ◌<◌, ◌≤◌, ◌&&◌, not, nat_eq, nat_lt, nat_le, if◌then◌else◌, List, Option, Some, true, false, Bool, length, slice_get, map, drop}
use Rattle.mt_base.specs.declared.new_calls.NewCall.{NewCall}
use Rattle.delay_model.specs.declared.state.Call.{Call}
use Rattle.delay_model.specs.Effect.{killed, new_call}
use Rattle.delay_model.specs.Valid.{HasDistinctLabels}
use Rattle.call_lines.specs.declared.parts.Part.{Part}
use Rattle.call_lines.specs.declared.stored_call.StoredCall.{StoredCall}
use Rattle.call_lines.specs.Linked.{call_of, report_of, values_by, walk, HasNextReports, IsEdited, IsCurrentAt}
use Rattle.event_numbers.specs.Numbering.{NumberedTrain, Numbering, slot_of}

-- the call at a place of a line of so many calls of a train: it leads to the ones beside it by
-- their slots
pub record IsLineCall (cs : List StoredCall) (train len : ℕ) (at : ℕ → ℕ) (place : ℕ) : Type 0 where
  pub call : StoredCall
  pub stored : slice_get cs (at place) ≡ Some call
  pub train_is : call.train ≡ train
  pub after_is : place + 1 < len → call.after ≡ at (place + 1)
  pub before_is : call.before ≡ at (place - 1)

-- the calls that a train makes now stand in these slots, and no others are its calls now
pub record IsLineAt (cs : List StoredCall) (train len : ℕ) (at : ℕ → ℕ) : Type 0 where
  pub calls : (place : ℕ) → place < len → IsLineCall cs train len at place
  pub current : (place : ℕ) (x : StoredCall) → place < len → slice_get cs (at place) ≡ Some x
      → x.current ≡ true
  pub covers : (i : ℕ) (x : StoredCall) → slice_get cs i ≡ Some x → x.train ≡ train
      → x.current ≡ true
      → (place : ℕ) × (place < len) × (at place ≡ i)

-- and each knows its place
pub record IsPlacedAt (cs : List StoredCall) (train len : ℕ) (at : ℕ → ℕ) : Type 0 where
  pub line : IsLineAt cs train len at
  pub places : (place : ℕ) (x : StoredCall) → place < len → slice_get cs (at place) ≡ Some x
      → x.place ≡ place

-- a line of calls of a train, as far as its links tell: so many from a slot on, the last in the
-- slot `last`
pub record IsLine (train first last len : ℕ) (cs : List StoredCall) : Type 0 where
  pub at : ℕ → ℕ
  pub calls : (place : ℕ) → place < len → IsLineCall cs train len at place
  pub begins : at 0 ≡ first
  pub ends : at (len - 1) ≡ last
  pub apart : HasDistinctLabels (map call_of (walk cs len first))

-- the calls of a train, so many from a slot on, are such a line that ends with the last call that
-- the train was loaded with
abbrev pub IsTrainLine : Numbering → ℕ → ℕ → ℕ → List StoredCall → Type 0
IsTrainLine nb train first len cs =
    (n : NumberedTrain) (last : ℕ) → slice_get nb.trains train ≡ Some n
    → slot_of nb train (n.loaded - 1) ≡ Some last → IsLine train first last len cs

-- of such a line the calls from a place on know their places and the first reports after them; the
-- one before that place stands in the slot, and `next` is the first report from the place on
pub record IsKnownFrom (train first last len place slot : ℕ) (next : Option ℕ)
    (cs : List StoredCall) : Type 0 where
  pub line : IsLine train first last len cs
  pub within : place ≤ len
  pub slot_is : 0 < place → slot ≡ line.at (place - 1)
  pub next_is : next ≡ report_of (map call_of (drop place (walk cs len first)))
  pub places : (k : ℕ) (x : StoredCall) → place ≤ k → slice_get (walk cs len first) k ≡ Some x
      → x.place ≡ k
  pub reports : HasNextReports (drop place (walk cs len first))

-- a part of a train: the calls in two slots, which stand at two places of its line, the one before
-- the other
pub record IsPart (cs : List StoredCall) (train from to first last : ℕ) : Type 0 where
  pub len : ℕ
  pub at : ℕ → ℕ
  pub placed : IsPlacedAt cs train len at
  pub start : at first ≡ from
  pub end : at last ≡ to
  pub order : first < last
  pub within : last < len

-- what a call is once the events from the departure at one place of a train to the arrival at
-- another are killed
abbrev pub killed_by : ℕ → ℕ → ℕ → StoredCall → Call
killed_by train first last x =
    let mine = nat_eq x.train train && x.current in
    record (call_of x) {
      arrival = killed (mine && (nat_lt first x.place && nat_le x.place last))
          (values_by x.arrival);
      departure = killed (mine && (nat_le first x.place && nat_lt x.place last))
          (values_by x.departure);
    }

-- a call before and after its events in a part of a train were killed
pub record IsKilledCall (train first last : ℕ) (x y : StoredCall) : Type 0 where
  pub rest : IsEdited x y
  pub call : call_of y ≡ killed_by train first last x
  pub other : (nat_eq x.train train && x.current) ≡ false → y ≡ x

-- all calls before and after the events in a part of a train were killed
pub record IsKilled (train first last : ℕ) (old new : List StoredCall) : Type 0 where
  pub same_count : length new ≡ length old
  pub calls : (i : ℕ) (x : StoredCall) → slice_get old i ≡ Some x → (y : StoredCall)
      × (slice_get new i ≡ Some y) × IsKilledCall train first last x y

-- the parts of a train from one call to another that stands after it: none where the second stands
-- at or before the first
abbrev pub HasNoPart : List StoredCall → Numbering → ℕ → ℕ → ℕ → Type 0
HasNoPart cs nb train from to =
    (i j : ℕ) → (u : IsCurrentAt cs nb train from i) → (v : IsCurrentAt cs nb train to j)
    → v.call.place ≤ u.call.place

-- the part from the call of one label to that of another
pub record IsPartOf (cs : List StoredCall) (nb : Numbering) (train from to : ℕ)
    (p : Part) : Type 0 where
  pub train_is : p.train ≡ train
  pub start : IsCurrentAt cs nb train from p.from
  pub end : IsCurrentAt cs nb train to p.to
  pub first_is : start.call.place ≡ p.first
  pub last_is : end.call.place ≡ p.last
  pub order : p.first < p.last

-- the call stands strictly between two places of a train
abbrev pub is_within : ℕ → ℕ → ℕ → StoredCall → Bool
is_within train first last x = nat_eq x.train train && (nat_lt first x.place && nat_lt x.place last)

-- a call before and after those strictly between two places of a train were taken out
pub record IsTakenOut (train first last : ℕ) (x y : StoredCall) : Type 0 where
  pub rest : y ≡ record x { current = y.current }
  pub current_is : y.current ≡ (x.current && not (is_within train first last x))

-- all calls before and after
pub record AreTakenOut (train first last : ℕ) (old new : List StoredCall) : Type 0 where
  pub same_count : length new ≡ length old
  pub calls : (i : ℕ) (x : StoredCall) → slice_get old i ≡ Some x → (y : StoredCall)
      × (slice_get new i ≡ Some y) × IsTakenOut train first last x y

-- the slot before that of the new call of a number: new calls have the slots from `used` on, after
-- the call in the slot `from`
abbrev pub slot_before : ℕ → ℕ → ℕ → ℕ
slot_before from used number = if nat_eq number 0 then from else used + number - 1

-- the slot of the new call of a number, or after all new ones that of the call that follows them
abbrev pub slot_from : ℕ → ℕ → ℕ → ℕ → ℕ
slot_from to used count number = if nat_eq number count then to else used + number

-- a new call of a train, with the slots of the calls beside it
pub record IsNewCall (train before after : ℕ) (call : Call) (x : StoredCall) : Type 0 where
  pub train_is : x.train ≡ train
  pub is_current : x.current ≡ true
  pub before_is : x.before ≡ before
  pub after_is : x.after ≡ after
  pub call_is : call_of x ≡ call

-- the first of so many new calls were appended, between the calls in two slots, labelled from
-- `label` on
pub record AreAppended (train from to label : ℕ) (via : List NewCall) (done : ℕ)
    (old new : List StoredCall) : Type 0 where
  pub count : length new ≡ length old + done
  pub kept : (i : ℕ) (x : StoredCall) → slice_get old i ≡ Some x → slice_get new i ≡ Some x
  pub made : (j : ℕ) (v : NewCall) → j < done → slice_get via j ≡ Some v
      → (x : StoredCall) × (slice_get new (length old + j) ≡ Some x)
      × IsNewCall train (slot_before from (length old) j)
      (slot_from to (length old) (length via) (j + 1)) (new_call (label + j) v) x

-- the call in a slot before and after it got other slots beside it, as the call in the slot `from`
-- or `to`
abbrev pub IsJoined : ℕ → ℕ → ℕ → ℕ → ℕ → StoredCall → StoredCall → Type 0
IsJoined from to used count i x y =
    y ≡ record x {
      before = if nat_eq i to then slot_before from used count else x.before;
      after = if nat_eq i from then slot_from to used count 0 else x.after;
    }

-- the two calls lead to each other over so many new ones
pub record AreJoined (from to used count : ℕ) (old new : List StoredCall) : Type 0 where
  pub same_count : length new ≡ length old
  pub calls : (i : ℕ) (x : StoredCall) → slice_get old i ≡ Some x → (y : StoredCall)
      × (slice_get new i ≡ Some y) × IsJoined from to used count i x y

-- the call in a slot before and after the calls strictly between two of a train were replaced by so
-- many new ones
pub record IsReplaced (train from to first last used count i : ℕ) (x y : StoredCall) : Type 0 where
  pub rest : y ≡ record x { current = y.current; before = y.before; after = y.after }
  pub current_is : y.current ≡ (x.current && not (is_within train first last x))
  pub before_is : y.before ≡ (if nat_eq i to then slot_before from used count else x.before)
  pub after_is : y.after ≡ (if nat_eq i from then slot_from to used count 0 else x.after)

-- all calls before and after
pub record AreReplaced (train from to first last label : ℕ) (via : List NewCall)
    (old new : List StoredCall) : Type 0 where
  pub count : length new ≡ length old + length via
  pub calls : (i : ℕ) (x : StoredCall) → slice_get old i ≡ Some x
      → (y : StoredCall) × (slice_get new i ≡ Some y) × IsReplaced train from to first last
      (length old) (length via) i x y
  pub made : (j : ℕ) (v : NewCall) → slice_get via j ≡ Some v
      → (x : StoredCall) × (slice_get new (length old + j) ≡ Some x)
      × IsNewCall train (slot_before from (length old) j)
      (slot_from to (length old) (length via) (j + 1)) (new_call (label + j) v) x
