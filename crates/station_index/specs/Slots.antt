-- Loaded events, and the parts in which they lie: one for each stop and kind of event.
use Rattle.std.specs.Prelude.{◌≡◌, ℕ, ◌+◌, ◌-◌, ◌*◌, ◌/◌, ◌%◌, ◌<◌, ◌≤◌, suc, List, [], ◌∷◌, All}
use Rattle.std.specs.Prelude.{Bool, false, ◌&&◌, if◌then◌else◌, nat_eq, nat_le, map, take, drop}
use Rattle.std.specs.Prelude.{length, slice_index, slice_index_or}
use mathlib.Core.Bool.{beq}
use Rattle.std.specs.List.{AllWithin, count_by}
use Rattle.mt_base.specs.declared.index_entries.Entry.{Entry}
use Rattle.station_index.specs.declared.loaded_event.LoadedEvent.{LoadedEvent}

-- the number of a part: that of a stop's arrivals, and then that of its departures
abbrev pub slot_number : ℕ → Bool → ℕ
slot_number stop dep = 2 * stop + (if dep then 1 else 0)

-- the part of an entry
abbrev pub slot_of : Entry → ℕ
slot_of e = slot_number e.stop e.dep

-- what is stored of an entry
abbrev pub event_in : Entry → LoadedEvent
event_in e = record { time = e.time; train = e.node.train; label = e.node.label }

-- the entry of a loaded event at a stop, an arrival or a departure
abbrev pub entry_of : ℕ → Bool → LoadedEvent → Entry
entry_of stop dep x = record {
  stop = stop;
  dep = dep;
  time = x.time;
  node = record { train = x.train; label = x.label; dep = dep };
}

-- the entry of a loaded event in a part
abbrev pub entry_in : ℕ → LoadedEvent → Entry
entry_in slot x = entry_of (slot / 2) (nat_eq (slot % 2) 1) x

-- the part of a place, where these are the places at which all parts but the last end
abbrev pub slot_at : List ℕ → ℕ → ℕ
slot_at ends i = count_by (λ end. nat_le end i) ends

-- the entries of these events, of which the first is at a place
abbrev pub rebuilt : List ℕ → ℕ → List LoadedEvent → List Entry
rebuilt ends i [] = []
rebuilt ends i (x ∷ xs) = entry_in (slot_at ends i) x ∷ rebuilt ends (suc i) xs

-- each part ends at its place, among so many events
pub record AreEnds (ends : List ℕ) (count : ℕ) : Type 0 where
  pub bound : All (λ end. end ≤ count) ends
  pub low : (k i : ℕ) → k < length ends → i < slice_index ends k → slot_at ends i ≤ k
  pub high : (k i : ℕ) → k < length ends → slice_index ends k ≤ i → i < count
      → k < slot_at ends i

-- where a part begins, among so many events
abbrev pub start_of : List ℕ → ℕ → ℕ → ℕ
start_of ends slot count =
    if nat_eq slot 0 then 0 else slice_index_or ends (slot - 1) count

-- the entry is at the stop, an arrival or a departure as asked for
abbrev pub is_at : ℕ → Bool → Entry → Bool
is_at stop dep e = nat_eq e.stop stop && beq e.dep dep

-- these are the events of the entries of a stop and kind, which begin at a place
pub record IsSlot (stop : ℕ) (dep : Bool) (es : List Entry) (start : ℕ) (xs : List LoadedEvent) :
    Type 0 where
  pub within : start + length xs ≤ length es
  pub is : map (entry_of stop dep) xs ≡ take (length xs) (drop start es)
  pub before : AllWithin (λ e. is_at stop dep e ≡ false) es 0 start
  pub after : AllWithin (λ e. is_at stop dep e ≡ false) es (start + length xs) (length es)

-- the ends are those of the parts of these entries
pub record AreEndsOf (es : List Entry) (ends : List ℕ) : Type 0 where
  pub known : AreEnds ends (length es)
  pub slots : (i : ℕ) (d : Entry) → i < length es → slot_at ends i ≡ slot_of (slice_index_or es i d)
