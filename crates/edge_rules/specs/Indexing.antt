-- Which entries the index of events has, and how it is changed entry by entry.
use Rattle.std.specs.Prelude.{ℕ, ◌+◌, ◌-◌, ◌*◌, ◌<◌, ◌≤◌, List, [], ◌∷◌, false, true, map, Contains}
use Rattle.std.specs.List.Sorted.{IsPermutation}
use Rattle.mt_base.specs.declared.index_entries.Entry.{Entry}
use Rattle.mt_base.specs.declared.new_calls.NewCall.{NewCall}
use Rattle.mt_base.specs.Order.{node_of}
use Rattle.delay_model.specs.declared.state.Event.{Event}
use Rattle.delay_model.specs.declared.state.State.{State}
use Rattle.delay_model.specs.Effect.{node_at}
use Rattle.delay_model.specs.Events.{events, live_events}
use Rattle.station_index.specs.Indexed.{Indexed, entry_at, with_entry, without_entry}

-- the entry of an event
abbrev pub entry_of : Event → Entry
entry_of v = entry_at v.stop v.key.time (node_of v.key)

-- the entries of the live events among these
abbrev pub entries_of : List Event → List Entry
entries_of vs = map entry_of (live_events vs)

-- the index has the entries of the live events and no others, and room for those of new calls
pub record IsIndexOf (st : State) (index : Indexed) : Type 0 where
  pub entries : IsPermutation index.entries (map entry_of (live_events (events st)))
  pub room : 2 * st.spare_calls ≤ index.spare

-- the entries of a train's new calls, which are labelled from `label` on
abbrev pub new_entries : ℕ → ℕ → List NewCall → List Entry
new_entries train label [] = []
new_entries train label (c ∷ cs) =
    entry_at c.stop c.arr (node_at train label false)
    ∷ entry_at c.stop c.dep (node_at train label true)
    ∷ new_entries train (label + 1) cs

-- an index without an entry, and one with an entry more
abbrev pub taken_out : Entry → Indexed → Indexed
taken_out e index = record index { entries = without_entry e index.entries }

abbrev pub put_in : Entry → Indexed → Indexed
put_in e index =
    record { entries = with_entry e index.entries; spare = index.spare - 1 }

-- an index without these entries, which are taken out one after another
abbrev pub without_entries : List Entry → Indexed → Indexed
without_entries [] index = index
without_entries (e ∷ es) index = without_entries es (taken_out e index)

-- each of these entries is there when it is taken out
abbrev pub AreThere : List Entry → Indexed → Type 0
AreThere [] index = Unit {0}
AreThere (e ∷ es) index = Contains index.entries e × AreThere es (taken_out e index)

-- an index with these entries, which are put in one after another
abbrev pub with_entries : List Entry → Indexed → Indexed
with_entries [] index = index
with_entries (e ∷ es) index = with_entries es (put_in e index)

-- each of these entries is not there when it is put in, and there is room for it
abbrev pub AreNew : List Entry → Indexed → Type 0
AreNew [] index = Unit {0}
AreNew (e ∷ es) index =
    (0 < index.spare) × (Contains index.entries e → ⊥) × AreNew es (put_in e index)
