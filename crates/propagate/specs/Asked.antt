-- What edges from events whose times changed ask of the events to which they lead.
use Rattle.std.specs.Prelude.{◌≡◌, ◌⊎◌, ◌≤◌, ◌<◌, ◌+◌, ◌%◌, ◌^◌, ℕ, max, List, Bool, true, false, if◌then◌else◌, Option, Some, None, unwrap_or, slice_index_or, All, Contains}
use Rattle.std.specs.List.{list_any}
use Rattle.mt_base.specs.declared.keys.Key.{Key}
use Rattle.mt_base.specs.Order.{is_same, node_of}
use Rattle.delay_model.specs.declared.state.Edge.{Edge}
use Rattle.delay_model.specs.declared.state.Event.{Event}
use Rattle.delay_model.specs.Events.{events}
use Rattle.delay_model.specs.Timing.{cap, capped, counts}
use Rattle.train_nodes.specs.Times.{StoredTimes, time_of}
use Rattle.edge_rules.specs.AtEvent.{local_at}
use Rattle.edge_rules.specs.GraphState.{GraphState}
use Rattle.rank_order.specs.Marked.{Marked, is_marked}
use Rattle.propagate.specs.declared.asked.Asked.{Asked}
use Rattle.propagate.specs.declared.asked.Entry.{Entry}
use Rattle.propagate.specs.declared.asked.AskedTable.{AskedTable}

-- what an edge asks for by the time of the event that it leaves: nothing, which is 0, if it does
-- not count
abbrev pub ask : Edge → ℕ → ℕ
ask e time =
    if counts e.kind e.to.time (time + e.weight) then time + e.weight else 0

-- what an edge asks for, where the event that it leaves gets another time
abbrev pub asked_by : ℕ → ℕ → Edge → Asked
asked_by was is e = record { before = ask e was; after = ask e is }

-- nothing is asked for
abbrev pub nothing : Asked
nothing = record { before = 0; after = 0 }

-- the later of each of two
abbrev pub later_asked : Asked → Asked → Asked
later_asked a b = record { before = max a.before b.before; after = max a.after b.after }

-- the slot of an event of this key
abbrev pub slot_of : Key → ℕ
slot_of k = (k.train + k.label) % 32

-- what is asked of the event of this key, if that is in a slot with this entry
abbrev pub asked_in : Option Entry → Key → Option Asked
asked_in None k = None
asked_in (Some e) k = if is_same e.key k then Some e.asked else None

-- what is asked of the event of this key, if that is known
abbrev pub entry_of : AskedTable → Key → Option Asked
entry_of t k = asked_in (slice_index_or t.entries (slot_of k) None) k

-- what is asked of an event is raised, or known from now on where nothing was asked of it
abbrev pub IsRaisedFrom : Option Asked → Bool → Asked → Asked → Type 0
IsRaisedFrom (Some c) fresh more a = a ≡ later_asked c more
IsRaisedFrom None fresh more a = (fresh ≡ true) × (a ≡ more)

-- one of the edges leads to this key
abbrev pub leads : List Edge → Key → Bool
leads gs k = list_any (λ (e : Edge). is_same e.to k) gs

-- what was asked of an event before it is raised: it was known, or it was nothing, since the event
-- was not marked, and one of these edges leads to it
abbrev pub StartsAt : List Edge → Marked → AskedTable → Key → Asked → Type 0
StartsAt gs marks t k a = (entry_of t k ≡ Some a)
    ⊎ ((a ≡ nothing) × (is_marked marks k ≡ false) × (leads gs k ≡ true))

-- what is asked of an event is the latest of what was asked of it, and of what those of these edges
-- ask for that lead to it
pub record IsRaised (was is : ℕ) (gs : List Edge) (k : Key) (old new : Asked) : Type 0 where
  pub before_kept : old.before ≤ new.before
  pub after_kept : old.after ≤ new.after
  pub before_asked : All (λ e. is_same e.to k ≡ true → ask e was ≤ new.before) gs
  pub after_asked : All (λ e. is_same e.to k ≡ true → ask e is ≤ new.after) gs
  pub attained : (new.after ≡ old.after) ⊎ ((e : Edge)
      × Contains gs e × (is_same e.to k ≡ true) × (ask e is ≡ new.after))

-- whatever a table knows to be asked of an event is raised by these edges
abbrev pub AreRaised : ℕ → ℕ → List Edge → Marked → AskedTable → AskedTable → Type 0
AreRaised was is gs marks old new = (k : Key) (a : Asked) → entry_of new k ≡ Some a
    → (c : Asked) × StartsAt gs marks old k c × IsRaised was is gs k c a

-- what is asked of an event tells which time the rule gives it: that time, by the reports of its
-- train, if it is not before the stored one; and the stored one, if that is later than all that is
-- asked for and was asked for
pub record TellsTime (g : GraphState) (times : StoredTimes) (v : Event) (a : Asked) :
    Type 0 where
  pub small : a.after < 2 ^ 25
  pub later : (was : ℕ) → time_of times (node_of v.key) ≡ Some was → was ≤ a.after
      → local_at g times (node_of v.key)
      ≡ Some (unwrap_or v.report (capped (cap (events g.state) v) a.after))
  pub earlier : (was : ℕ) → time_of times (node_of v.key) ≡ Some was → a.after < was
      → a.before < was → local_at g times (node_of v.key) ≡ Some was
