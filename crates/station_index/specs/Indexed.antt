-- An index of events by stop and time, as the list of its entries.
use Rattle.std.specs.Prelude.{◌≡◌, ℕ, List, [], ◌∷◌, Bool, true, not, filter, refl}
use Rattle.std.specs.Prelude.{◌&&◌, if◌then◌else◌, nat_eq, nat_le}
use mathlib.Core.Bool.{beq}
use Rattle.std.specs.Coded.{Coded, code_by, coded×, coded_ℕ, coded_bool, coded_list}
use Rattle.std.specs.List.{AllPairs}
use Rattle.mt_base.specs.declared.keys.Node.{Node}
use Rattle.mt_base.specs.declared.index_entries.Entry.{Entry}
use Rattle.mt_base.specs.Order.{coded_node, is_before_entry, is_same_node}

-- the entries of an index in their order, and for how many more there is room
pub record Indexed : Type 0 where
  pub entries : List Entry
  pub spare : ℕ

-- the entry of an event at a stop, scheduled at a time
abbrev pub entry_at : ℕ → ℕ → Node → Entry
entry_at stop time n = record { stop = stop; dep = n.dep; time = time; node = n }

-- a and b are one entry: the same stop, time and event, and both arrivals or both departures
unfoldable pub is_same_entry : Entry → Entry → Bool
is_same_entry a b = nat_eq a.stop b.stop && (beq a.dep b.dep
    && (nat_eq a.time b.time && is_same_node a.node b.node))

-- each entry stands before all those after it
abbrev pub AreInOrder : List Entry → Type 0
AreInOrder es = AllPairs (λ a b. is_before_entry a b ≡ true) es

-- one more entry, behind all that stand before it
abbrev pub with_entry : Entry → List Entry → List Entry
with_entry e [] = e ∷ []
with_entry e (x ∷ xs) = if is_before_entry x e then x ∷ with_entry e xs else e ∷ x ∷ xs

-- all entries but this one
abbrev pub without_entry : Entry → List Entry → List Entry
without_entry e es = filter (λ x. not (is_same_entry x e)) es

-- the entry is at a stop, an arrival or a departure as asked for, and scheduled from `lo` to `hi`,
-- both included
abbrev pub is_in_range : ℕ → Bool → ℕ → ℕ → Entry → Bool
is_in_range stop dep lo hi e = nat_eq e.stop stop && (beq e.dep dep
    && (nat_le lo e.time && nat_le e.time hi))

-- the entries in a range
abbrev pub entries_in : ℕ → Bool → ℕ → ℕ → List Entry → List Entry
entries_in stop dep lo hi es = filter (is_in_range stop dep lo hi) es

-- an entry as its stop, its kind, its time and its event
abbrev pub coded_entry : Coded Entry
coded_entry =
    code_by (ℕ × (Bool × (ℕ × Node)))
    (coded× coded_ℕ (coded× coded_bool (coded× coded_ℕ coded_node)))
    (λ e. (e.stop, (e.dep, (e.time, e.node))))
    (λ p. record { stop = p.0; dep = p.1.0; time = p.1.1.0; node = p.1.1.1 }) (λ _. refl)

-- an index as its entries and its room
abbrev pub coded_indexed : Coded Indexed
coded_indexed =
    code_by (List Entry × ℕ) (coded× (coded_list coded_entry) coded_ℕ)
    (λ a. (a.entries, a.spare)) (λ p. record { entries = p.0; spare = p.1 }) (λ _. refl)
