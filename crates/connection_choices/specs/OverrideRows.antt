-- What was chosen for connections, in rows by one of their ends.
use Rattle.std.specs.Prelude.{◌≡◌, ℕ, List, Option, Bool, true, ◌||◌, map, not}
use Rattle.std.specs.FinMap.{find, is_sorted}
use Rattle.std.specs.FinMap.Entries.{where_key}
use Rattle.std.specs.List.{HoldsAt, filter}
use Rattle.std.specs.List.Sorted.{IsPartitionPoint}
use Rattle.std.specs.declared.cmp.Ordering.{Ordering}
use Rattle.std.specs.declared.cmp.Ordering.TheVariants.{Equal, Greater, Less}
use Rattle.std.specs.Ordering.{eq_by_cmp, ordering_then}
use Rattle.mt_base.specs.declared.keys.Node.{Node}
use Rattle.mt_base.specs.Order.{node_cmp, is_same_node}
use Rattle.delay_model.specs.declared.overrides.Connection.{Connection}
use Rattle.delay_model.specs.declared.overrides.Override.{Override}
use Rattle.delay_model.specs.Overrides.{is_keep}
use Rattle.connection_choices.specs.declared.override_rows.End.{End}
use Rattle.connection_choices.specs.declared.override_rows.End.TheVariants.{Arrival, Departure}

-- the event at an end of a connection
abbrev pub event_at : End → Connection → Node
event_at Arrival p = p.arrival
event_at Departure p = p.departure

-- the event at the other end
abbrev pub event_across : End → Connection → Node
event_across Arrival p = p.departure
event_across Departure p = p.arrival

-- connections by the event at an end, and then by the one at the other end
abbrev pub end_cmp : End → Connection → Connection → Ordering
end_cmp end a b = ordering_then (node_cmp (event_at end a) (event_at end b))
    (node_cmp (event_across end a) (event_across end b))

-- the rows are in that order, one for each connection
abbrev pub AreSorted : End → List (Connection × Override) → Type 0
AreSorted end rows = is_sorted (end_cmp end) rows ≡ true

-- what is chosen for the connection
abbrev pub choice_in : End → Connection → List (Connection × Override) → Option Override
choice_in end = find (end_cmp end)

-- the row of the connection stands at this place
abbrev pub IsRowAt : End → Connection → List (Connection × Override) → ℕ → Type 0
IsRowAt end p rows i = HoldsAt (λ row. end_cmp end row.0 p ≡ Equal) rows i

-- the connection has no row, and one of it would go to this place
abbrev pub IsGapAt : End → Connection → List (Connection × Override) → ℕ → Type 0
IsGapAt end p rows i = IsPartitionPoint (λ row. end_cmp end row.0 p ≡ Less)
    (λ row. end_cmp end row.0 p ≡ Greater) rows i

-- the rows of the other connections
abbrev pub rows_without : End → Connection → List (Connection × Override)
    → List (Connection × Override)
rows_without end p = where_key (end_cmp end) (λ q. not (eq_by_cmp (end_cmp end) p q))

-- the rows of the connections that have the event at an end
abbrev pub rows_at : End → Node → List (Connection × Override) → List (Connection × Override)
rows_at end n = filter (λ e. is_same_node (event_at end e.0) n)

-- the events at the other end of those that are kept
abbrev pub kept_across : End → List (Connection × Override) → List Node
kept_across end es = map (λ e. event_across end e.0) (filter (λ e. is_keep e.1) es)

-- the connection names an event that passes a test
abbrev pub names_event : (Node → Bool) → Connection → Bool
names_event test p = test p.arrival || test p.departure
