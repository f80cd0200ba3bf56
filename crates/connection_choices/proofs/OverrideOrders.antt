-- Rows of overrides in the order of the arrivals, and the same in that of the departures.
use Rattle.connection_choices.proofs.Words.{◌≡◌, List, [], ◌∷◌, Bool, true, length, refl, sym, ◌∙◌, ap, arith, Ordering, filter, passes, IsTotalOrder, is_eq, ordering_then, eq_by_cmp, find, put}
use Rattle.connection_choices.proofs.Words.{is_sorted, from_sorted, from_entries, len, same_map, get-from_sorted, get-from_entries, len-insert, is_sorted-put, is_sorted-where_key, find-put}
use Rattle.connection_choices.proofs.Words.{find-where_key, then_total, on_total, node_cmp, nodes_total, Connection, Override, connection_cmp, connections_total, exact_connections, End, Arrival}
use Rattle.connection_choices.proofs.Words.{Departure, end_cmp, AreTurned, len-entries, entries-from_sorted, tied_itself, cond, None}
use Rattle.std.specs.FinMap as map
use Rattle.connection_choices.specs.declared.override_table.OverrideTable.TheInside.{Inside}
use Rattle.connection_choices.specs.StoredOverrides.{AreStored}
use Rattle.connection_choices.proofs.PlaceLemmas.{no-entry}

-- each of the two orders is total, and tells connections apart
pub ends_total : (end : End) → IsTotalOrder (end_cmp end)
ends_total Arrival = connections_total
ends_total Departure = then_total (on_total (λ p. p.departure) nodes_total) (on_total (λ p. p.arrival) nodes_total)

then-turned : (a b : Ordering) → is_eq (ordering_then a b) ≡ is_eq (ordering_then b a)
then-turned a b = grind arith

-- the orders tell the same connections apart
pub tied-alike : (end : End) (p q : Connection) → eq_by_cmp (end_cmp end) p q ≡ eq_by_cmp connection_cmp p q
tied-alike end p q = grind (arith, then-turned (node_cmp p.departure q.departure) (node_cmp p.arrival q.arrival))

pub find-alike : (end : End) (q : Connection) (es : List (Connection × Override)) → find (end_cmp end) q es ≡ find connection_cmp q es
find-alike end q [] = refl
find-alike end q (e ∷ es) = grind (arith, tied-alike end q e.0, find-alike end q es)

-- a choice more
pub put-turned : (k : Connection) (v : Override) (es fs : List (Connection × Override)) → AreTurned es fs → AreTurned (put connection_cmp k v es) (put (end_cmp Departure) k v fs)
put-turned k v es fs h = grind (arith, h, is_sorted-put connection_cmp connections_total k v es, is_sorted-put (end_cmp Departure) (ends_total Departure) k v fs, find-put {X = Override} (end_cmp Departure) (ends_total Departure), find-put {X = Override} connection_cmp connections_total, tied-alike Departure)

-- what is found of the connections that pass a test
pub only : (p : Connection → Bool) (q : Connection) (es : List (Connection × Override)) → find connection_cmp q (filter (λ e. p e.0) es) ≡ cond (p q) (find connection_cmp q es) None
only p q es = find-where_key connection_cmp p q (λ x u. ap p (sym (exact_connections q x u))) es

-- choices fewer
pub kept-turned : (p r : Connection → Bool) (es fs : List (Connection × Override)) → ((x : Connection) → r x ≡ p x) → AreTurned es fs → AreTurned (filter (λ e. p e.0) es) (filter (λ e. r e.0) fs)
kept-turned p r es fs alike h = grind (arith, h, alike, is_sorted-where_key connection_cmp p es, is_sorted-where_key (end_cmp Departure) r fs, find-alike Departure, only p, only r)

entries-count : (end : End) (es : List (Connection × Override)) → is_sorted (end_cmp end) es ≡ true → len (from_entries {R = connection_cmp} es) ≡ length es
entries-count end [] h = map.len-empty connection_cmp Override
entries-count end (e ∷ es) h = grind (arith, h, len-insert connections_total (from_entries es) e.0 e.1, get-from_entries connections_total es e.0, find-alike end e.0 es, no-entry (ends_total end) e.0 e.0 es, tied_itself (ends_total end) e.0, entries-count end es)

-- there are as many in the one order as in the other
pub turned-count : (es fs : List (Connection × Override)) → AreTurned es fs → length fs ≡ length es
turned-count es fs h = grind (arith, h, entries-count Departure fs, entries-count Arrival es, same_map connections_total exact_connections (from_entries es) (from_entries fs) (λ q. grind (arith, h.same q, get-from_entries connections_total fs q, get-from_entries connections_total es q, find-alike Departure q fs)))

-- what is chosen, by the rows
pub chosen : (a : Inside) (k : Connection) → AreStored a → map.get (from_sorted {R = connection_cmp} a.by_arrival.items) k ≡ find connection_cmp k a.by_arrival.items
chosen a k h = get-from_sorted connection_cmp a.by_arrival.items k (passes _ h.choices.sorted)

-- there are as many entries as rows
pub sorted_len : (es : List (Connection × Override)) → is_sorted connection_cmp es ≡ true → len (from_sorted {R = connection_cmp} es) ≡ length es
sorted_len es s = len-entries (from_sorted es) ∙ ap length (entries-from_sorted connection_cmp es (passes _ s))

-- no rows are no choices
pub nothing : from_sorted {X = Override} {R = connection_cmp} [] ≡ map.empty
nothing = map.empty_of_len (from_sorted []) (sorted_len [] refl)
