-- The kept connections of an event: the rows that have it at one end, in either order.
use Rattle.connection_choices.proofs.Words.{◌≡◌, ◌↔◌, ℕ, zero, suc, ◌+◌, ◌-◌, ◌<◌, ◌≤◌, List, [], ◌∷◌, Bool, true, false, ◌&&◌, length, get_or, take, drop, map, refl, sym, ◌∙◌, ap, arith, Some}
use Rattle.connection_choices.proofs.Words.{Ordering, Contains, filter, AllPairs, IsPartitionPoint, IsPartitionedBy, passes, Less, is_le, is_lt, ordering_index, FinMap, entries, entries_sorted}
use Rattle.connection_choices.proofs.Words.{entries-from_sorted, find, from_sorted, get-entries, is_sorted, below_all, same_entries, cases_lt, nat_tests, tied_itself, Node, node_cmp, is_same_node}
use Rattle.connection_choices.proofs.Words.{nodes_total, exact_nodes, same_node-is, same_node-itself, Connection, Override, Keep, connection, connection_cmp, is_keep, End, Arrival, Departure}
use Rattle.connection_choices.proofs.Words.{kept_into, kept_from, end_cmp, event_at, event_across, rows_at, kept_across, AreTurned, length-map, AllPairs-filter, Contains-from_any}
use Rattle.connection_choices.proofs.Words.{list_any-from_Contains, tells_apart, list_any, eq_by_cmp, nat_le, nat_lt, eq_by_cmp_equiv, filter_passes, searchable_from_sorted, take-nil, drop-nil}
use Rattle.connection_choices.proofs.Words.{connections_total, exact_connections}
use Rattle.std.proofs.lemmas.List.{get_or-map}
use Rattle.std.specs.FinMap as map
use Rattle.connection_choices.proofs.OverrideOrders.{ends_total, find-alike, kept-turned, only}
use Rattle.connection_choices.proofs.PlaceLemmas.{truth, no-entry, keys-rise}

-- where a test of the comparison of the event at an end with one event passes no more, as a binary search finds it
abbrev pub IsBound : (Ordering → Bool) → End → Node → List (Connection × Override) → ℕ → Type 0
IsBound p end v es i = IsPartitionedBy (λ e. p (node_cmp (event_at end e.0) v)) es → IsPartitionPoint (λ e. p (node_cmp (event_at end e.0) v) ≡ true) (λ e. p (node_cmp (event_at end e.0) v) ≡ false) es i

-- the elements that pass a test, where they stand beside each other
middle-is : {X : Type 0} (p : X → Bool) (a n : ℕ) (xs : List X) → ((i : ℕ) (d : X) → i < length xs → p (get_or xs i d) ≡ (nat_le a i && nat_lt i (a + n))) → take n (drop a xs) ≡ filter p xs
middle-is p a n [] h = rw (drop-nil, take-nil)
middle-is p (suc a) n (x ∷ xs) h = grind (arith, nat_tests, h 0 x, middle-is p a n xs (λ i d l. grind (arith, nat_tests, l, h (suc i) d)))
middle-is p zero (suc n) (x ∷ xs) h = grind (arith, nat_tests, h 0 x, middle-is p zero n xs (λ i d l. grind (arith, nat_tests, l, h (suc i) d)))
middle-is p zero zero (x ∷ xs) h = grind (arith, nat_tests, h 0 x, middle-is p zero zero xs (λ i d l. grind (arith, nat_tests, l, h (suc i) d)))

falls : (a b : Ordering) → ordering_index a ≤ ordering_index b → (is_lt b ≡ true → is_lt a ≡ true) × (is_le b ≡ true → is_le a ≡ true)
falls a b l = grind (arith, l)

pub part-is : (end : End) (v : Node) (es : List (Connection × Override)) (first last : ℕ) → is_sorted (end_cmp end) es ≡ true → IsBound is_lt end v es first → IsBound is_le end v es last → first ≤ length es → (first ≤ last) × (take (last - first) (drop first es) ≡ rows_at end v es)
part-is end v es first last s start stop within =
    let rise = searchable_from_sorted nodes_total (λ (e : Connection × Override). event_at end e.0) es v (λ k d m l. grind (arith, keys-rise (ends_total end) es s k (k + 1) d, nodes_total.antisymm (event_at end (get_or es (k + 1) d).0) (event_at end (get_or es k d).0))) in
    let from = start (λ i j d m l. (falls _ _ (rise i j d m l)).0) in
    let upto = stop (λ i j d m l. (falls _ _ (rise i j d m l)).1) in
    let order : first ≤ last = grind (arith, cases_lt last first, from.0 last (connection v v, Keep), upto.1 last (connection v v, Keep), within) in
    let rows = middle-is (λ e. is_same_node (event_at end e.0) v) first (last - first) es (λ i d l.
    grind (arith, nat_tests, order, l, same_node-is (event_at end (get_or es i d).0) v, same_node-itself v, exact_nodes (event_at end (get_or es i d).0) v, tied_itself nodes_total v, from.0 i d, from.1 i d, upto.0 i d, upto.1 i d)) in
    (order, rows)

-- connections that have one event at an end are in the order of the events across, whichever order it is
across-cmp : (f end : End) (x y : Connection) → event_at end x ≡ event_at end y → end_cmp f x y ≡ node_cmp (event_across end x) (event_across end y)
across-cmp f end x y e = grind (arith, e, tied_itself nodes_total (event_at end y))

below-alike : (v : Node) (x : Connection) (es : List (Connection × Override)) → x.departure ≡ v → below_all (end_cmp Departure) x (rows_at Departure v es) ≡ below_all connection_cmp x (rows_at Departure v es)
below-alike v x [] h = refl
below-alike v x (e ∷ es) h = grind (arith, h, same_node-is e.0.departure v, across-cmp Departure Departure x e.0, across-cmp Arrival Departure x e.0, below-alike v x es h)

sorted-alike : (v : Node) (es : List (Connection × Override)) → is_sorted (end_cmp Departure) (rows_at Departure v es) ≡ is_sorted connection_cmp (rows_at Departure v es)
sorted-alike v [] = refl
sorted-alike v (e ∷ es) = grind (arith, same_node-is e.0.departure v, below-alike v e.0 es, sorted-alike v es)

-- the events across, of the connections that are kept and have the event at an end
kept-by : (end : End) (v : Node) (es : List (Connection × Override)) → map (λ e. event_across end e.0) (filter (λ e. is_same_node (event_at end e.0) v && is_keep e.1) es) ≡ kept_across end (rows_at end v es)
kept-by end v [] = refl
kept-by end v (e ∷ es) = grind (arith, kept-by end v es)

-- what is found in the order of the departures is what is kept, since in both orders the rows of one departure are the same
pub found_into : (v : Node) (es fs : List (Connection × Override)) → AreTurned es fs → kept_across Departure (rows_at Departure v fs) ≡ kept_into (from_sorted es) v
unfolding kept_into
found_into v es fs h =
    let at = kept-turned (λ p. is_same_node p.departure v) (λ p. is_same_node p.departure v) es fs (λ _. refl) h in
    rw (entries-from_sorted connection_cmp es (passes _ h.sorted), kept-by Departure v es)
    (ap (kept_across Departure) (sym (same_entries connection_cmp connections_total exact_connections _ _ (passes _ at.sorted) (passes _ (rw (sorted-alike v fs) at at.turned)) (λ q. sym (at.same q) ∙ find-alike Departure q (rows_at Departure v fs)))))

-- and in the order of the arrivals they stand as they are
pub found_from : (v : Node) (es fs : List (Connection × Override)) → AreTurned es fs → kept_across Arrival (rows_at Arrival v es) ≡ kept_from (from_sorted es) v
unfolding kept_from
found_from v es fs h = rw (entries-from_sorted connection_cmp es (passes _ h.sorted), kept-by Arrival v es)

-- the connection that has the one event at an end and the other across
abbrev joined : End → Node → Node → Connection
joined Arrival v q = connection v q
joined Departure v q = connection q v

-- an event is across exactly where its connection is kept
held : (end : End) (v u : Node) (es : List (Connection × Override)) → is_sorted connection_cmp es ≡ true → (list_any (eq_by_cmp node_cmp u) (kept_across end (rows_at end v es)) ≡ true) ↔ (find connection_cmp (joined end v u) es ≡ Some Keep)
held end v u [] s = grind arith
held end v u (e ∷ es) s =
    grind (arith, s, held end v u es, same_node-is (event_at end e.0) v, same_node-itself v, exact_nodes u (event_across end e.0), across-cmp Arrival end (joined end v u) e.0, no-entry connections_total (joined end v u) e.0 es, only (λ p. is_same_node (event_at end p) v) (joined end v u) es, only (λ p. is_same_node (event_at end p) v) (joined end v u) (e ∷ es))

kept-each : (end : End) (m : FinMap connection_cmp Override) (v u : Node) → Contains (kept_across end (rows_at end v (entries m))) u ↔ (map.get m (joined end v u) ≡ Some Keep)
kept-each end m v u =
    let at = held end v u (entries m) (truth _ (entries_sorted m)) in
    rw (get-entries m (joined end v u)) ((λ c. at.0 (list_any-from_Contains (eq_by_cmp_equiv nodes_total) u _ c)), (λ h. Contains-from_any (tells_apart exact_nodes) u _ (at.1 h)))

kept-rise : (end : End) (m : FinMap connection_cmp Override) (v : Node) → AllPairs (λ a b. node_cmp a b ≡ Less) (kept_across end (rows_at end v (entries m)))
kept-rise end m v = rw (← kept-by end v (entries m)) (λ i j d l n.
    let e : Connection × Override = (connection d d, Keep) in
    let es = filter (λ (e : Connection × Override). is_same_node (event_at end e.0) v && is_keep e.1) (entries m) in
    let n : j < length es = rw length-map at n in
    rw (get_or-map (λ e. event_across end e.0) es i e d (omega arith), get_or-map (λ e. event_across end e.0) es j e d n)
    (grind (arith, filter_passes {X = Connection × Override}, same_node-is (event_at end (get_or es i e).0) v, same_node-is (event_at end (get_or es j e).0) v, across-cmp Arrival end (get_or es i e).0 (get_or es j e).0, AllPairs-filter (λ a b. connection_cmp a.0 b.0 ≡ Less) _ (entries m) (keys-rise connections_total (entries m) (truth _ (entries_sorted m))) i j e l n)))

pub into-each : (m : FinMap connection_cmp Override) (v u : Node) → Contains (kept_into m v) u ↔ (map.get m (connection u v) ≡ Some Keep)
unfolding kept_into
into-each m v u = rw (kept-by Departure v (entries m)) (kept-each Departure m v u)

pub from-each : (m : FinMap connection_cmp Override) (v u : Node) → Contains (kept_from m v) u ↔ (map.get m (connection v u) ≡ Some Keep)
unfolding kept_from
from-each m v u = rw (kept-by Arrival v (entries m)) (kept-each Arrival m v u)

-- and they rise
pub into-rises : (m : FinMap connection_cmp Override) (v : Node) → AllPairs (λ a b. node_cmp a b ≡ Less) (kept_into m v)
unfolding kept_into
into-rises m v = rw (kept-by Departure v (entries m)) (kept-rise Departure m v)

pub from-rises : (m : FinMap connection_cmp Override) (v : Node) → AllPairs (λ a b. node_cmp a b ≡ Less) (kept_from m v)
unfolding kept_from
from-rises m v = rw (kept-by Arrival v (entries m)) (kept-rise Arrival m v)
