-- Finite maps from connections.
use Rattle.std.proofs.Common.{◌≡◌, cond, List, [], ◌∷◌, Some, None, Ordering, refl, sym, ◌∙◌, ap}
use Rattle.std.specs.declared.cmp.Ordering.TheVariants.{Less, Equal, Greater}
use Rattle.std.specs.Cmp.{IsTotalOrder}
use Rattle.std.specs.Ordering.{ordering_then}
use Rattle.std.specs.BTreeMap.{is_at}
use Rattle.std.specs.Map.{lookup}
use Rattle.std.specs.FinMap.{get, insert, remove, from_entries, find, get-from_entries, get-insert, get-remove, same_map}
use Rattle.std.proofs.lemmas.Cmp.{then_total, on_total, eq_by_cmp_equiv}
use Rattle.mt_base.specs.declared.keys.Node.{Node}
use Rattle.mt_base.specs.Order.{node_cmp}
use Rattle.mt_base.proofs.KeyLemmas.{nodes_total, exact_nodes}
use Rattle.delay_model.specs.declared.overrides.Connection.{Connection}
use Rattle.delay_model.specs.declared.overrides.Override.{Override}
use Rattle.delay_model.specs.Overrides.{connection, connection_cmp}

-- the order of connections is total
pub connections_total : IsTotalOrder connection_cmp
connections_total = then_total (on_total (λ p. p.arrival) nodes_total) (on_total (λ p. p.departure) nodes_total)

then-Equal : (a b : Ordering) → ordering_then a b ≡ Equal → (a ≡ Equal) × (b ≡ Equal)
then-Equal Less b h = absurd (cc)
then-Equal Equal b h = (refl, h)
then-Equal Greater b h = absurd (cc)

connection-agree : (a b c d : Node) → a ≡ b → c ≡ d → connection a c ≡ connection b d
connection-agree a b c d p q = cc

-- connections that compare alike are one
pub exact_connections : (a b : Connection) → connection_cmp a b ≡ Equal → a ≡ b
unfolding connection
exact_connections a b h =
    let ends = then-Equal (node_cmp a.arrival b.arrival) _ h in
    connection-agree a.arrival b.arrival a.departure b.departure (exact_nodes a.arrival b.arrival ends.0) (exact_nodes a.departure b.departure ends.1)

find_connection : (es : List (Connection × Override)) (q : Connection) → find connection_cmp q es ≡ lookup (is_at (connection_cmp q)) es
find_connection [] q = refl
find_connection (e ∷ es) q = ap (cond (is_at (connection_cmp q) e.0) (Some e.1)) (find_connection es q)

-- what the map that the entries make has at a pair
pub get-from_rows : (es : List (Connection × Override)) (q : Connection) → get (from_entries {R = connection_cmp} es) q ≡ lookup (is_at (connection_cmp q)) es
get-from_rows es q = get-from_entries connections_total es q ∙ find_connection es q

-- entries that differ at one pair make maps that differ there
pub from_entries-set : (es fs : List (Connection × Override)) (s : Connection) (n : Override) → ((q : Connection) → lookup (is_at (connection_cmp q)) fs ≡ cond (is_at (connection_cmp s) q) (Some n) (lookup (is_at (connection_cmp q)) es)) → from_entries {R = connection_cmp} fs ≡ insert (from_entries es) s n
from_entries-set es fs s n h = same_map connections_total exact_connections _ _ (λ q.
    get-from_rows fs q ∙ h q ∙ ap (λ b. cond b (Some n) (lookup (is_at (connection_cmp q)) es)) ((eq_by_cmp_equiv connections_total).symm s q)
    ∙ sym (get-insert connections_total (from_entries es) s n q ∙ ap (cond (is_at (connection_cmp q) s) (Some n)) (get-from_rows es q)))

-- entries that lack one pair make maps that lack it
pub from_entries-removed : (es fs : List (Connection × Override)) (s : Connection) → ((q : Connection) → lookup (is_at (connection_cmp q)) fs ≡ cond (is_at (connection_cmp s) q) None (lookup (is_at (connection_cmp q)) es)) → from_entries {R = connection_cmp} fs ≡ remove (from_entries es) s
from_entries-removed es fs s h = same_map connections_total exact_connections _ _ (λ q.
    get-from_rows fs q ∙ h q ∙ ap (λ b. cond b None (lookup (is_at (connection_cmp q)) es)) ((eq_by_cmp_equiv connections_total).symm s q)
    ∙ sym (get-remove connections_total (from_entries es) s q ∙ ap (cond (is_at (connection_cmp q) s) None) (get-from_rows es q)))
