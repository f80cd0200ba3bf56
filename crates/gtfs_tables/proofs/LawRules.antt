-- What the rows of `transfers.txt` and `waiting_rules.txt` keep: they name locations and routes that are there.
use Rattle.gtfs_tables.proofs.Words.{◌≡◌, ℕ, ◌<◌, ◌≤◌, List, [], ◌∷◌, Bool, Option, Some, IfSome, Ok, All, length, subst, arith, common_steps, length-map, All-nil, All-push, All-weaker, StopRow, TransferRow, AreDistinct, IsTransfer, Column, BadNumber, UnknownReference, fault, number_of, stop_ids, Rules}
use Rattle.mt_base.specs.declared.tables.RuleRow.{RuleRow}
use Rattle.feed_tables.specs.Lawful.{IsRule}
use Rattle.gtfs_tables.specs.declared.columns.Column.TheVariants.{StopId, MaxWait}
use Rattle.gtfs_tables.specs.Transfers.{Transfers, transfer_of, with_transfer, transfer_step, transfers_of, needed_transfer_columns}
use Rattle.gtfs_tables.specs.WaitingRules.{waiting_place, wait_of, route_in, routes_with, with_rule, rule_step, rule_columns, waiting_rules_of}
use Rattle.gtfs_tables.proofs.LawNames.{number-below, with-name}
use Rattle.gtfs_tables.proofs.LawSteps.{bind-ok, need-ok, ok-same, table-keeps}
use Rattle.gtfs_tables.proofs.LawTimes.{below-small}

-- ---- transfers

-- the changes are between locations that are there, and not more than the rows
pub record AreTransfers (stops : ℕ) (s : Transfers) : Type 0 where
  pub rows : All (IsTransfer stops) s.rows
  pub count : length s.rows ≤ s.count

transfer-read : (stops : List (List ℕ)) (row : ℕ) (from_id to_id transfer_type least : List ℕ) (for_all : Bool) (transfer : Option TransferRow) → transfer_of stops row from_id to_id transfer_type least for_all ≡ Ok transfer → IfSome transfer (IsTransfer (length stops))
unfolding transfer_of
transfer-read stops row from_id to_id transfer_type least for_all transfer h = grind (arith, number-below)

transfer-with : (stops : ℕ) (transfer : Option TransferRow) (s : Transfers) → IfSome transfer (IsTransfer stops) → AreTransfers stops s → AreTransfers stops (with_transfer transfer s)
transfer-with stops transfer s t k = grind (arith, common_steps, All-push (IsTransfer stops) s.rows)

transfer-added : (stops : List (List ℕ)) (row : ℕ) (field : Column → List ℕ) (s next : Transfers) → transfer_step stops row field s ≡ Ok next → AreTransfers (length stops) s → AreTransfers (length stops) next
transfer-added stops row field s next h k =
    let p = bind-ok _ _ next h in
    subst (AreTransfers (length stops)) (ok-same p.2) (transfer-with (length stops) _ s (transfer-read stops row _ _ _ _ _ _ p.1) k)

pub no-transfers : (stops : ℕ) → AreTransfers stops (record { rows = []; count = 0 })
no-transfers stops = record { rows = All-nil (IsTransfer stops); count = omega arith }

pub transfers-keep : (stops : List (List ℕ)) (all : List (List (List ℕ))) (s : Transfers) → transfers_of stops all ≡ Ok s → AreTransfers (length stops) s
transfers-keep stops all s h =
    table-keeps (AreTransfers (length stops)) (transfer_step stops) (transfer-added stops) needed_transfer_columns (record { rows = []; count = 0 }) s all h (no-transfers (length stops))

-- ---- waiting rules

-- the rules name routes and locations that are there, and the routes are so many at least
pub record AreRules (stops least : ℕ) (s : Rules) : Type 0 where
  pub rows : All (IsRule stops (length s.routes)) s.rows
  pub names : AreDistinct s.routes
  pub longer : least ≤ length s.routes

-- routes after one more field with a route
record HasRoute (field : List ℕ) (routes : List (List ℕ)) : Type 0 where
  pub below : IfSome (route_in field routes) (λ r. r < length (routes_with field routes))
  pub longer : length routes ≤ length (routes_with field routes)
  pub distinct : AreDistinct routes → AreDistinct (routes_with field routes)

with-route : (field : List ℕ) (routes : List (List ℕ)) → HasRoute field routes
with-route [] routes = grind arith
with-route (byte ∷ bytes) routes = grind (arith, with-name (byte ∷ bytes) routes)

place-below : (stops : List StopRow) (id : List ℕ) (place : Option ℕ) → waiting_place stops id ≡ Some place → IfSome place (λ n. n < length stops)
place-below stops [] place h = grind arith
place-below stops (byte ∷ bytes) place h = grind (arith, number-below (byte ∷ bytes) (stop_ids stops), length-map stops (λ (row : StopRow). row.id))

more-rules : (stops routes more : ℕ) (rows : List RuleRow) → routes ≤ more → All (IsRule stops routes) rows → All (IsRule stops more) rows
more-rules stops routes more rows l h = All-weaker (IsRule stops routes) (IsRule stops more) (λ row t. grind arith) rows h

rule-with : (stops least : ℕ) (feeder connecting : List ℕ) (place : Option ℕ) (longest : ℕ) (s : Rules) → IfSome place (λ n. n < stops) → longest ≤ 86400 → AreRules stops least s → AreRules stops least (with_rule feeder connecting place longest s)
rule-with stops least feeder connecting place longest s p l k =
    let routes = routes_with feeder s.routes in
    let more = length (routes_with connecting routes) in
    grind (arith, with-route feeder s.routes, with-route connecting routes, more-rules stops (length s.routes) more s.rows, All-push (IsRule stops more) s.rows)

rule-added : (stops : List StopRow) (least row : ℕ) (field : Column → List ℕ) (s next : Rules) → rule_step stops row field s ≡ Ok next → AreRules (length stops) least s → AreRules (length stops) least next
rule-added stops least row field s next h k =
    let p = need-ok (fault row UnknownReference) (waiting_place stops (field StopId)) _ next h in
    let w = need-ok (fault row BadNumber) (wait_of (field MaxWait)) _ next p.2 in
    let longest = below-small 86401 (number_of (field MaxWait)) w.0 w.1 in
    subst (AreRules (length stops) least) (ok-same w.2) (rule-with (length stops) least _ _ p.0 w.0 s (place-below stops _ _ p.1) (omega (arith, longest)) k)

pub no-rules : (stops : ℕ) (names : List (List ℕ)) → AreDistinct names → AreRules stops (length names) (record { routes = names; rows = [] })
no-rules stops names h = record { rows = All-nil (IsRule stops (length names)); names = h; longer = omega arith }

pub rules-keep : (stops : List StopRow) (names : List (List ℕ)) (all : List (List (List ℕ))) (s : Rules) → AreDistinct names → waiting_rules_of stops names all ≡ Ok s → AreRules (length stops) (length names) s
rules-keep stops names all s n h =
    table-keeps (AreRules (length stops) (length names)) (rule_step stops) (rule-added stops (length names)) rule_columns (record { routes = names; rows = [] }) s all h (no-rules (length stops) names n)
