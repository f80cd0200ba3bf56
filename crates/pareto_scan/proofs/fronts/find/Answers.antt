use Rattle.conn_scan.proofs.Words.{◌≡◌, false, true, length, sym, ◌∙◌, ap, subst, arith, All, IsWithin, leaving_from}
use Rattle.std.proofs.Common.{Ok, Err}
use Rattle.std.specs.Prelude.{Result}
use Rattle.std.specs.Result.{IfOk}
use Rattle.journey_laws.specs.Fronts.{IsFront}
use Rattle.conn_scan.proofs.ChangeLemmas.{changes_of, tables-are}
use Rattle.conn_scan.proofs.SearchEnds.{departures-within, stations-are}
use Rattle.pareto_scan.specs.Levels.{HasLevelRoom}
use Rattle.pareto_scan.proofs.BestPlans.{front-at_once, search-is}
use Rattle.pareto_scan.proofs.LevelLists.{rows-then}
use Rattle.pareto_scan.proofs.fronts.find.Goals as goal

ok-then : {A E : Type 0} {P Q : A → Type 0} (r : Result A E) → ((x : A) → P x → Q x) → IfOk r P → IfOk r Q
ok-then (Ok x) next p = next x p
ok-then (Err e) next p = p

pub returns-then-is_at_once-clause-front : goal.returns-then-is_at_once-clause-front
returns-then-is_at_once-clause-front c =
    let nw = c.args.t.now.network in
    let st = c.args.t.now.state in
    let q = c.args.q.now in
    let tables : c.changes-changes.result.now ≡ changes_of nw = tables-are c.changes-changes.result.now c.graph.result.now.network
    nw c.changes-changes.ensures.stops c.changes-changes.ensures.transfers c.changes-changes.ensures.default c.graph.ensures.network in
    let one = stations-are nw q c.changes-changes.result.now c.ask-asked.result tables c.ask-asked.ensures.query c.ask-asked.ensures.stations true (sym c.is_at_once.ensures ∙ c.if-is_at_once.true) in
    ok-then c.plan_at_once.result (λ plans is. subst (IsFront nw st q c.args.most) (sym is) (front-at_once nw st q c.args.most c.state_is_valid.ensures one)) c.plan_at_once.ensures

pub scan-requires-clause-room : goal.scan-requires-clause-room
scan-requires-clause-room c =
    let nw = c.args.t.now.network in
    let tables : c.changes-changes.result.now ≡ changes_of nw = tables-are c.changes-changes.result.now c.graph.result.now.network
    nw c.changes-changes.ensures.stops c.changes-changes.ensures.transfers c.changes-changes.ensures.default c.graph.ensures.network in
    subst (λ n. All (HasLevelRoom n) c.begin.new.levels) (ap length (λ i. (sym tables i).stops)) (c.begin.ensures.room.rows (length nw.stops) c.requires.room)

pub scan-requires-clause-within : goal.scan-requires-clause-within
scan-requires-clause-within c =
    let nw = c.args.t.now.network in
    let st = c.args.t.now.state in
    let o = c.departures-order.result.now in
    let tables : c.changes-changes.result.now ≡ changes_of nw = tables-are c.changes-changes.result.now c.graph.result.now.network
    nw c.changes-changes.ensures.stops c.changes-changes.ensures.transfers c.changes-changes.ensures.default c.graph.ensures.network in
    subst (λ n. All (IsWithin n (length o.entries)) (leaving_from o c.ask-asked.result.query.time))
    (ap length (λ i. (sym tables i).stops)) (departures-within nw st o c.state_is_valid.ensures
    c.calls_are_at_stops.ensures c.departures-order.ensures.order c.departures_are_in_order.ensures.past c.ask-asked.result.query.time)

pub plans_within-requires-clause-readable : goal.plans_within-requires-clause-readable
plans_within-requires-clause-readable c =
    let nw = c.args.t.now.network in
    let tables : c.changes-changes.result.now ≡ changes_of nw = tables-are c.changes-changes.result.now c.graph.result.now.network
    nw c.changes-changes.ensures.stops c.changes-changes.ensures.transfers c.changes-changes.ensures.default c.graph.ensures.network in
    let is = search-is nw c.args.t.now.state c.departures-order.result.now
    c.state_is_valid.ensures c.calls_are_at_stops.ensures c.departures-order.ensures.order c.args.q.now c.args.most c.changes-changes.result.now
    c.ask-asked.result.query c.args.levels.now c.begin.new.levels c.scan.new.levels (length c.args.riders.now) c.begin.new.riders
    c.departures_are_in_order.ensures.past tables c.ask-asked.ensures.query c.requires.most c.requires.room
    (omega (arith, c.departures-order.ensures.numbers, c.requires.riders)) c.begin.ensures.levels c.begin.ensures.riders c.scan.ensures.levels in
    rw (c.trains.ensures.trains, c.graph-2.ensures.state) is.readable

pub plans_within-requires-clause-ends : goal.plans_within-requires-clause-ends
plans_within-requires-clause-ends c =
    let nw = c.args.t.now.network in
    let tables : c.changes-changes.result.now ≡ changes_of nw = tables-are c.changes-changes.result.now c.graph.result.now.network
    nw c.changes-changes.ensures.stops c.changes-changes.ensures.transfers c.changes-changes.ensures.default c.graph.ensures.network in
    let is = search-is nw c.args.t.now.state c.departures-order.result.now
    c.state_is_valid.ensures c.calls_are_at_stops.ensures c.departures-order.ensures.order c.args.q.now c.args.most c.changes-changes.result.now
    c.ask-asked.result.query c.args.levels.now c.begin.new.levels c.scan.new.levels (length c.args.riders.now) c.begin.new.riders
    c.departures_are_in_order.ensures.past tables c.ask-asked.ensures.query c.requires.most c.requires.room
    (omega (arith, c.departures-order.ensures.numbers, c.requires.riders)) c.begin.ensures.levels c.begin.ensures.riders c.scan.ensures.levels in
    rw (c.trains.ensures.trains, c.graph-2.ensures.state) is.ends

pub returns-clause-front : goal.returns-clause-front
returns-clause-front c =
    let nw = c.args.t.now.network in
    let st = c.args.t.now.state in
    let q = c.args.q.now in
    let tables : c.changes-changes.result.now ≡ changes_of nw = tables-are c.changes-changes.result.now c.graph.result.now.network
    nw c.changes-changes.ensures.stops c.changes-changes.ensures.transfers c.changes-changes.ensures.default c.graph.ensures.network in
    let is = search-is nw st c.departures-order.result.now c.state_is_valid.ensures c.calls_are_at_stops.ensures c.departures-order.ensures.order
    q c.args.most c.changes-changes.result.now c.ask-asked.result.query c.args.levels.now c.begin.new.levels c.scan.new.levels
    (length c.args.riders.now) c.begin.new.riders
    c.departures_are_in_order.ensures.past tables c.ask-asked.ensures.query c.requires.most c.requires.room
    (omega (arith, c.departures-order.ensures.numbers, c.requires.riders)) c.begin.ensures.levels c.begin.ensures.riders c.scan.ensures.levels in
    let apart = stations-are nw q c.changes-changes.result.now c.ask-asked.result tables c.ask-asked.ensures.query c.ask-asked.ensures.stations false
    (sym c.is_at_once.ensures ∙ c.if-is_at_once.false) in
    let front = is.front apart in
    ok-then c.plans_within.result (λ plans are. subst (IsFront nw st q c.args.most) (sym (rw (c.trains.ensures.trains, c.graph-2.ensures.state) at are)) front) c.plans_within.ensures

pub returns-clause-room : goal.returns-clause-room
returns-clause-room c = rows-then c.args.levels.now c.begin.new.levels c.scan.new.levels c.begin.ensures.room c.scan.ensures.room
