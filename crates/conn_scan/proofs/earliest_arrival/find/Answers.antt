use Rattle.conn_scan.proofs.Words.{◌≡◌, false, true, length, replicate, sym, ◌∙◌, ap, subst, None, Some, [], HasRoomFor, IsWithin, All, Known, List, Option, PlanRide, Query, Ordered, leaving_from, ℕ}
use Rattle.conn_scan.specs.Searched.{HasFound}
use Rattle.conn_scan.specs.declared.earliest_arrival.Found.TheVariants.{Arrives, NoWay}
use Rattle.conn_scan.proofs.ChangeLemmas.{changes_of, tables-are}
use Rattle.conn_scan.proofs.SearchEnds.{departures-within, found-at_once, found-journey, found-none, last-possible, last-readable, rides-backwards, rides-readable, search-is, stations-are}
use Rattle.conn_scan.proofs.earliest_arrival.find.Goals as goal

pub returns-then-is_at_once-clause-found : goal.returns-then-is_at_once-clause-found
returns-then-is_at_once-clause-found c =
    let nw = c.args.t.now.network in
    let st = c.args.t.now.state in
    let q = c.args.q.now in
    let o = c.departures-order.result.now in
    let valid = c.state_is_valid.ensures in
    let stops = c.calls_are_at_stops.ensures in
    let order = c.departures-order.ensures.order in
    let tables : c.changes-changes.result.now ≡ changes_of nw = tables-are c.changes-changes.result.now c.graph.result.now.network nw c.changes-changes.ensures.stops c.changes-changes.ensures.transfers c.changes-changes.ensures.default c.graph.ensures.network in
    let one = stations-are nw q c.changes-changes.result.now c.ask-asked.result tables c.ask-asked.ensures.query c.ask-asked.ensures.stations true (sym c.is_at_once.ensures ∙ c.if-is_at_once.true) in
    let held : c.clear-then-is_at_once.new.known.held ≡ replicate (length c.args.known.now.held) None = ap (λ (k : Known). k.held) c.clear-then-is_at_once.ensures in
    rw (c.clear.ensures.items, held) (found-at_once nw st q (length c.args.known.now.held) valid one)

pub search-requires-clause-within : goal.search-requires-clause-within
search-requires-clause-within c =
    let nw = c.args.t.now.network in
    let st = c.args.t.now.state in
    let q = c.args.q.now in
    let o = c.departures-order.result.now in
    let valid = c.state_is_valid.ensures in
    let stops = c.calls_are_at_stops.ensures in
    let order = c.departures-order.ensures.order in
    let tables : c.changes-changes.result.now ≡ changes_of nw = tables-are c.changes-changes.result.now c.graph.result.now.network nw c.changes-changes.ensures.stops c.changes-changes.ensures.transfers c.changes-changes.ensures.default c.graph.ensures.network in
    subst (λ n. All (IsWithin n (length o.entries)) (leaving_from o c.ask-asked.result.query.time)) (ap length (λ i. (sym tables i).stops)) (departures-within nw st o valid stops order c.departures_are_in_order.ensures.past c.ask-asked.result.query.time)

pub returns-in_default-clause-found : goal.returns-in_default-clause-found
returns-in_default-clause-found c =
    let nw = c.args.t.now.network in
    let st = c.args.t.now.state in
    let q = c.args.q.now in
    let o = c.departures-order.result.now in
    let valid = c.state_is_valid.ensures in
    let stops = c.calls_are_at_stops.ensures in
    let order = c.departures-order.ensures.order in
    let tables : c.changes-changes.result.now ≡ changes_of nw = tables-are c.changes-changes.result.now c.graph.result.now.network nw c.changes-changes.ensures.stops c.changes-changes.ensures.transfers c.changes-changes.ensures.default c.graph.ensures.network in
    let k = c.search.new.known in
    let room = subst (λ n. HasRoomFor (length nw.stops) n c.args.known.now) (sym c.departures-order.ensures.numbers) c.requires.room in
    let over = search-is nw st o valid stops order q c.changes-changes.result.now c.ask-asked.result.query c.args.known.now k c.departures_are_in_order.ensures.past tables c.ask-asked.ensures.query room c.search.ensures.scanned in
    let apart = stations-are nw q c.changes-changes.result.now c.ask-asked.result tables c.ask-asked.ensures.query c.ask-asked.ensures.stations false (sym c.is_at_once.ensures ∙ c.if-is_at_once.false) in
    rw c.clear.ensures.items (found-none nw st o valid stops order q k over apart c.in_default.is)

pub trace-requires-clause-readable : goal.trace-requires-clause-readable
trace-requires-clause-readable c =
    let nw = c.args.t.now.network in
    let st = c.args.t.now.state in
    let q = c.args.q.now in
    let o = c.departures-order.result.now in
    let valid = c.state_is_valid.ensures in
    let stops = c.calls_are_at_stops.ensures in
    let order = c.departures-order.ensures.order in
    let tables : c.changes-changes.result.now ≡ changes_of nw = tables-are c.changes-changes.result.now c.graph.result.now.network nw c.changes-changes.ensures.stops c.changes-changes.ensures.transfers c.changes-changes.ensures.default c.graph.ensures.network in
    let k = c.search.new.known in
    let room = subst (λ n. HasRoomFor (length nw.stops) n c.args.known.now) (sym c.departures-order.ensures.numbers) c.requires.room in
    let over = search-is nw st o valid stops order q c.changes-changes.result.now c.ask-asked.result.query c.args.known.now k c.departures_are_in_order.ensures.past tables c.ask-asked.ensures.query room c.search.ensures.scanned in
    let apart = stations-are nw q c.changes-changes.result.now c.ask-asked.result tables c.ask-asked.ensures.query c.ask-asked.ensures.stations false (sym c.is_at_once.ensures ∙ c.if-is_at_once.false) in
    rides-readable nw st o valid stops order q k over

pub trace-requires-clause-backwards : goal.trace-requires-clause-backwards
trace-requires-clause-backwards c =
    let nw = c.args.t.now.network in
    let st = c.args.t.now.state in
    let q = c.args.q.now in
    let o = c.departures-order.result.now in
    let valid = c.state_is_valid.ensures in
    let stops = c.calls_are_at_stops.ensures in
    let order = c.departures-order.ensures.order in
    let tables : c.changes-changes.result.now ≡ changes_of nw = tables-are c.changes-changes.result.now c.graph.result.now.network nw c.changes-changes.ensures.stops c.changes-changes.ensures.transfers c.changes-changes.ensures.default c.graph.ensures.network in
    let k = c.search.new.known in
    let room = subst (λ n. HasRoomFor (length nw.stops) n c.args.known.now) (sym c.departures-order.ensures.numbers) c.requires.room in
    let over = search-is nw st o valid stops order q c.changes-changes.result.now c.ask-asked.result.query c.args.known.now k c.departures_are_in_order.ensures.past tables c.ask-asked.ensures.query room c.search.ensures.scanned in
    let apart = stations-are nw q c.changes-changes.result.now c.ask-asked.result tables c.ask-asked.ensures.query c.ask-asked.ensures.stations false (sym c.is_at_once.ensures ∙ c.if-is_at_once.false) in
    rides-backwards nw st o valid stops order q k over

pub trace-requires-clause-last : goal.trace-requires-clause-last
trace-requires-clause-last c =
    let nw = c.args.t.now.network in
    let st = c.args.t.now.state in
    let q = c.args.q.now in
    let o = c.departures-order.result.now in
    let valid = c.state_is_valid.ensures in
    let stops = c.calls_are_at_stops.ensures in
    let order = c.departures-order.ensures.order in
    let tables : c.changes-changes.result.now ≡ changes_of nw = tables-are c.changes-changes.result.now c.graph.result.now.network nw c.changes-changes.ensures.stops c.changes-changes.ensures.transfers c.changes-changes.ensures.default c.graph.ensures.network in
    let k = c.search.new.known in
    let room = subst (λ n. HasRoomFor (length nw.stops) n c.args.known.now) (sym c.departures-order.ensures.numbers) c.requires.room in
    let over = search-is nw st o valid stops order q c.changes-changes.result.now c.ask-asked.result.query c.args.known.now k c.departures_are_in_order.ensures.past tables c.ask-asked.ensures.query room c.search.ensures.scanned in
    let apart = stations-are nw q c.changes-changes.result.now c.ask-asked.result tables c.ask-asked.ensures.query c.ask-asked.ensures.stations false (sym c.is_at_once.ensures ∙ c.if-is_at_once.false) in
    last-readable nw st o valid stops order q k over apart c.in-Some.last c.in-Some.is

pub trace-requires-clause-possible : goal.trace-requires-clause-possible
trace-requires-clause-possible c =
    let nw = c.args.t.now.network in
    let st = c.args.t.now.state in
    let q = c.args.q.now in
    let o = c.departures-order.result.now in
    let valid = c.state_is_valid.ensures in
    let stops = c.calls_are_at_stops.ensures in
    let order = c.departures-order.ensures.order in
    let tables : c.changes-changes.result.now ≡ changes_of nw = tables-are c.changes-changes.result.now c.graph.result.now.network nw c.changes-changes.ensures.stops c.changes-changes.ensures.transfers c.changes-changes.ensures.default c.graph.ensures.network in
    let k = c.search.new.known in
    let room = subst (λ n. HasRoomFor (length nw.stops) n c.args.known.now) (sym c.departures-order.ensures.numbers) c.requires.room in
    let over = search-is nw st o valid stops order q c.changes-changes.result.now c.ask-asked.result.query c.args.known.now k c.departures_are_in_order.ensures.past tables c.ask-asked.ensures.query room c.search.ensures.scanned in
    let apart = stations-are nw q c.changes-changes.result.now c.ask-asked.result tables c.ask-asked.ensures.query c.ask-asked.ensures.stations false (sym c.is_at_once.ensures ∙ c.if-is_at_once.false) in
    last-possible nw st o valid stops order q k over apart c.in-Some.last c.in-Some.is

pub returns-clause-found : goal.returns-clause-found
returns-clause-found c =
    let nw = c.args.t.now.network in
    let st = c.args.t.now.state in
    let q = c.args.q.now in
    let o = c.departures-order.result.now in
    let valid = c.state_is_valid.ensures in
    let stops = c.calls_are_at_stops.ensures in
    let order = c.departures-order.ensures.order in
    let tables : c.changes-changes.result.now ≡ changes_of nw = tables-are c.changes-changes.result.now c.graph.result.now.network nw c.changes-changes.ensures.stops c.changes-changes.ensures.transfers c.changes-changes.ensures.default c.graph.ensures.network in
    let k = c.search.new.known in
    let room = subst (λ n. HasRoomFor (length nw.stops) n c.args.known.now) (sym c.departures-order.ensures.numbers) c.requires.room in
    let over = search-is nw st o valid stops order q c.changes-changes.result.now c.ask-asked.result.query c.args.known.now k c.departures_are_in_order.ensures.past tables c.ask-asked.ensures.query room c.search.ensures.scanned in
    let apart = stations-are nw q c.changes-changes.result.now c.ask-asked.result tables c.ask-asked.ensures.query c.ask-asked.ensures.stations false (sym c.is_at_once.ensures ∙ c.if-is_at_once.false) in
    found-journey nw st o valid stops order q k over apart c.in-Some.last c.in-Some.is c.trace.new.rides.items c.trace.ensures.rides
