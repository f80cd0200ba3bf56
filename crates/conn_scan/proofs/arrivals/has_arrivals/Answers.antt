use Rattle.conn_scan.proofs.Words.{◌≡◌, Bool, length, sym, ◌∙◌, ap, arith, ChangeTables, HasRoomFor, Network, Query, begun, leaving_from}
use Rattle.conn_scan.specs.Arrivals.{first_time, has_all, noted}
use Rattle.conn_scan.specs.ScratchState.{ScratchState}
use Rattle.conn_scan.proofs.AllArrivals.{all-within, says-arrivals}
use Rattle.conn_scan.proofs.ChangeLemmas.{changes_of}
use Rattle.conn_scan.proofs.Numbered.{numbered}
use Rattle.conn_scan.proofs.arrivals.has_arrivals.Goals as goal

pub are_all_reached-requires-clause-within : goal.are_all_reached-requires-clause-within
are_all_reached-requires-clause-within c =
    let nw = c.args.t.now.network in
    let st = c.args.t.now.state in
    let o = c.departures-order.result.now in
    let is = c.departures-order.ensures.order in
    let valid = c.state_is_valid.ensures in
    rw (c.changes-changes.ensures.stops, c.graph.ensures.network)
    (all-within nw st o valid is (numbered nw st o valid is) c.calls_are_at_stops.ensures (first_time c.ask-asked.result.query.time c.args.reached.now))

pub returns-clause-arrivals : goal.returns-clause-arrivals
returns-clause-arrivals c =
    let nw = c.args.t.now.network in
    let st = c.args.t.now.state in
    let q = c.args.q.now in
    let o = c.departures-order.result.now in
    let is = c.departures-order.ensures.order in
    let valid = c.state_is_valid.ensures in
    let best = c.args.best.now in
    let list = c.args.reached.now in
    let k = c.scratch.inside.known in
    let held = ap (λ (s : ScratchState). s.room.stops) c.scratch.view_is in
    let numbers = ap (λ (s : ScratchState). s.room.numbers) c.scratch.view_is in
    let stops = c.requires.stops in
    let fits = c.requires.numbers in
    let entries = c.departures-order.ensures.numbers in
    let few = c.departures_are_in_order.ensures.few in
    let times = c.scratch.invariant.times in
    let behind = c.scratch.invariant.behind in
    let aboard = c.scratch.invariant.aboard in
    let room : HasRoomFor (length nw.stops) (length o.entries) k = record {
      held = omega arith;
      times = omega arith;
      rides = omega arith;
      aboard = omega arith;
    }
    in
    let ch = c.changes-changes.ensures in
    let same : c.changes-changes.result.now ≡ changes_of nw = λ i. record {
      stops = (ch.stops ∙ ap (λ (nw : Network). nw.stops) c.graph.ensures.network) i;
      transfers = (ch.transfers ∙ ap (λ (nw : Network). nw.transfers) c.graph.ensures.network) i;
      default = (ch.default ∙ ap (λ (nw : Network). nw.opts.change) c.graph.ensures.network) i;
    }
    in
    let all : ChangeTables → Query → Bool = λ t q. has_all (length t.stops) best (leaving_from o (first_time q.time list)) (noted t list (begun t q k)) in
    let told : c.are_all_reached.result ≡ all (changes_of nw) q = c.are_all_reached.ensures.all ∙ (λ i. all (same i) (c.ask-asked.ensures.query i)) in
    let says = says-arrivals nw st o valid is (numbered nw st o valid is) c.calls_are_at_stops.ensures q best list c.requires.early k room in
    ((λ holds. says.0 (sym told ∙ holds)), (λ has. told ∙ says.1 has))
