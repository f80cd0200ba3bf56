use Rattle.std.proofs.Common.{arith, ◌≤◌, ◌∙◌, drop, length, ap}
use Rattle.delay_model.specs.declared.network.Network.{Network}
use Rattle.conn_scan.specs.ScratchState.{early_stops}
use Rattle.journey_cert.proofs.ReachedLemmas.{all-listed}
use Rattle.journey_cert.proofs.certifying.list_reached.Goals as goal

pub returns : goal.returns
returns c =
    let n = length c.args.t.now.network.stops in
    let held = c.args.s.now.held in
    let stops = c.changes.ensures.stops ∙ ap (λ (nw : Network). nw.stops) c.graph.ensures.network in
    let count = c.stops-number-end.ensures ∙ ap length stops in
    let past : n ≤ c.loop-number.number = omega (arith, count, c.loop-number-test.false) in
    all-listed c.args.best.now n c.loop-number.number past (drop c.loop-number.number held) c.loop-number.list.items (early_stops c.args.best.now held) c.loop-number.invariant c.requires
