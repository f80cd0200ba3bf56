use Rattle.std.proofs.Common.{◌≡◌, ◌&&◌, nat_eq, sym, ◌∙◌, Some, false}
use Rattle.journey_cert.specs.Calls.{calls_after, first_arrival}
use Rattle.journey_cert.proofs.RideLemmas.{by-later, fewer, is-call}
use Rattle.journey_cert.proofs.ride.arrival_by.Goals as goal

pub loop-arrival-smaller : goal.loop-arrival-smaller
loop-arrival-smaller g c =
    fewer c.args.t.now.network c.args.t.now.state c.requires.valid c.args.train c.loop-arrival.label c.loop-arrival.invariant.1 c.args.alight c.in-Some.arrival (sym c.in-Some.ensures)

pub loop-arrival-preserved : goal.loop-arrival-preserved
loop-arrival-preserved g c =
    let nw = c.args.t.now.network in
    let st = c.args.t.now.state in
    let a = c.in-Some.arrival in
    let label = c.loop-arrival.label in
    let there = c.loop-arrival.invariant.1 in
    let first : first_arrival nw st c.args.train (calls_after st c.args.train label) ≡ Some a = sym c.in-Some.ensures in
    let apart : (a.alights && nat_eq a.label c.args.alight) ≡ false = sym c.is_alighting.ensures ∙ c.if-is_alighting.false in
    (by-later nw st c.requires.valid c.args.train label there c.args.alight a first apart c.if-not-arrival.false ∙ c.loop-arrival.invariant.0, is-call nw st c.requires.valid c.args.train label there c.args.alight a first)
