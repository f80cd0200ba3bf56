use Rattle.std.proofs.Common.{false, refl, ◌∙◌, ap}
use Rattle.std.proofs.lemmas.Bool.{both_ways}
use Rattle.journey_cert.specs.Stops.{are_good_from}
use Rattle.journey_cert.proofs.StopLemmas.{stops-good, stops-refused}
use Rattle.journey_cert.proofs.checking.check.Goals as goal

pub returns-then-not-are_good_stops-clause-good : goal.returns-then-not-are_good_stops-clause-good
returns-then-not-are_good_stops-clause-good g c =
    let nw = c.args.t.now.network in
    let list = c.args.c.now.reached in
    let is = c.are_good_stops.ensures ∙ ap (are_good_from nw c.args.q.now c.args.c.now.arrives 0) c.as_slice-reached.ensures in
    ((λ told. absurd (both_ways false refl told)), (λ good. absurd (stops-refused nw c.args.q.now c.args.c.now.arrives list c.are_good_stops.result is c.if-not-are_good_stops.true good.early good.elsewhere)))

pub returns-then-not-has_journey-clause-good : goal.returns-then-not-has_journey-clause-good
returns-then-not-has_journey-clause-good g c =
    ((λ told. absurd (both_ways false refl told)), (λ good. absurd (both_ways c.has_journey.result c.if-not-has_journey.true (c.has_journey.ensures.all good.journey.0 good.journey.1))))

pub has_arrivals-requires-clause-early : goal.has_arrivals-requires-clause-early
has_arrivals-requires-clause-early g c =
    (stops-good c.args.t.now.network c.args.q.now c.args.c.now.arrives c.as_slice-reached.result.now c.are_good_stops.result c.are_good_stops.ensures c.if-not-are_good_stops.false).0

pub returns-clause-good : goal.returns-clause-good
returns-clause-good g c =
    let nw = c.args.t.now.network in
    let st = c.args.t.now.state in
    let q = c.args.q.now in
    let best = c.args.c.now.arrives in
    let list = c.args.c.now.reached in
    let is = c.are_good_stops.ensures ∙ ap (are_good_from nw q best 0) c.as_slice-reached.ensures in
    let stops = stops-good nw q best list c.are_good_stops.result is c.if-not-are_good_stops.false in
    let says = rw c.as_slice-reached.ensures at c.has_arrivals.ensures.arrivals in (
      (λ told. record {
        early = stops.0;
        journey = (c.has_journey.ensures.rides c.if-not-has_journey.false, c.has_journey.ensures.at_once c.if-not-has_journey.false);
        arrivals = says.0 told;
        elsewhere = stops.1;
      }),
      (λ good. says.1 good.arrivals),
    )
