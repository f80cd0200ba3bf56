use Rattle.std.proofs.Common.{subst, ◌∙◌, arith}
use Rattle.std.specs.List.{Contains}
use Rattle.std.proofs.lemmas.List.{get_or_default}
use Rattle.std.proofs.lemmas.List.Elements.{AllWithin-more}
use Rattle.mt_base.specs.declared.certificates.CertRide.{CertRide}
use Rattle.journey_watch.specs.Trains.{journeys_on}
use Rattle.journey_watch.proofs.trains.TrainJourneys.note_rides.Goals as goal

pub loop-ride-preserved : goal.loop-ride-preserved
loop-ride-preserved c =
    let P = λ (r : CertRide). Contains (journeys_on c.note.new.self r.train) c.args.journey in
    let rides = c.args.rides.now in
    let i = c.loop-ride.ride-index in (
      AllWithin-more P rides 0 i (λ k d low within. c.note.ensures.kept _ c.args.journey (c.loop-ride.invariant.0 k d low within))
          (λ d. subst P (c.ride-item.is ∙ get_or_default rides i c.ride-item.result d c.loop-ride-test.true) c.in_ok-note.ensures.added),
      λ other n there. c.note.ensures.kept other n (c.loop-ride.invariant.1 other n there),
    )

pub returns-clause-added : goal.returns-clause-added
returns-clause-added c = λ k d within. let past = c.loop-ride-test.false in c.loop-ride.invariant.0 k d (omega arith) (omega (arith, past, within))
