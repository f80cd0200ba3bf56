use Rattle.std.proofs.Common.{◌≡◌, length, subst, sym, ◌∙◌, ap, arith}
use Rattle.std.proofs.lemmas.List.{length-map}
use Rattle.journey_laws.specs.Certificates.{name_of}
use Rattle.journey_watch.proofs.DueLemmas.{beside-more}
use Rattle.journey_watch.specs.Trains.{AreBesideTrains}
use Rattle.journey_watch.proofs.watch.Watch.add.Goals as goal

pub invariant_of-self-2 : goal.invariant_of-self-2
invariant_of-self-2 c =
    let len = c.len.ensures in
    let fits = c.self.invariant.fits in
    let full = c.if-len-self.false in
    let few = c.if-rides.false in
    let place : c.len-place.result ≡ length c.self.inside.journeys.items = let e = c.len-place.ensures in omega (arith, e) in
    let size : length c.in_ok-names.names ≡ length c.args.rides.now = ap length c.in_ok-names.ensures ∙ length-map c.args.rides.now name_of in
    subst (λ ws. AreBesideTrains c.self.inside.room c.note_rides.new.self ws) (sym c.in_ok-push.ensures.items)
    (beside-more c.self.inside.room c.self.inside.trains c.note_rides.new.self c.self.inside.journeys.items _ c.self.invariant (omega (arith, len, fits, full)) c.note_rides.ensures.kept
    (rw (← c.as_slice.ensures) (rw place at c.in_ok-note_rides.ensures.added)) (omega (arith, size, few)))
