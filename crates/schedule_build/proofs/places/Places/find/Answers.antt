use Rattle.schedule_build.proofs.PlaceLemmas.{place-number}
use Rattle.schedule_build.proofs.places.Places.find.Goals as goal

pub returns : goal.returns
returns c =
    let a = c.self.inside in
    rw (← c.self.view_is, place-number a.ids a.kinds.items c.args.id.now c.self.invariant) c.find.ensures.number
