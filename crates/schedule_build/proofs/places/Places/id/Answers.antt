use Rattle.schedule_build.proofs.PlaceLemmas.{id-at}
use Rattle.schedule_build.proofs.places.Places.id.Goals as goal

pub returns : goal.returns
returns c =
    let a = c.self.inside in
    rw (← c.self.view_is, id-at a.ids a.kinds.items c.args.number c.self.invariant) c.name.ensures
