use Rattle.std.proofs.Common.{◌≡◌, to_z, of_z, w16, arith}
use Rattle.std.proofs.lemmas.Int.{ints}
use Rattle.service_zones.specs.Changes.{hour_in}
use Rattle.service_zones.proofs.changes.Change.hour_in.Goals as goal

pub returns : goal.returns
unfolding hour_in
returns c =
    let year : to_z w16 (of_z w16 c.args.year) ≡ c.args.year = omega (arith, ints) in
    let day = rw year at c.date_in.ensures in
    omega (arith, ints, day, c.to_unix_epoch_day.ensures.value, c.from.ensures)
