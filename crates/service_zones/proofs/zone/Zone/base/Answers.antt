use Rattle.std.proofs.Common.{arith, ◌+◌, ◌≤◌}
use Rattle.std.proofs.lemmas.Int.{ints}
use Rattle.schedule_build.proofs.DateLemmas.{IsAfter, after-law}
use Rattle.service_zones.proofs.zone.Zone.base.Goals as goal

pub west-requires-clause-year : goal.west-requires-clause-year
west-requires-clause-year c =
    let law = after-law c.args.first c.args.day c.requires.civil (omega (arith, c.requires.year, c.requires.few)) in
    rw c.date_after.ensures.date (omega (arith, law.year))

pub returns-clause-value : goal.returns-clause-value
returns-clause-value c =
    let later = rw c.date_after.ensures.date at c.west.ensures.value in
    omega (arith, ints, later)
