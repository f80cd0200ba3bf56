use Rattle.schedule_build.proofs.PlaceLemmas.{seen-rows}
use Rattle.schedule_build.proofs.places.Places.build.Goals as goal

pub returns : goal.returns
returns c = rw (c.in_ok-build.ensures, c.in_ok-ids.ensures, c.in_ok-kinds_of.ensures) (seen-rows c.args.rows.now)
