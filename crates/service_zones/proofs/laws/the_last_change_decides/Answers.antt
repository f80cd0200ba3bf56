use Rattle.std.proofs.Common.{pos}
use Rattle.schedule_build.specs.Dates.{year_of}
use Rattle.service_zones.specs.Changes.{noon, hours_near}
use Rattle.service_zones.proofs.LastLemmas.{last-start, start-lasts}
use Rattle.service_zones.proofs.laws.the_last_change_decides.Goals as goal

pub returns : goal.returns
returns c =
    let year = pos (year_of c.args.date) in
    let starts = hours_near year c.args.summer.now.start in
    let ends = hours_near year c.args.summer.now.end in
    (last-start starts ends (noon c.args.date), λ last. start-lasts starts ends (noon c.args.date) last.0 last.1)
