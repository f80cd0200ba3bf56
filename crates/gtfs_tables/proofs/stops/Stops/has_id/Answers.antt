use Rattle.gtfs_tables.proofs.Words.{arith, StopRow}
use Rattle.gtfs_tables.proofs.NumberLemmas.{place}
use Rattle.gtfs_tables.proofs.stops.Stops.has_id.Goals as goal

pub returns-in-Some : goal.returns-in-Some
returns-in-Some c =
    let there = place (λ (row : StopRow). row.id) c.self.inside.rows.items c.args.number c.in-Some.row.now c.args.id.now in
    grind (arith, there)
