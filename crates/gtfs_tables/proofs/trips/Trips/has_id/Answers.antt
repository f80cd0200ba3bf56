use Rattle.gtfs_tables.proofs.Words.{arith, TripRow}
use Rattle.gtfs_tables.proofs.NumberLemmas.{place}
use Rattle.gtfs_tables.proofs.trips.Trips.has_id.Goals as goal

pub returns-in-Some : goal.returns-in-Some
returns-in-Some c =
    let there = place (λ (row : TripRow). row.id) c.self.inside.table.rows.items c.args.number c.in-Some.row.now c.args.id.now in
    grind (arith, there)
