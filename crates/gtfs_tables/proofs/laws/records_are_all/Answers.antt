use Rattle.gtfs_tables.proofs.TextRecords.{records_are}
use Rattle.gtfs_tables.proofs.laws.records_are_all.Goals as goal

pub returns : goal.returns
returns c = records_are c.args.text.now
