use Rattle.gtfs_tables.proofs.Words.{sym, fields_of}
use Rattle.csv.proofs.RecordFacts.{field-get}
use Rattle.gtfs_tables.proofs.Records.{field_missing}
use Rattle.gtfs_tables.proofs.sheets.field.Goals as goal

pub returns-in-Some : goal.returns-in-Some
returns-in-Some c = sym (field-get (fields_of c.args.fields.now) c.args.at _ (sym c.in-Some.ensures.value))

pub returns-in-None : goal.returns-in-None
returns-in-None c = sym (field_missing (fields_of c.args.fields.now) c.args.at (sym c.in-None.ensures.value))
