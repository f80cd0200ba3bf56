use Rattle.gtfs_tables.proofs.Words.{fields_of}
use Rattle.gtfs_tables.proofs.Records.{stepped}
use Rattle.gtfs_tables.proofs.sheets.next_record.Goals as goal

pub returns-clause-steps : goal.returns-clause-steps
returns-clause-steps c =
    stepped c.args.reader.now c.read_byte_record.new.self c.in-Ok.found (fields_of c.read_byte_record.new.row) c.requires.config (c.in-Ok.ensures.reads c.requires.trim c.requires.ready)
