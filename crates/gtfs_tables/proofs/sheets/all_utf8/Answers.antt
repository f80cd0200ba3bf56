use Rattle.gtfs_tables.proofs.Words.{arith}
use Rattle.gtfs_tables.proofs.TextLemmas.{ascii-cut}
use Rattle.gtfs_tables.proofs.sheets.all_utf8.Goals as goal

pub returns-then-is_ascii : goal.returns-then-is_ascii
returns-then-is_ascii c = grind (arith, ascii-cut 0 c.args.fields.now.ends c.args.fields.now.bytes)
