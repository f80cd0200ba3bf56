use Rattle.gtfs_tables.proofs.Words.{sym, arith, is_utf8-from_IsUtf8, IsUtf8-from_is_utf8}
use Rattle.gtfs_tables.proofs.sheets.is_text.Goals as goal

pub returns-in-Ok : goal.returns-in-Ok
returns-in-Ok c = sym (is_utf8-from_IsUtf8 c.args.bytes.now c.in-Ok.ensures.cases.1)

pub returns-in-Err : goal.returns-in-Err
returns-in-Err c = grind (arith, c.in-Err.ensures.cases.0, IsUtf8-from_is_utf8 c.args.bytes.now)
