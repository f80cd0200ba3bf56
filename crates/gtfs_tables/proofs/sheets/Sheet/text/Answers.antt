use Rattle.gtfs_tables.proofs.Words.{sym, subst, get_or, None, IsUtf8, fields_of}
use Rattle.gtfs_tables.proofs.TextLemmas.{cell_text}
use Rattle.gtfs_tables.proofs.sheets.Sheet.text.Goals as goal

pub returns-in-Err : goal.returns-in-Err
returns-in-Err c =
    absurd (c.in-Err.ensures.cases.0 (subst IsUtf8 (sym c.field.ensures) (cell_text (fields_of c.args.self.now.current) (get_or c.args.self.now.places.items c.args.i None) c.requires.text)))
