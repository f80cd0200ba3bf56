use Rattle.gtfs_tables.proofs.Words.{None, arith}
use Rattle.std.proofs.lemmas.List.{get_or_default}
use Rattle.gtfs_tables.proofs.sheets.Sheet.field.Goals as goal

pub returns-in-Some : goal.returns-in-Some
returns-in-Some c = grind (arith, get_or_default c.args.self.now.places.items c.args.i None c.index.result.now)

pub returns-in-None : goal.returns-in-None
returns-in-None c = grind (arith, get_or_default c.args.self.now.places.items c.args.i None c.index.result.now)
