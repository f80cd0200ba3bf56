use Rattle.gtfs_tables.proofs.Words.{arith}
use Rattle.gtfs_tables.proofs.NumberLemmas.{name-place}
use Rattle.gtfs_tables.proofs.numbering.Numbering.find.Goals as goal

pub returns-in-Some : goal.returns-in-Some
returns-in-Some c = grind (arith, name-place c.args.self.now.names.items c.args.self.now.last c.in-Some.last.now c.args.name.now c.requires.distinct)
