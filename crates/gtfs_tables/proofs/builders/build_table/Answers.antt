use Rattle.gtfs_tables.proofs.Words.{arith, table_from}
use Rattle.gtfs_tables.proofs.builders.build_table.Goals as goal

pub returns-in_err-sheet-clause-made : goal.returns-in_err-sheet-clause-made
unfolding table_from
returns-in_err-sheet-clause-made g c = λ all are. grind (arith, c.in_err-sheet.ensures.opens all are)

pub returns-clause-made : goal.returns-clause-made
unfolding table_from
returns-clause-made g c = λ all are.
    let opened = c.in_ok-sheet.ensures.opens all are in
    let under = rw c.requires.columns at opened.3 in
    grind (arith, opened, c.add_rows.ensures.made opened.0 opened.1 under opened.4)
