use Rattle.gtfs_tables.proofs.Words.{arith}
use Rattle.gtfs_tables.proofs.sheets.Sheet.advance.Goals as goal

pub returns-then-not-branch-clause-advances : goal.returns-then-not-branch-clause-advances
returns-then-not-branch-clause-advances c = rw c.if-not-branch.true at c.in_ok-next_record.ensures.steps

pub returns-in_err-check_row-clause-advances : goal.returns-in_err-check_row-clause-advances
returns-in_err-check_row-clause-advances c = λ all remains.
    let split = (rw c.if-not-branch.false at c.in_ok-next_record.ensures.steps) all remains in
    grind (arith, split)

pub returns-clause-advances : goal.returns-clause-advances
returns-clause-advances c = λ all remains.
    let split = (rw c.if-not-branch.false at c.in_ok-next_record.ensures.steps) all remains in
    (split.0, split.1, c.in_ok-check_row.ensures, split.2)
