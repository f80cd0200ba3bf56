use Rattle.gtfs_tables.proofs.Words.{◌∙◌, ap, length, Ok, refl, arith, rows_from}
use Rattle.gtfs_tables.proofs.RowLemmas.{under_kept, rows-one}
use Rattle.gtfs_tables.proofs.builders.add_rows.Goals as goal

pub returns-in_err-advance-clause-made : goal.returns-in_err-advance-clause-made
unfolding rows_from
returns-in_err-advance-clause-made g c = λ header all under remains.
    let so = c.loop-table.invariant.so_far header all under remains in
    grind (arith, so, c.in_err-advance.ensures.advances so.0 so.1)

pub returns-clause-made : goal.returns-clause-made
unfolding rows_from
returns-clause-made g c = λ header all under remains.
    let so = c.loop-table.invariant.so_far header all under remains in
    let none = (rw c.if-branch.false at c.in_ok-advance.ensures.advances) so.0 so.1 in
    grind (arith, so, none)

pub returns-in_err-add_row-clause-made : goal.returns-in_err-add_row-clause-made
unfolding rows_from
returns-in_err-add_row-clause-made g c = λ header all under remains.
    let so = c.loop-table.invariant.so_far header all under remains in
    let next = (rw c.if-branch.true at c.in_ok-advance.ensures.advances) so.0 so.1 in
    grind (arith, so, next, c.in_err-add_row.ensures.made header)

pub loop-table-preserved : goal.loop-table-preserved
loop-table-preserved g c =
    let left = c.loop-table.invariant.few in
    let rest = (rw c.if-branch.true at c.in_ok-advance.ensures.advances) left.0 left.1 in
    record {
      rests = c.in_ok-advance.ensures.rests;
      few = (rest.0, rest.3, omega (arith, left.2, ap length rest.1));
      size = omega (arith, c.loop-table.invariant.size, c.in_ok-add_row.ensures.size);
      sound = c.in_ok-add_row.ensures.sound;
      given = c.add_row.ensures.given ∙ c.loop-table.invariant.given;
      width = c.in_ok-advance.ensures.width ∙ c.loop-table.invariant.width;
      places = c.in_ok-advance.ensures.places ∙ c.loop-table.invariant.places;
      so_far = λ header all under remains.
          let b = g.T.TableBuilder in
          let step = b.step (b.given c.args.table.now) in
          let so = c.loop-table.invariant.so_far header all under remains in
          let next = (rw c.if-branch.true at c.in_ok-advance.ensures.advances) so.0 so.1 in
          let there = under_kept header b.columns c.args.sheet.now c.advance.new.self (c.in_ok-advance.ensures.width ∙ c.loop-table.invariant.width) (c.in_ok-advance.ensures.places ∙ c.loop-table.invariant.places) under in
          let one = rows-one step header c.loop-table.row c.loop-table.sheet.width (b.made c.loop-table.table) _ so.0 next.0 (Ok tt) (c.loop-table.invariant.width ∙ under.width) next.1 next.2 in
          (next.0, next.3, rw (so.2, one, rw c.loop-table.invariant.given at (c.in_ok-add_row.ensures.made header there.places)) refl);
    }
