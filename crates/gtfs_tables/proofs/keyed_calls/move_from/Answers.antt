use Rattle.gtfs_tables.proofs.Words.{◌++◌, sym, subst, arith}
use Rattle.gtfs_tables.proofs.KeyedLemmas.{Rise, below-last, moved, not-ge}
use Rattle.gtfs_tables.proofs.keyed_calls.move_from.Goals as goal

pub loop-last-preserved : goal.loop-last-preserved
loop-last-preserved c = grind (arith, moved c.loop-last.in_order.items c.loop-last.sorted.entries (c.args.in_order.now.items ++ c.args.sorted.now.entries) c.in-Some.last.now)

pub returns-else-ge-clause-below : goal.returns-else-ge-clause-below
returns-else-ge-clause-below c =
    let rises = subst Rise (sym c.loop-last.invariant) c.requires.rises in
    grind (arith, below-last c.loop-last.in_order.items c.loop-last.sorted.entries c.in-Some.last.now c.args.key, rises, not-ge c.in-Some.last.now.0 c.args.key)
