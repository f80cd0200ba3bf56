use Rattle.conn_scan.proofs.Words.{arith}
use Rattle.conn_scan.proofs.ChangeLemmas.{reached-within}
use Rattle.pareto_scan.proofs.level.arrive.Goals as goal

pub lower-requires-clause-times : goal.lower-requires-clause-times
lower-requires-clause-times c = rw c.reach.ensures (reached-within c.args.changes.now c.args.d.now.to _ (omega (arith, c.requires.room.times)))

pub lower-requires-clause-rides : goal.lower-requires-clause-rides
lower-requires-clause-rides c = rw c.reach.ensures (reached-within c.args.changes.now c.args.d.now.to _ (omega (arith, c.requires.room.rides)))
