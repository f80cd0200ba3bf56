use Rattle.conn_scan.proofs.Words.{None, length, ◌∙◌, ap, arith, length-replicate}
use Rattle.conn_scan.specs.declared.openings.Openings.{Openings}
use Rattle.conn_scan.proofs.ChangeLemmas.{reached-within}
use Rattle.conn_scan.proofs.OpeningsLemmas.{length-lowered_rides, length-lowered_times}
use Rattle.pareto_scan.proofs.begin.begin_level.Goals as goal

pub lower-requires-clause-times : goal.lower-requires-clause-times
lower-requires-clause-times c =
    let size = ap length c.clear.ensures ∙ length-replicate (length c.args.level.now.openings.times) None in
    rw c.reach-onward.ensures (reached-within c.args.changes.now c.args.asked.now.query.from_stop _ (omega (arith, size, c.requires.room.times)))

pub lower-requires-clause-rides : goal.lower-requires-clause-rides
lower-requires-clause-rides c = rw c.reach-onward.ensures (reached-within c.args.changes.now c.args.asked.now.query.from_stop _ (omega (arith, c.requires.room.rides)))

pub open_origin-requires-clause-times : goal.open_origin-requires-clause-times
open_origin-requires-clause-times c =
    let size = ap (λ (o : Openings). length o.times) c.lower.ensures ∙ length-lowered_times c.args.asked.now.query.time None c.reach-onward.result.now
    (record { times = c.clear.new.self; rides = c.args.level.now.openings.rides })
    ∙ ap length c.clear.ensures ∙ length-replicate (length c.args.level.now.openings.times) None in
    omega (arith, size, c.requires.room.times)

pub open_origin-requires-clause-rides : goal.open_origin-requires-clause-rides
open_origin-requires-clause-rides c =
    let size = ap (λ (o : Openings). length o.rides) c.lower.ensures ∙ length-lowered_rides c.args.asked.now.query.time None c.reach-onward.result.now
    (record { times = c.clear.new.self; rides = c.args.level.now.openings.rides }) in
    omega (arith, size, c.requires.room.rides)
