use Rattle.conn_scan.proofs.Words.{◌≤◌, None, length, sym, ◌∙◌, ap, subst, arith, length-replicate, Known}
use Rattle.conn_scan.proofs.ChangeLemmas.{reached-within}
use Rattle.conn_scan.proofs.OpeningsLemmas.{length-lowered_rides, length-lowered_times}
use Rattle.conn_scan.proofs.known.begin.Goals as goal

pub lower-requires-clause-times : goal.lower-requires-clause-times
lower-requires-clause-times c =
    let size = ap (λ (k : Known). length k.openings.times) c.clear.ensures ∙ length-replicate (length c.args.known.now.openings.times) None in
    rw c.reach-onward.ensures (reached-within c.args.changes.now c.args.asked.now.query.from_stop _ (omega (arith, size, c.requires.room.times)))

pub lower-requires-clause-rides : goal.lower-requires-clause-rides
lower-requires-clause-rides c =
    let size = ap (λ (k : Known). length k.openings.rides) c.clear.ensures in
    rw c.reach-onward.ensures (reached-within c.args.changes.now c.args.asked.now.query.from_stop _ (omega (arith, size, c.requires.room.rides)))

pub open_origin-requires-clause-times : goal.open_origin-requires-clause-times
open_origin-requires-clause-times c =
    let size = ap length (λ i. (c.lower.ensures i).times) ∙ length-lowered_times c.args.asked.now.query.time None c.reach-onward.result.now c.clear.new.known.openings ∙ ap (λ (k : Known). length k.openings.times) c.clear.ensures ∙ length-replicate (length c.args.known.now.openings.times) None in
    omega (arith, size, c.requires.room.times)

pub open_origin-requires-clause-rides : goal.open_origin-requires-clause-rides
open_origin-requires-clause-rides c =
    let size = ap length (λ i. (c.lower.ensures i).rides) ∙ length-lowered_rides c.args.asked.now.query.time None c.reach-onward.result.now c.clear.new.known.openings ∙ ap (λ (k : Known). length k.openings.rides) c.clear.ensures in
    omega (arith, size, c.requires.room.rides)
