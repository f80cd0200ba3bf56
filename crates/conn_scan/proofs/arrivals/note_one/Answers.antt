use Rattle.conn_scan.proofs.Words.{Some, length, refl, ◌∙◌, ap, arith, length-set, None, Openings}
use Rattle.conn_scan.proofs.ChangeLemmas.{reached-within}
use Rattle.conn_scan.proofs.OpeningsLemmas.{length-lowered_rides, length-lowered_times}
use Rattle.conn_scan.proofs.arrivals.note_one.Goals as goal

pub lower-requires-clause-times : goal.lower-requires-clause-times
lower-requires-clause-times c = rw c.reach.ensures (reached-within c.args.changes.now c.args.x.now.stop _ (omega (arith, c.requires.room.times)))

pub lower-requires-clause-rides : goal.lower-requires-clause-rides
lower-requires-clause-rides c = rw c.reach.ensures (reached-within c.args.changes.now c.args.x.now.stop _ (omega (arith, c.requires.room.rides)))

pub returns-clause-room : goal.returns-clause-room
returns-clause-room c =
    let x = c.args.x.now in
    let k = c.args.known.now in
    let cs = c.reach.result.now in
    record {
      held = ap length c.set.ensures ∙ length-set k.held x.stop (Some x.time);
      times = ap (λ (ls : Openings). length ls.times) c.lower.ensures ∙ length-lowered_times x.time None cs k.openings;
      rides = ap (λ (ls : Openings). length ls.rides) c.lower.ensures ∙ length-lowered_rides x.time None cs k.openings;
      aboard = refl;
    }
