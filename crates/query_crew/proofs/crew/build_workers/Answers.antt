use Rattle.std.proofs.Common.{◌∷◌, [], arith, ap, length, length-append, vec_len}
use Rattle.query_crew.proofs.Building.{room-more}
use Rattle.query_crew.proofs.Keeping.{one-less, taken-out, viewers-more}
use Rattle.query_crew.proofs.crew.build_workers.Goals as goal

pub loop-preserved : goal.loop-preserved
loop-preserved g c =
    let w = c.in_ok-build.field-0 in
    let inv = c.loop.invariant in
    let viewer = taken-out c.pop.result (vec_len c.args.viewers.now) (vec_len c.loop.viewers) c.loop.counter c.pop.ensures.variant inv.3 in (
      omega (arith, ap length c.in_ok-push.ensures.items, length-append c.loop.all.items (w ∷ []), inv.0),
      rw c.in_ok-push.ensures.items (room-more c.loop.all.items w (record { stops = c.args.stops; numbers = c.args.numbers }) inv.1 c.in_ok-build.ensures.room),
      rw c.in_ok-push.ensures.items (viewers-more (vec_len c.args.viewers.now) c.loop.all.items w inv.2 (rw (c.in_ok-build.ensures.viewer, inv.0) viewer)),
      omega (arith, one-less c.pop.result (vec_len c.loop.viewers) (vec_len c.pop.new.self) c.pop.ensures.cases, inv.3),
    )
