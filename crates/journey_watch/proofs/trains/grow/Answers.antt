use Rattle.std.proofs.Common.{◌∙◌}
use Rattle.journey_watch.proofs.TrainLemmas.{on-grown}
use Rattle.journey_watch.proofs.trains.grow.Goals as goal

pub loop-alloc-preserved : goal.loop-alloc-preserved
loop-alloc-preserved c = λ train. on-grown c.loop-alloc.rows.items c.push.new.self.items c.new.result c.new.ensures.items c.in_ok-push.ensures.items train ∙ c.loop-alloc.invariant train
