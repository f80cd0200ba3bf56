use Rattle.std.proofs.Common.{◌≡◌, drop}
use Rattle.std.specs.List.{fold, filter}
use Rattle.mt_base.specs.Order.{is_same}
use Rattle.delay_model.specs.Timing.{later, floor_of, time_at}
use Rattle.delay_model.proofs.evaluate.latest.Given as goal

abbrev pub invariant-loop-e : goal.invariant-loop-e
invariant-loop-e l = fold (later (time_at l.times)) l.latest (filter (λ e. is_same e.to l.v.key) (drop l.e-index l.edges)) ≡ fold (later (time_at l.times)) (floor_of l.v) (filter (λ e. is_same e.to l.v.key) l.edges)
