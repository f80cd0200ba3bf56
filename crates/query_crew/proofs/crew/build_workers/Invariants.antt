use Rattle.std.proofs.Common.{◌≡◌, ◌-◌, All, length, vec_len}
use Rattle.query_crew.specs.Keeping.{HaveViewers}
use Rattle.query_crew.proofs.crew.build_workers.Given as goal

abbrev pub invariant-loop : goal.invariant-loop
invariant-loop g l =
    (length l.all.items ≡ l.counter) × All (λ w. w.scratch.room ≡ record { stops = l.fn.stops; numbers = l.fn.numbers }) l.all.items
    × HaveViewers (vec_len l.fn.viewers) l.all.items × (vec_len l.viewers ≡ vec_len l.fn.viewers - l.counter)
