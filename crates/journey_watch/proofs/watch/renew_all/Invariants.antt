use Rattle.std.proofs.Common.{drop}
use Rattle.journey_watch.proofs.WatchLemmas.{IsBeingRenewed}
use Rattle.journey_watch.proofs.watch.renew_all.Given as goal

abbrev pub invariant-loop-place : goal.invariant-loop-place
invariant-loop-place g l =
    IsBeingRenewed l.t.network l.t.state l.t.changed l.trains l.initial.journeys.items l.journeys.items l.alerts.items (drop l.place-index l.due) l.initial.steps l.steps
