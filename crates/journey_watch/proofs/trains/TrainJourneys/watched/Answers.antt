use Rattle.std.proofs.Common.{subst}
use Rattle.std.specs.List.{Contains}
use Rattle.journey_watch.proofs.trains.TrainJourneys.watched.Goals as goal

pub returns-clause-only : goal.returns-clause-only
returns-clause-only c = λ n there. subst (λ l. Contains l n) c.in_ok-trains.ensures (c.sort_once.ensures.only n there)
