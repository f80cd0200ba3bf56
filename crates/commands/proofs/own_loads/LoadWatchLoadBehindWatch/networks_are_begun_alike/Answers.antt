use Rattle.commands.specs.OwnLoads.{none_watched}
use Rattle.commands.proofs.BegunAlike.{keeping-alike}
use Rattle.commands.proofs.own_loads.LoadWatchLoadBehindWatch.networks_are_begun_alike.Goals as goal

pub returns : goal.returns
returns c = keeping-alike (λ asked. none_watched)
