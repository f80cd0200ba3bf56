use Rattle.commands.proofs.BegunAlike.{keeping-alike}
use Rattle.commands.proofs.own_loads.LoadPlansLoadBehindPlanSearch.networks_are_begun_alike.Goals as goal

pub returns : goal.returns
returns c = keeping-alike (λ asked. asked.rides)
