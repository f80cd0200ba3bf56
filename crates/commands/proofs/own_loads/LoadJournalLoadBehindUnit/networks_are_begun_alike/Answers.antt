use Rattle.commands.proofs.BegunAlike.{journal-alike}
use Rattle.commands.proofs.own_loads.LoadJournalLoadBehindUnit.networks_are_begun_alike.Goals as goal

pub returns : goal.returns
returns c = journal-alike
