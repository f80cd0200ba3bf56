use Rattle.journal_lines.specs.Lines.{text_of_head}
use Rattle.commands.specs.OwnLoads.{head_of}
use Rattle.commands.proofs.BegunAlike.{keeping-alike}
use Rattle.commands.proofs.own_loads.LoadHeaderLoadBehindHeaderText.networks_are_begun_alike.Goals as goal

pub returns : goal.returns
returns c = keeping-alike (λ asked. text_of_head (head_of asked))
