use Rattle.std.proofs.Common.{◌∙◌, ℕ, List, Option, ap, sym, string_bytes}
use Rattle.std.specs.Option.{unwrap_or}
use Rattle.command_words.specs.declared.words.Command.{Command}
use Rattle.command_words.specs.declared.words.Command.TheVariants.{Serve}
use Rattle.command_words.specs.Words.{command_of}
use Rattle.commands.proofs.Named.{named-first, named-none}
use Rattle.commands.proofs.run.command_for.Goals as goal

pub returns-in-empty : goal.returns-in-empty
returns-in-empty c = sym (named-none string_bytes c.args.words.now c.in-empty.len_below)

pub returns-in-len1-up : goal.returns-in-len1-up
returns-in-len1-up c =
    c.unwrap_or.ensures
    ∙ ap (λ (o : Option Command). unwrap_or o Serve) c.named.ensures
    ∙ ap (λ (bytes : List ℕ). unwrap_or (command_of bytes) Serve) c.as_str.ensures.value
    ∙ sym (named-first string_bytes c.args.words.now c.name-item.result c.in-len1-up.len_at_least c.name-item.is)
