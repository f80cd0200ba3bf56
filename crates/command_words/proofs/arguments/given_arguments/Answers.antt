use Rattle.std.proofs.Common.{◌∙◌, [], subst, ⊎_elim}
use Rattle.clap.specs.Words.{IsAmong, Kinds, kind_of}
use Rattle.command_words.proofs.arguments.given_arguments.Goals as goal

pub returns-in-Ok-clause-taken : goal.returns-in-Ok-clause-taken
returns-in-Ok-clause-taken c = c.in-Ok.ensures.kinds c.requires.free

pub returns-in-Ok-clause-values : goal.returns-in-Ok-clause-values
returns-in-Ok-clause-values c = (c.in-Ok.ensures.matches c.requires.simple).0

pub returns : goal.returns
returns c = record {
  taken = tt;
  values = tt;
  usage = λ is none. ⊎_elim
      (λ memory. c.in_default.not-OutOfMemory (c.kind.ensures ∙ memory))
      (λ among. let no : IsAmong (kind_of c.in-Err.error) [] = subst (λ (kinds : Kinds). IsAmong (kind_of c.in-Err.error) kinds) none among in no)
      (c.in-Err.ensures.kinds c.requires.free);
}
