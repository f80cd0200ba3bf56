use Rattle.std.proofs.Common.{◌≡◌, ◌∙◌, true, ap, refl}
use Rattle.clap.specs.Words.{is_simple, is_simple_and_free}
use Rattle.clap.proofs.OnLiterals.{clap_on_literals}
use Rattle.command_words.specs.Commands.{gen_app}
use Rattle.command_words.proofs.gen_words.gen_matches.Goals as goal

simple : is_simple gen_app ≡ true
unfolding gen_app clap_on_literals
simple = refl

free : is_simple_and_free gen_app ≡ true
unfolding gen_app clap_on_literals
free = refl

pub given_arguments-requires-clause-simple : goal.given_arguments-requires-clause-simple
given_arguments-requires-clause-simple c = ap is_simple c.in_ok-gen_command.ensures ∙ simple

pub given_arguments-requires-clause-free : goal.given_arguments-requires-clause-free
given_arguments-requires-clause-free c = ap is_simple_and_free c.in_ok-gen_command.ensures ∙ free
