use Rattle.std.proofs.Common.{◌≡◌, ◌∙◌, [], true, ap, map, refl, string_bytes, subst}
use Rattle.std.specs.Result.{IfOk}
use Rattle.clap.specs.Words.{App, Text, fault_of, found_of, is_simple, is_simple_and_free, matches_of, rows_of}
use Rattle.clap.proofs.OnLiterals.{clap_on_literals}
use Rattle.command_words.specs.Commands.{app_for, command_app, plans_app}
use Rattle.command_words.specs.declared.words.Command.{Command}
use Rattle.command_words.specs.declared.words.Command.TheVariants.{Times, Serve, Check, Plans, Watch, Desk, Journal, Restart, Follow}
use Rattle.command_words.proofs.words.command_matches.Goals as goal

simple : (command : Command) (name : Text) → is_simple (app_for command name) ≡ true
unfolding command_app plans_app clap_on_literals
simple Times name = refl
simple Serve name = refl
simple Check name = refl
simple Plans name = refl
simple Watch name = refl
simple Desk name = refl
simple Journal name = refl
simple Restart name = refl
simple Follow name = refl

free : (command : Command) (name : Text) → is_simple_and_free (app_for command name) ≡ true
unfolding command_app plans_app clap_on_literals
free Times name = refl
free Serve name = refl
free Check name = refl
free Plans name = refl
free Watch name = refl
free Desk name = refl
free Journal name = refl
free Restart name = refl
free Follow name = refl

pub given_arguments-requires-clause-simple : goal.given_arguments-requires-clause-simple
given_arguments-requires-clause-simple c = ap is_simple c.in_ok-app_for.ensures ∙ simple c.args.command c.args.name.now

pub given_arguments-requires-clause-free : goal.given_arguments-requires-clause-free
given_arguments-requires-clause-free c = ap is_simple_and_free c.in_ok-app_for.ensures ∙ free c.args.command c.args.name.now

pub returns-clause-taken : goal.returns-clause-taken
returns-clause-taken c =
    subst (λ (a : App). IfOk c.given_arguments.result (λ _. fault_of a (map string_bytes c.args.words.now) ≡ [])) c.in_ok-app_for.ensures c.given_arguments.ensures.taken

pub returns-clause-values : goal.returns-clause-values
returns-clause-values c =
    subst (λ (a : App). IfOk c.given_arguments.result (λ m. rows_of (found_of m) ≡ matches_of a (map string_bytes c.args.words.now))) c.in_ok-app_for.ensures c.given_arguments.ensures.values

pub returns-clause-usage : goal.returns-clause-usage
returns-clause-usage c is none = c.given_arguments.ensures.usage is (ap (λ (a : App). fault_of a (map string_bytes c.args.words.now)) c.in_ok-app_for.ensures ∙ none)
