-- One more argument of a command.
use Rattle.std.proofs.Common.{◌≡◌, ◌∙◌, ap₂, false}
use Rattle.clap.specs.Words.{AddsArg, App, Rule, app_of, rule_of, with_rule}
use Rattle.clap.specs.declared.builder.arg.Arg.{Arg}
use Rattle.clap.specs.declared.builder.command.Command.{Command}

-- a command with one more argument, as clap reads both
pub added : {old new : Command} {arg : Arg} {app : App} {rule : Rule} → AddsArg old arg new → arg.global ≡ false → app_of old ≡ app → rule_of arg ≡ rule → app_of new ≡ with_rule app rule
added adds local app_is rule_is = adds.shape local ∙ ap₂ with_rule app_is rule_is
