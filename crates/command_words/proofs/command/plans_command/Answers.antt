use Rattle.std.proofs.lemmas.Result.{IfOk-weaker}
use Rattle.command_words.specs.Commands.{plans_app}
use Rattle.command_words.proofs.Adding.{added}
use Rattle.command_words.proofs.command.plans_command.Goals as goal

pub returns : goal.returns
unfolding plans_app
returns c = IfOk-weaker c.arg.result _ _ (λ r adds. added adds c.option.ensures.local c.in_ok-named_command.ensures c.option.ensures.rule) c.arg.ensures
