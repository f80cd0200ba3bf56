use Rattle.std.proofs.lemmas.Result.{IfOk-weaker}
use Rattle.command_words.specs.Commands.{gen_app}
use Rattle.command_words.proofs.Adding.{added}
use Rattle.command_words.proofs.command.gen_command.Goals as goal

pub returns : goal.returns
unfolding gen_app
returns c =
    let trains = added c.in_ok-arg.ensures c.trains_argument.ensures.local c.bare_command.ensures c.trains_argument.ensures.rule in
    IfOk-weaker c.arg-2.result _ _ (λ r adds. added adds c.option.ensures.local trains c.option.ensures.rule) c.arg-2.ensures
