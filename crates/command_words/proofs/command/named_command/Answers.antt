use Rattle.std.proofs.lemmas.Result.{IfOk-weaker}
use Rattle.command_words.specs.Commands.{command_app}
use Rattle.command_words.proofs.Adding.{added}
use Rattle.command_words.proofs.command.named_command.Goals as goal

pub returns : goal.returns
unfolding command_app
returns c =
    let feed = added c.in_ok-arg.ensures c.feed_argument.ensures.local c.bare_command.ensures c.feed_argument.ensures.rule in
    let from_date = added c.in_ok-arg-2.ensures c.from_option.ensures.local feed c.from_option.ensures.rule in
    let days = added c.in_ok-arg-3.ensures c.option.ensures.local from_date c.option.ensures.rule in
    let slack = added c.in_ok-arg-4.ensures c.option-2.ensures.local days c.option-2.ensures.rule in
    let stop = added c.in_ok-arg-5.ensures c.option-3.ensures.local slack c.option-3.ensures.rule in
    let change = added c.in_ok-arg-6.ensures c.option-4.ensures.local stop c.option-4.ensures.rule in
    let window = added c.in_ok-arg-7.ensures c.option-5.ensures.local change c.option-5.ensures.rule in
    let spare_trains = added c.in_ok-arg-8.ensures c.option-6.ensures.local window c.option-6.ensures.rule in
    let spare_calls = added c.in_ok-arg-9.ensures c.option-7.ensures.local spare_trains c.option-7.ensures.rule in
    let overrides = added c.in_ok-arg-10.ensures c.option-8.ensures.local spare_calls c.option-8.ensures.rule in
    let workers = added c.in_ok-arg-11.ensures c.option-9.ensures.local overrides c.option-9.ensures.rule in
    IfOk-weaker c.arg-12.result _ _ (λ r adds. added adds c.zone_option.ensures.local workers c.zone_option.ensures.rule) c.arg-12.ensures
