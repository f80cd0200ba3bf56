use Rattle.std.proofs.Common.{◌∙◌, ap, sym, arith}
use Rattle.information_service.specs.ServiceState.{ServiceState}
use Rattle.information_service.proofs.OneMore.{few-message}
use Rattle.message_reader.specs.Resolved.{resolved}
use Rattle.journal_answers.proofs.Accepting.{not-counted, one-counted}
use Rattle.journal_answers.proofs.lines.message_text.Goals as goal

pub returns-then-count-before-clause-text : goal.returns-then-count-before-clause-text
returns-then-count-before-clause-text c =
    let next = (c.in_ok-answer_said.ensures).next in
    let behind = c.count.ensures ∙ ap (λ (t : ServiceState). t.count) next in
    let same = c.if-count-before.true ∙ c.count-before.ensures in
    c.new.ensures.items ∙ sym (not-counted c.args.service.now c.args.message c.count.result behind same)

pub returns-clause-text : goal.returns-clause-text
returns-clause-text c =
    let next = (c.in_ok-answer_said.ensures).next in
    c.in_ok-text.ensures ∙ sym (one-counted c.args.service.now c.args.message c.count.result (c.count.ensures ∙ ap (λ (t : ServiceState). t.count) next)
    (λ same. c.if-count-before.false (same ∙ sym c.count-before.ensures)))

pub returns-clause-count : goal.returns-clause-count
returns-clause-count c =
    omega (arith, ap (λ (t : ServiceState). t.count) (c.in_ok-answer_said.ensures).next, few-message c.args.service.now c.args.message (resolved c.args.service.now.names c.args.message))
