use Rattle.waiting_rules.proofs.Words.{◌∙◌, lt-ltb, in_waiting}
use Rattle.waiting_rules.proofs.FlagLemmas.{waiting-more, waiting-step}
use Rattle.waiting_rules.proofs.waiting.add_waiting.Goals as goal

pub returns-in_ok-insert : goal.returns-in_ok-insert
returns-in_ok-insert c = λ rules h.
    waiting-more rules c.args.rule.now c.args.waiting.now c.insert.new.self h (λ q.
    c.in_ok-insert.ensures.updates.0 q ∙ waiting-step c.args.rule.now (in_waiting c.args.waiting.now q) q (lt-ltb 0 c.args.rule.now.max_wait c.if-rule-gt0.true))
