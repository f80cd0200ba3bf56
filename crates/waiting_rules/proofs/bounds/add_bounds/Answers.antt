use Rattle.waiting_rules.proofs.Words.{sym, ◌∙◌, connecting_of}
use Rattle.waiting_rules.proofs.BoundLemmas.{some-known, some-new}
use Rattle.waiting_rules.proofs.bounds.add_bounds.Goals as goal

pub returns-in_ok-insert : goal.returns-in_ok-insert
returns-in_ok-insert c = λ all rules waiting h.
    some-new all rules c.args.first_rules.now c.args.rule.now c.args.bounds.now c.insert.new.self c.bounds_of-part.result h c.in_ok-insert.ensures.updates.0
    (record { part = c.bounds_of-part.ensures.part; waits = c.bounds_of-part.ensures.waits ∙ c.contains.ensures ∙ waiting (connecting_of c.args.rule.now) })

pub returns-else-not-contains_key : goal.returns-else-not-contains_key
returns-else-not-contains_key c = λ all rules waiting h.
    some-known all rules c.args.first_rules.now c.args.rule.now c.args.bounds.now h (sym c.contains_key.ensures ∙ c.if-not-contains_key.false)
