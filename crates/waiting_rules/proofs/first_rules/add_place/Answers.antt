use Rattle.waiting_rules.proofs.Words.{◌∙◌, sym}
use Rattle.waiting_rules.proofs.PlaceLemmas.{places-known, places-new}
use Rattle.waiting_rules.proofs.first_rules.add_place.Goals as goal

pub returns-in_ok-insert-clause-places : goal.returns-in_ok-insert-clause-places
returns-in_ok-insert-clause-places c = λ rules at h.
    places-new rules c.args.rule.now c.args.places.now c.insert.new.self h (sym c.contains_key.ensures ∙ c.if-not-contains_key.true) (λ q. rw at at (c.in_ok-insert.ensures.updates.0 q))

pub returns-else-not-contains_key-clause-places : goal.returns-else-not-contains_key-clause-places
returns-else-not-contains_key-clause-places c = λ rules at h.
    places-known rules c.args.rule.now c.args.places.now h (sym c.contains_key.ensures ∙ c.if-not-contains_key.false)
