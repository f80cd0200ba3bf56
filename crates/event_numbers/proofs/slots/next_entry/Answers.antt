use Rattle.event_numbers.proofs.Words.{◌-◌, arith, refl}
use Rattle.event_numbers.proofs.LinkLemmas.{links, next-link}
use Rattle.event_numbers.proofs.slots.next_entry.Goals as goal

pub jump_from-requires-clause-there : goal.jump_from-requires-clause-there
jump_from-requires-clause-there c = grind (arith, links, c.requires.last (c.args.row.now.added - 1))

pub returns-then-row-eq0-clause-link : goal.returns-then-row-eq0-clause-link
returns-then-row-eq0-clause-link c = next-link _ _ c.requires.count (λ m is. absurd (omega arith)) (λ some. absurd (omega arith)) (λ _. refl)

pub returns-clause-link : goal.returns-clause-link
returns-clause-link c = next-link _ _ c.requires.count c.requires.last (λ some. grind (arith, c.requires.last, c.jump_from.ensures c.args.t (c.args.row.now.added - 1))) (λ none. absurd (omega arith))
