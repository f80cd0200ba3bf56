use Rattle.connection_choices.proofs.Words.{rules, filter_same}
use Rattle.connection_choices.proofs.override_table.retain.Goals as goal

pub returns-clause-items : goal.returns-clause-items
returns-clause-items g c = filter_same _ _ _ (λ x b f' k. search rules) _ _ c.retain.ensures.items
