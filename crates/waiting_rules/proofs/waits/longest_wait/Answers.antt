use Rattle.waiting_rules.proofs.Words.{rules, ap, ◌∙◌, unwrap_or, RuleRow}
use Rattle.std.proofs.lemmas.Iterator.{YieldsList-from_slice, YieldsList-from_map}
use Rattle.std.proofs.lemmas.Iterator.Consumers.{reduce_from_yields_List}
use Rattle.std.proofs.lemmas.List.Folds.{max_of_map}
use Rattle.waiting_rules.proofs.waits.longest_wait.Goals as goal

pub returns : goal.returns
returns c =
    let all = c.args.rules.now in
    c.unwrap_or.ensures ∙ ap (λ o. unwrap_or o 0) (reduce_from_yields_List _ c.map.result _ c.max.ensures.ran (YieldsList-from_map _ (λ (rule : RuleRow). rule.max_wait) (YieldsList-from_slice all cc) c.map.ensures.closure (λ x b q k. search rules)))
    ∙ max_of_map (λ (rule : RuleRow). rule.max_wait) all
