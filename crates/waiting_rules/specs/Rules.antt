-- What waiting rules are for, and whether they let trains wait.
use Rattle.std.specs.Prelude.{ℕ, Bool, ◌&&◌, ◌||◌, nat_lt, List, fold, max}
use Rattle.mt_base.specs.declared.tables.RuleRow.{RuleRow}
use Rattle.delay_model.specs.Waits.{is_empty_or}

-- the rule is for trains of a route at a stop or its station
abbrev pub makes_wait : ℕ → ℕ → ℕ → RuleRow → Bool
makes_wait route stop station rule =
    is_empty_or rule.connecting route
    && (is_empty_or rule.stop stop || is_empty_or rule.stop station)

-- the rule is for a feeder's route and for trains of a route at a stop or its station
abbrev pub is_for : ℕ → ℕ → ℕ → ℕ → RuleRow → Bool
is_for feeder route stop station rule =
    is_empty_or rule.feeder feeder && makes_wait route stop station rule

-- the rule has a wait above 0
abbrev pub has_wait : RuleRow → Bool
has_wait rule = nat_lt 0 rule.max_wait

-- the longest wait of any rule in seconds, 0 without rules
abbrev pub longest_wait : List RuleRow → ℕ
longest_wait rules = fold (λ longest rule. max longest rule.max_wait) 0 rules
