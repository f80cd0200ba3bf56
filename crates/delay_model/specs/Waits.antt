-- How long a train waits for a late feeder, by waiting_rules.txt.
use Rattle.std.specs.Prelude.{ℕ, List, Bool, true, ◌&&◌, ◌||◌, nat_eq, Option, find}
use Rattle.std.specs.Option.{option_map_or}
use Rattle.mt_base.specs.declared.tables.StopRow.{StopRow}
use Rattle.mt_base.specs.declared.tables.RuleRow.{RuleRow}
use Rattle.delay_model.specs.Changes.{station}

-- a field of a rule is empty, or it is this number
abbrev pub is_empty_or : Option ℕ → ℕ → Bool
is_empty_or field n = option_map_or (λ m. nat_eq m n) field true

-- the rule is for this feeder's route, this connecting route, and the connecting train's stop or
-- its station
abbrev pub is_rule_for : List StopRow → ℕ → ℕ → ℕ → RuleRow → Bool
is_rule_for stops feeder connecting stop rule =
    is_empty_or rule.feeder feeder
    && (is_empty_or rule.connecting connecting
    && (is_empty_or rule.stop stop || is_empty_or rule.stop (station stops stop)))

-- the longest wait in seconds: that of the first rule that fits, or 0
unfoldable pub wait : List StopRow → List RuleRow → ℕ → ℕ → ℕ → ℕ
wait stops rules feeder connecting stop =
    option_map_or (λ (rule : RuleRow). rule.max_wait)
    (find (is_rule_for stops feeder connecting stop) rules) 0
