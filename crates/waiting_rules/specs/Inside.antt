-- What holds of kept waits.
use Rattle.std.specs.Prelude.{◌≡◌, ◌≤◌, All}
use Rattle.mt_base.specs.declared.tables.RuleRow.{RuleRow}
use Rattle.waiting_rules.specs.Indexed.{AreFirst}
use Rattle.waiting_rules.specs.Bounded.{HasBounds}
use Rattle.waiting_rules.specs.Rules.{longest_wait}
use Rattle.waiting_rules.specs.Waiting.{HasFlags}
use Rattle.waiting_rules.specs.declared.waits.Waits.TheInside.{Inside}

-- no rule has a wait above 86,400 seconds, and what is kept is that of the rules of the file
pub record IsConsistent (a : Inside) : Type 0 where
  pub longest : All (λ (rule : RuleRow). rule.max_wait ≤ 86400) a.rows.rules.items
  pub first_rules : AreFirst a.rows.rules.items a.rows.first_rules.items
  pub bounds : HasBounds a.rows.rules.items a.rows.first_rules.items a.bounds
  pub flags : HasFlags a.rows.parents.items a.rows.rules.items a.flags.items
  pub greatest : a.longest_wait ≡ longest_wait a.rows.rules.items
