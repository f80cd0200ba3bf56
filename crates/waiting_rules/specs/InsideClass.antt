-- What holds of the waits of trains of one route at one stop.
use Rattle.std.specs.Prelude.{◌≡◌, ◌≤◌, None, All}
use Rattle.std.specs.List.{position_or_len}
use Rattle.mt_base.specs.declared.tables.RuleRow.{RuleRow}
use Rattle.waiting_rules.specs.Bounded.{ArePartsOf}
use Rattle.waiting_rules.specs.Indexed.{AreFirst, is_in}
use Rattle.waiting_rules.specs.Scopes.{all_connecting}
use Rattle.waiting_rules.specs.WaitTable.{station_in}
use Rattle.waiting_rules.specs.declared.classes.WaitClass.TheInside.{Inside}

-- no rule has a wait above 86,400 seconds, and the parts are those of the trains that wait
pub record IsClass (a : Inside) : Type 0 where
  pub longest : All (λ (rule : RuleRow). rule.max_wait ≤ 86400) a.rows.now.rules.items
  pub first_rules : AreFirst a.rows.now.rules.items a.rows.now.first_rules.items
  pub parts : ArePartsOf (all_connecting a.route a.stop
      (station_in a.rows.now.parents.items a.stop)) a.rows.now.first_rules.items a.parts
  pub for_all : a.for_all ≡ position_or_len (is_in (all_connecting a.route a.stop
      (station_in a.rows.now.parents.items a.stop)) None) a.rows.now.rules.items
