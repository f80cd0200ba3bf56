use Rattle.std.proofs.Common.{◌≡◌, drop}
use Rattle.std.specs.List.{find}
use Rattle.delay_model.specs.Waits.{is_rule_for}
use Rattle.delay_model.proofs.changes.first_rule.Given as goal

-- the rules so far do not fit
abbrev pub invariant-loop-rule : goal.invariant-loop-rule
invariant-loop-rule l = find (is_rule_for l.stops l.feeder l.connecting l.stop) (drop l.rule-index l.rules) ≡ find (is_rule_for l.stops l.feeder l.connecting l.stop) l.rules
