use Rattle.waiting_rules.proofs.Words.{◌≡◌, ◌≤◌, List, length, min, take, position_or_len, RuleRow, Connecting, ArePartsOf, is_in}
use Rattle.waiting_rules.specs.Indexed.{AreFirst}
use Rattle.waiting_rules.proofs.classes.first.Given as goal

-- the earliest of the place and those of the parts so far
abbrev pub invariant-loop-part : goal.invariant-loop-part
invariant-loop-part l =
    (rules : List RuleRow) (trains : List Connecting) → AreFirst rules l.first_rules → ArePartsOf trains l.first_rules l.parts → l.place ≤ length rules
    → l.first ≡ min l.place (position_or_len (is_in (take l.part-index trains) l.feeder) rules)
