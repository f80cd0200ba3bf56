use Rattle.waiting_rules.proofs.Words.{take, HasSome}
use Rattle.waiting_rules.proofs.bounds.by_trains.Given as goal

-- the bounds are those of the rules so far
abbrev pub invariant-loop-rule : goal.invariant-loop-rule
invariant-loop-rule l = HasSome l.rules l.first_rules (take l.rule-index l.rules) l.bounds
