use Rattle.waiting_rules.proofs.Words.{take, HasWaiting}
use Rattle.waiting_rules.proofs.waiting.waiting.Given as goal

-- the trains are those of the rules so far
abbrev pub invariant-loop-rule : goal.invariant-loop-rule
invariant-loop-rule l = HasWaiting (take l.rule-index l.rules) l.waiting
