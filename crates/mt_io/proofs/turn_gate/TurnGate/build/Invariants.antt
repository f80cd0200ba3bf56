use Rattle.std.proofs.Common.{◌≡◌, ◌++◌, map, drop}
use Rattle.mt_io.proofs.turn_gate.TurnGate.build.Given as goal

-- the states so far are of the holds so far
abbrev pub invariant-loop-hold : goal.invariant-loop-hold
invariant-loop-hold l = map (λ s. s.hold) l.states.items ++ drop l.hold-index l.hold-items ≡ l.fn.holds.items
