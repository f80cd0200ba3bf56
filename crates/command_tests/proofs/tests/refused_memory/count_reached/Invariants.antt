use Rattle.std.proofs.Common.{◌≡◌}
use Rattle.command_tests.proofs.tests.refused_memory.count_reached.Given as goal

-- a query leaves the room of the scratch as it is
abbrev pub invariant-loop-pair : goal.invariant-loop-pair
invariant-loop-pair l = l.scratch.room ≡ l.initial.scratch.room
