use Rattle.connection_choices.proofs.Words.{◌≡◌, length, kept_across}
use Rattle.connection_choices.proofs.keeps.KeepsIterator.next.Given as goal

-- what is left gives all that the whole gives
abbrev pub invariant-loop-connection : goal.invariant-loop-connection
invariant-loop-connection l = kept_across l.self-inside.end l.self-inside.rows ≡ l.fn.self

abbrev pub decreases-loop-connection : goal.decreases-loop-connection
decreases-loop-connection l = length l.self-inside.rows
