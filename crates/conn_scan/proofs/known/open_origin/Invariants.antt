use Rattle.conn_scan.proofs.ChangeLemmas.{IsOpening}
use Rattle.conn_scan.proofs.known.open_origin.Given as goal

-- the places that are left make of what is known what all of them make of what was
abbrev pub invariant-loop-number : goal.invariant-loop-number
invariant-loop-number l = IsOpening l.changes l.asked.query l.fn.openings l.number-end l.number l.openings
