use Rattle.call_lines.proofs.Words.{◌≡◌, ℕ, vec_capacity, IsKnownFrom}
use Rattle.call_lines.proofs.RenewLemmas.{IsPartlyRenewed, StaysBelow}
use Rattle.call_lines.proofs.line.renew_line.Given as goal

-- the calls from a place on were gone through, and those before it are to come
abbrev pub invariant-loop-place : goal.invariant-loop-place
invariant-loop-place l =
    (vec_capacity l.calls ≡ vec_capacity l.fn.calls)
    × ((train first to len : ℕ) (w : IsKnownFrom train first to len l.fn.end l.fn.last l.fn.behind l.fn.calls.items)
    → IsPartlyRenewed train len l.place w.line.at l.fn.calls.items l.calls.items l.slot l.next_report
    × StaysBelow l.place w.line.at l.fn.calls.items l.calls.items)
