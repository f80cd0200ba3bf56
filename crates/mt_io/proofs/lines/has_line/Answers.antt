use Rattle.std.proofs.Common.{false, List, ℕ, [], arith, append-nil}
use Rattle.mt_io.proofs.LineFacts.{found_is_line, many_are_line, none_is_no_line}
use Rattle.mt_io.proofs.lines.has_line.Goals as goal

pub returns-then-bytes-ge-LONG-clause-held : goal.returns-then-bytes-ge-LONG-clause-held
returns-then-bytes-ge-LONG-clause-held c =
    let xs : List ℕ = c.args.bytes.now in
    λ _. rw (append-nil xs) at (many_are_line false xs [] c.if-bytes-ge-LONG.true)

pub returns-else-bytes-ge-LONG-clause-held : goal.returns-else-bytes-ge-LONG-clause-held
returns-else-bytes-ge-LONG-clause-held c =
    λ is. found_is_line c.next_lf.result c.args.bytes.now c.next_lf.ensures (rw c.is_some.ensures at is)

pub returns-else-bytes-ge-LONG-clause-none : goal.returns-else-bytes-ge-LONG-clause-none
returns-else-bytes-ge-LONG-clause-none c =
    λ is. none_is_no_line c.next_lf.result c.args.bytes.now c.next_lf.ensures (rw c.is_some.ensures at is) (omega (arith, c.if-bytes-ge-LONG.false))
