use Rattle.std.proofs.Common.{◌+◌}
use Rattle.mt_io.proofs.LineFacts.{pass_none, pass_some}
use Rattle.mt_io.proofs.Slices.{empty_range, later_range}
use Rattle.mt_io.proofs.lines.LineReader.pass.Goals as goal

pub returns-in-None-clause-ahead : goal.returns-in-None-clause-ahead
returns-in-None-clause-ahead c =
    let none = rw c.deref.ensures.value at c.in-None.ensures in
    λ rest ended. rw (← c.self.view_is, c.if-self.true) (pass_none ended _ _ rest none (empty_range c.self.inside.buf.items c.self.inside.end))

pub returns-in-Some-clause-ahead : goal.returns-in-Some-clause-ahead
returns-in-Some-clause-ahead c =
    let found = rw c.deref.ensures.value at c.in-Some.ensures in
    λ rest ended. rw (← c.self.view_is, c.if-self.true) (pass_some ended _ _ _ _ rest found.1 found.2 (later_range c.self.inside.buf.items c.self.inside.start (c.in-Some.i + 1) c.self.inside.end))
