use Rattle.std.proofs.Common.{arith}
use Rattle.mt_io.proofs.Finish.{finish_line}
use Rattle.mt_io.proofs.lines.LineReader.finish.Goals as goal

pub returns-clause-ahead : goal.returns-clause-ahead
returns-clause-ahead c =
    let r = c.self.inside in
    rw (← c.self.view_is) (finish_line r.buf.items r.start r.end r.inside_long (rw (← c.self.view_is) at c.requires.waits.lf)
    (rw (← c.self.view_is) at c.requires.waits.small) (rw (← c.self.view_is) at c.requires.waits.passed) (omega arith) (omega arith))
