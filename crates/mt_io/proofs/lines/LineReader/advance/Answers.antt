use Rattle.std.proofs.Common.{[], false}
use Rattle.mt_io.proofs.Gives.{waits_none, none_before}
use Rattle.mt_io.proofs.lines.LineReader.advance.Goals as goal

pub returns-in-None-clause-holds : goal.returns-in-None-clause-holds
returns-in-None-clause-holds g c =
    λ line. absurd (line (none_before c.args.self.now c.take_held.new.self (c.in-None.ensures.none.1 [] false) (waits_none c.take_held.new.self c.in-None.ensures.none.0)))
