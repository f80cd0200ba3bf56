use Rattle.journal_replay.proofs.FirstLf.{found-lf, found-none}
use Rattle.journal_replay.proofs.reader.first_lf.Goals as goal

pub returns-in-Some : goal.returns-in-Some
returns-in-Some c =
    let found = c.in-Some.ensures in
    let parts = found-lf c.args.bytes.now c.in-Some.i found.0.high found.0.before found.1 in
    (found.0.high, parts.0, parts.1)

pub returns-in-None : goal.returns-in-None
returns-in-None c = found-none c.args.bytes.now c.in-None.ensures
