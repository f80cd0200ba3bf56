use Rattle.std.proofs.Common.{arith}
use Rattle.information_service.proofs.ShortLines.{next_short}
use Rattle.query_crew.proofs.reading.next_line.Goals as goal

pub read_line-requires : goal.read_line-requires
read_line-requires g c =
    let short = next_short c.next.result c.in-Line.line c.in-Line.is c.args.reader.now c.next.follows.lender-at-none
    (g.S.Source.left c.args.input.now) (g.S.Source.left c.next.new.source) c.next.follows.holds-at-none.0 in
    record { few = omega (arith, short) }
