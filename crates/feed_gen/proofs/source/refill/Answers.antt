use Rattle.std.proofs.Common.{arith}
use Rattle.feed_gen.proofs.InputLines.{refilled}
use Rattle.feed_gen.proofs.source.refill.Goals as goal

pub returns-then-next-trains-clause-left : goal.returns-then-next-trains-clause-left
returns-then-next-trains-clause-left c =
    refilled c.args.held.now.items c.make_lines.new.held.items c.args.at c.args.trains c.args.next (grind arith) (omega (arith, c.if-next-trains.true)) c.make_lines.ensures.items
