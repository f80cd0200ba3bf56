use Rattle.std.proofs.Common.{◌∙◌, sym, arith, length, vec_len}
use Rattle.feed_gen.proofs.InputLines.{given}
use Rattle.feed_gen.proofs.source.GenLinesSource.read.Goals as goal

pub returns-clause-bytes : goal.returns-clause-bytes
returns-clause-bytes c =
    given c.args.self.now c.refill-at.new.held.items c.deref.result.now c.give-count.new.buf c.refill-at.result.0 c.give-count.result (vec_len c.refill-at.new.held) (length c.args.buf.now) c.self.inside.trains c.refill-at.result.1
    (sym c.self.view_is ∙ sym c.refill-at.ensures.left) c.deref.ensures.value (grind arith) c.refill-at.ensures.at c.refill-at.ensures.more c.give-count.ensures.count c.give-count.ensures.len c.give-count.ensures.moved
