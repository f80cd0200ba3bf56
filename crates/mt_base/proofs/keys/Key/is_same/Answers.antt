use Rattle.std.proofs.Common.{sym}
use Rattle.mt_base.proofs.KeyLemmas.{same-parts}
use Rattle.mt_base.proofs.keys.Key.is_same.Goals as goal

pub returns-then-eq : goal.returns-then-eq
returns-then-eq c = rw (same-parts c.args.self.now c.args.other.now, sym c.if-eq.ensures) (cc)

pub returns-else-eq : goal.returns-else-eq
returns-else-eq c = rw (same-parts c.args.self.now c.args.other.now, sym c.if-eq.ensures) c.if-eq.false
