use Rattle.std.proofs.Common.{ap, subst, List, refl}
use lib.Dec.{leb}
use mathlib.Core.List.{IsPrefix}
use Rattle.snapshot_board.proofs.PrefixLemmas.{prefix_which}
use Rattle.snapshot_board.proofs.history.Prefix.begins.Goals as goal

pub returns : goal.returns
returns g c =
    let both = c.learn.new.self.log in
    let this : IsPrefix c.self.inside.seen.log both = subst (λ (l : List _). IsPrefix l both) (ap (λ s. s.log) c.again-both.ensures) c.learn.ensures.2 in
    rw (← c.self.view_is, ← c.other.view_is) (prefix_which c.self.inside.seen.log c.other.inside.seen.log both c.self.inside.count c.other.inside.count c.self.invariant.0 c.other.invariant.0 this c.learn.ensures.3 (leb c.self.inside.count c.other.inside.count) refl)
