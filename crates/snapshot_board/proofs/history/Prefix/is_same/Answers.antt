use Rattle.std.proofs.Common.{ap, subst, List, refl, ◌==◌}
use mathlib.Core.List.{IsPrefix}
use Rattle.snapshot_board.proofs.PrefixLemmas.{prefix_same}
use Rattle.snapshot_board.proofs.history.Prefix.is_same.Goals as goal

pub returns-clause-same : goal.returns-clause-same
returns-clause-same g c =
    let both = c.learn.new.self.log in
    let this : IsPrefix c.self.inside.seen.log both = subst (λ (l : List _). IsPrefix l both) (ap (λ s. s.log) c.again-both.ensures) c.learn.ensures.2 in
    rw (← c.self.view_is, ← c.other.view_is) (prefix_same c.self.inside.seen.log c.other.inside.seen.log both c.self.inside.count c.other.inside.count c.self.invariant.0 c.other.invariant.0 this c.learn.ensures.3 (c.self.inside.count == c.other.inside.count) refl)
