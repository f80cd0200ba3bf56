use Rattle.std.proofs.Common.{ap, subst, refl, inl, inr}
use mathlib.Core.List.{IsPrefix}
use Rattle.snapshot_board.proofs.PrefixLemmas.{prefix_self}
use Rattle.snapshot_board.proofs.viewer.Viewer.learn.Goals as goal

pub returns-then-begins : goal.returns-then-begins
returns-then-begins g c =
    let note = c.n.inside.prefix in
    record {
      kept = ap (λ k. k.seen) c.self.view_is;
      one = inr c.n.view_is;
      before = subst (λ l. IsPrefix l note) (ap (λ k. k.learnt) c.self.view_is) c.if-begins.ensures;
      note = subst (λ l. IsPrefix l note) c.n.view_is (prefix_self note);
    }

pub returns-else-begins : goal.returns-else-begins
returns-else-begins g c =
    let learnt = c.self.inside.learnt in
    record {
      kept = refl;
      one = inl refl;
      before = prefix_self c.args.self.now.learnt;
      note = subst (λ l. IsPrefix c.args.n l) (ap (λ k. k.learnt) c.self.view_is) (subst (λ l. IsPrefix l learnt) c.n.view_is c.if-begins.ensures.0);
    }
