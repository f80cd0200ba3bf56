use Rattle.std.proofs.Common.{◌≡◌, ◌++◌, ◌∷◌, [], ap, sym, ◌∙◌, drop, refl}
use mathlib.Core.Logic.{∥∥₁_map}
use Rattle.snapshot_board.specs.Operations.{applied_to}
use Rattle.snapshot_board.proofs.PublishLemmas.{shown_next}
use Rattle.snapshot_board.proofs.publisher.PublisherOver+BoardWriter+S+H+A+S+Msg+H.post.Goals as goal

pub invariant_of-self : goal.invariant_of-self
invariant_of-self g c =
    let after = g.S.Replay.after in
    let w = c.self.inside.writer in
    let x = w.desk.shown.value in let y = c.publish.new.writer.desk.shown.value in
    let next : c.push.new.self ≡ c.copy.result ++ c.args.m ∷ [] = c.if-not-push.ensures ∙ ap (λ l. l ++ c.args.m ∷ []) (c.copy-after.ensures ∙ sym c.copy.ensures) in
    ∥∥₁_map c.self.invariant (λ h. (
      shown_next (applied_to after) after (g.S.Replay.meaning x.value, x.prefix) (g.S.Replay.meaning y.value, y.prefix) _ c.args.m c.copy.result c.self.inside.posted c.push.new.self
          (drop w.behind w.log.items) c.in-Ok.ensures.0 h.1 refl h.0 (sym c.copy.ensures) next,
      c.in-Ok.ensures.1,
    ))

pub invariant_of-self-in-Err-1 : goal.invariant_of-self-in-Err-1
invariant_of-self-in-Err-1 g c =
    let e = c.in-Err-Post.ensures in
    ∥∥₁_map c.self.invariant (λ h. (ap (λ x. x.prefix) e.1 ∙ h.0, e.2 ∙ h.1))
