use Rattle.std.proofs.Common.{◌≡◌, ◌∙◌, subst, Some}
use mathlib.Core.Logic.{∥∥₁_map}
use Rattle.snapshot_board.specs.States.{meaning_after}
use Rattle.snapshot_board.proofs.StateLemmas.{known, follows_other}
use Rattle.snapshot_board.proofs.published.take_message.Goals as goal

pub follow-requires : goal.follow-requires
follow-requires g c =
    let o = c.args.other.now in let p = c.args.post.now in let after = g.S.Replay.after in
    let same : o.prefix ≡ p.after = c.if-is_same.ensures.same in
    let old = known g.row.S-State.coded _ _ c.requires in
    let new = known g.row.S-State.coded _ _ o.follows in
    follows_other after g.H.Opening.opening p.before p.message (g.S.Replay.meaning c.args.value.now) (g.S.Replay.meaning o.value) old
    (subst (λ l. meaning_after after g.H.Opening.opening l ≡ Some (g.S.Replay.meaning o.value)) (same ∙ p.next) new)

pub step-requires : goal.step-requires
step-requires g c =
    let old = known g.row.S-State.coded _ _ c.requires in
    record { fits = ∥∥₁_map c.args.post.now.fits (λ f. f (g.S.Replay.meaning c.args.value.now) old) }
