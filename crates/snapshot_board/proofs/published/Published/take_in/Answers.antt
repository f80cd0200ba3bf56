use Rattle.std.proofs.Common.{◌≡◌, ◌∙◌, ◌++◌, ◌∷◌, [], sym, ap, subst, Some}
use Rattle.snapshot_board.specs.States.{meaning_after}
use Rattle.snapshot_board.proofs.StateLemmas.{known, follows_next}
use Rattle.snapshot_board.proofs.published.Published.take_in.Goals as goal

pub invariant_of-self : goal.invariant_of-self
invariant_of-self g c =
    let s = c.args.self.now in let p = c.args.post.now in let after = g.S.Replay.after in
    let same : s.prefix ≡ p.before = c.if-is_same.ensures.same in
    let old = known g.row.S-State.coded _ _ s.follows in
    let new = follows_next after g.H.Opening.opening s.prefix p.message (g.S.Replay.meaning s.value) (g.S.Replay.meaning c.take_message.new.value) old c.take_message.ensures in
    record { follows = ∣ subst (λ l. meaning_after after g.H.Opening.opening l ≡ Some (g.S.Replay.meaning c.take_message.new.value)) (ap (λ l. l ++ p.message ∷ []) same ∙ (sym p.next ∙ sym c.copy.ensures)) new ∣₁ }
