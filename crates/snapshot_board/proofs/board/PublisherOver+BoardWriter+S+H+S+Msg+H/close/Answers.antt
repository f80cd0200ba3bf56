use Rattle.std.proofs.Common.{ap, sym, ◌∙◌}
use mathlib.Core.Logic.{∥∥₁_elim}
use base.Stored.{Coded-set}
use Rattle.std.specs.Coded.{coded_option}
use Rattle.snapshot_board.specs.States.{meaning_after}
use Rattle.snapshot_board.proofs.StateLemmas.{known}
use Rattle.snapshot_board.proofs.board.PublisherOver+BoardWriter+S+H+S+Msg+H.close.Goals as goal

pub returns : goal.returns
returns g c =
    let p = c.into_inner-value.result in
    ∥∥₁_elim c.self.invariant (Coded-set (coded_option g.row.S-State.coded) _ _) (λ h.
    let same = ap (λ q. q.prefix) (c.into_inner-value.ensures ∙ c.take.ensures) ∙ (h.0 ∙ c.self.view_is) in
    ap (meaning_after g.S.Replay.after g.H.Opening.opening) (sym same) ∙ known g.row.S-State.coded _ _ p.follows)
