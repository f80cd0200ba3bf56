use Rattle.std.proofs.Common.{rules, ◌∙◌, ap, length, refl}
use Rattle.snapshot_board.proofs.StateLemmas.{known}
use Rattle.snapshot_board.proofs.LookLemmas.{callable, looked}
use Rattle.snapshot_board.proofs.viewer.look_at.Goals as goal

pub f-answer-requires : goal.f-answer-requires
f-answer-requires g c =
    let p = c.get-shown.result.now in
    callable g.F.FnOnce g.S.Replay.meaning g.S.Replay.after g.H.Opening.opening c.args.f _ c.args.seen.now c.args.learnt.now c.requires _ p.prefix c.count.result
    (c.count.ensures ∙ ap length c.copy-prefix.ensures) (search rules) (known g.row.S-State.coded _ _ p.follows) refl refl c.if-begins.ensures c.if-begins-2.ensures

pub returns-then-begins-2 : goal.returns-then-begins-2
returns-then-begins-2 g c =
    let p = c.get-shown.result.now in
    looked g.F.FnOnce g.S.Replay.meaning g.S.Replay.after g.H.Opening.opening c.args.f _ c.args.seen.now c.args.learnt.now _ p.prefix c.copy-prefix.result c.count.result c.f-answer.result
    c.f-answer.ensures c.count.ensures c.copy-prefix.ensures (known g.row.S-State.coded _ _ p.follows) refl refl c.if-begins.ensures c.if-begins-2.ensures
