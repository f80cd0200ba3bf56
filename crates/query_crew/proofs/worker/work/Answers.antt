use Rattle.query_crew.proofs.Words.{◌≡◌, ap, sym, subst, HasSearchRoom, List, slice_get, Some, ◌∙◌, refl, slice_get-get_or, IsPrefix}
use Rattle.query_crew.proofs.WorkLemmas.{pushed-more}
use Rattle.query_crew.proofs.worker.work.Goals as goal

pub answer_line-back-requires : goal.answer_line-back-requires
answer_line-back-requires g c = record { room = subst (HasSearchRoom g.H.Opening.opening) (sym c.loop-i.invariant.3) c.requires.room }

pub loop-i-preserved : goal.loop-i-preserved
loop-i-preserved g c =
    let old = c.loop-i.viewer in let new = c.answer_line-back.new.viewer in let inv = c.loop-i.invariant in
    let here : slice_get c.args.window.now.lines.now c.loop-i.i ≡ Some c.line-item.result =
    slice_get-get_or c.args.window.now.lines.now c.loop-i.i c.line-item.result c.loop-i-test.true ∙ ap Some (sym c.line-item.is) in
    let more = pushed-more g.H.Opening.opening old.seen new.seen c.args.note.now
    old.learnt c.args.window.now.first c.args.me c.args.workers _ c.args.window.now.lines.now c.loop-i.answers.items c.push_entry.new.answers.items
    c.loop-i.i c.line-item.result c.asked_by-asked.result c.answer_line-back.result.1
    inv.1 inv.2 here c.answer_line-back.ensures.later inv.0 c.asked_by-asked.ensures refl c.answer_line-back.ensures.entry (c.push_entry.ensures c.if-not-push_entry.false) in
    (subst (λ (l : List _). IsPrefix c.args.note.now l) (sym c.answer_line-back.ensures.learnt) inv.0, more.0, more.1, c.answer_line-back.ensures.room ∙ inv.3)
