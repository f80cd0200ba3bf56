use Rattle.query_crew.proofs.Words.{◌≡◌, ap, subst, sym, HasSearchRoom, Some, slice_get, ◌∙◌, refl, slice_get-get_or}
use Rattle.query_crew.proofs.WorkLemmas.{pushed-more, prefix-self}
use Rattle.query_crew.proofs.answering.answer_own.Goals as goal

pub answer_here-entry-requires : goal.answer_here-entry-requires
answer_here-entry-requires g c = record { room = subst (HasSearchRoom g.H.Opening.opening) (sym c.loop-i.invariant.kept.room) c.requires.room }

pub loop-i-preserved : goal.loop-i-preserved
loop-i-preserved g c =
    let inv = c.loop-i.invariant in let posted = c.args.publisher.now in let lines = c.args.window.now.lines.now in let line = c.line-item.result in
    let here : slice_get lines c.loop-i.i ≡ Some line = slice_get-get_or lines c.loop-i.i line c.loop-i-test.true ∙ ap Some (sym c.line-item.is) in
    let more = pushed-more g.H.Opening.opening posted posted posted posted c.args.window.now.first c.args.me c.args.workers _ lines c.loop-i.worker.answers.items c.push_entry.new.answers.items
    c.loop-i.i line c.asked_by-asked.result c.answer_here-entry.result
    inv.answered inv.count here (prefix-self posted) (prefix-self posted) c.asked_by-asked.ensures refl c.answer_here-entry.ensures.entry (c.push_entry.ensures c.if-not-push_entry.false) in
    record { answered = more.0; count = more.1; kept = record { room = c.answer_here-entry.ensures.room ∙ inv.kept.room; viewer = inv.kept.viewer } }
