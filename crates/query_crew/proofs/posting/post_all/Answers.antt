use Rattle.query_crew.proofs.Words.{[], ◌∷◌, ◌∙◌, ◌+◌, sym, ap, arith, drop, append-nil, WindowLine, after_shown}
use Rattle.std.proofs.lemmas.List.{drop_more, drop_all}
use Rattle.query_crew.proofs.PostingLemmas.{takes-none, takes-more, takes-all, few-more, prefix-trans}
use Rattle.query_crew.proofs.posting.post_all.Goals as goal

pub loop-i-init : goal.loop-i-init
loop-i-init g c = record {
  begun = λ s h. (s, takes-none g.H.Opening.opening s c.args.window.now.first c.args.window.now.lines.now c.args.publisher.now c.args.directory.now c.args.replies.now.items h);
  later = ([], append-nil c.args.publisher.now);
  few = omega arith;
}

pub post_line-requires-clause-board : goal.post_line-requires-clause-board
post_line-requires-clause-board g c =
    let b = c.loop-i.invariant.begun c.requires.ready.board.0 c.requires.ready.board.1 in
    (b.0, b.1.stands)

pub loop-i-preserved : goal.loop-i-preserved
loop-i-preserved g c =
    let inv = c.loop-i.invariant in
    let line = c.line-item.result in
    let rest = drop_more c.args.window.now.lines.now c.loop-i.i line (omega (arith, c.loop-i-test.true))
    ∙ ap (λ (x : WindowLine). x ∷ drop (c.loop-i.i + 1) c.args.window.now.lines.now) (sym c.line-item.is) in
    let first = inv.begun c.requires.ready.board.0 c.requires.ready.board.1 in
    record {
      begun = λ s h.
          let b = inv.begun s h in
          (after_shown b.0 line, rw c.in_ok-push.ensures.items (takes-more line c.in_ok-reply.reply b.1 rest (c.in_ok-reply.ensures.taken b.0 b.1.stands)));
      later = prefix-trans c.args.publisher.now c.loop-i.publisher c.post_line.new.publisher inv.later c.post_line.ensures.later;
      few = omega (arith, inv.few, few-more line (c.in_ok-reply.ensures.taken first.0 first.1.stands));
    }

pub returns-clause-posted : goal.returns-clause-posted
returns-clause-posted g c = λ s h.
    let b = c.loop-i.invariant.begun s h in
    takes-all b.1 (drop_all c.loop-i.i c.args.window.now.lines.now (omega (arith, c.loop-i-test.false)))
