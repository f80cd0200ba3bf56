use Rattle.query_crew.proofs.Words.{◌∙◌, ◌<◌, ◌∷◌, [], refl, sym, ap, arith, length, length-append}
use Rattle.std.proofs.Common.{get_or}
use Rattle.std.proofs.lemmas.Option.{slice_get_read}
use Rattle.query_crew.proofs.Joins.{taken-is, not-missing, some-in, emptied-next, same-from-next, joined-more}
use Rattle.query_crew.proofs.Keeping.{all-kept-again}
use Rattle.query_crew.proofs.joining.join_replies.Goals as goal

pub unreachable-requires : goal.unreachable-requires
unreachable-requires g c =
    let all = c.args.all.now in
    let i = c.loop-i.i in
    let line = c.index-lines-i.result in
    let inv = c.loop-i.invariant in
    let d = some-in all c.requires.some in
    let at = slice_get_read c.args.lines.now (length c.args.lines.now) i line refl (omega (arith, c.loop-i-test.true)) c.index-lines-i.is in
    let within : i < length c.loop-i.own.items = omega (arith, c.loop-i-test.true, inv.own.count, c.requires.own) in
    let is = taken-is c.args.own.now.items c.loop-i.own.items (λ k. (get_or all k d).answers.items) (λ k. (get_or c.loop-i.all k d).answers.items)
    (length all) (length c.loop-i.all) line i c.take-entry.result c.index_mut.result.now c.take_reply.result c.requires.some within inv.own
    (λ k l. inv.answers k d l) inv.kept.count (c.take-entry.ensures.value ∙ c.index_mut.ensures.value) (c.take_reply.ensures.reply d) in
    not-missing c.take_reply.result _ is (c.requires.covered i line d at) c.in_default.is

pub returns-in_err-push-clause-kept : goal.returns-in_err-push-clause-kept
returns-in_err-push-clause-kept g c = all-kept-again c.args.all.now c.loop-i.all c.take_reply.new.all c.loop-i.invariant.kept c.take_reply.ensures.kept

pub loop-i-preserved : goal.loop-i-preserved
loop-i-preserved g c =
    let all = c.args.all.now in
    let i = c.loop-i.i in
    let line = c.index-lines-i.result in
    let inv = c.loop-i.invariant in
    let at = slice_get_read c.args.lines.now (length c.args.lines.now) i line refl (omega (arith, c.loop-i-test.true)) c.index-lines-i.is in
    let within : i < length c.loop-i.own.items = omega (arith, c.loop-i-test.true, inv.own.count, c.requires.own) in
    record {
      own = rw c.take-entry.ensures.after (emptied-next i c.args.own.now.items c.loop-i.own.items inv.own);
      answers = λ k d l. same-from-next i (get_or all k d).answers.items (get_or c.loop-i.all k d).answers.items
          (get_or c.take_reply.new.all k d).answers.items (inv.answers k d l) (c.take_reply.ensures.others k d (omega (arith, l, inv.kept.count)));
      kept = all-kept-again all c.loop-i.all c.take_reply.new.all inv.kept c.take_reply.ensures.kept;
      count = omega (arith, ap length c.in_ok-push.ensures.items, length-append c.loop-i.replies.items (c.in-Some.reply ∷ []), inv.count);
      each = λ d.
          let is = taken-is c.args.own.now.items c.loop-i.own.items (λ k. (get_or all k d).answers.items) (λ k. (get_or c.loop-i.all k d).answers.items)
          (length all) (length c.loop-i.all) line i c.take-entry.result c.index_mut.result.now c.take_reply.result c.requires.some within inv.own
          (λ k l. inv.answers k d l) inv.kept.count (c.take-entry.ensures.value ∙ c.index_mut.ensures.value) (c.take_reply.ensures.reply d) in
          rw c.in_ok-push.ensures.items (joined-more c.args.lines.now c.args.own.now.items (λ k. (get_or all k d).answers.items)
          (length all) i line c.loop-i.replies.items c.in-Some.reply (inv.each d) inv.count at (sym c.in-Some.is ∙ is));
    }
