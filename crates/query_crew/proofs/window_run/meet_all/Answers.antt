use Rattle.query_crew.proofs.Words.{◌≡◌, true, ◌<◌, ℕ, length, sym, subst, arith, HasAnsweredAll, HasWorked}
use Rattle.query_crew.proofs.Keeping.{all-kept, put-kept, rooms-kept}
use Rattle.query_crew.proofs.Putting.{at-put}
use Rattle.query_crew.proofs.window_run.meet_all.Goals as goal

pub loop-i-init : goal.loop-i-init
loop-i-init g c = record {
  answered = λ start later worked. (λ k d le far. worked k d far, λ k d near. absurd (omega (arith, near)));
  kept = all-kept c.args.all.now;
}

pub meet_worker-requires-clause-room : goal.meet_worker-requires-clause-room
meet_worker-requires-clause-room g c =
    rooms-kept g.H.Opening.opening c.args.all.now c.loop-i.all c.loop-i.invariant.kept c.requires.room c.loop-i.i c.index-all-i.result (omega (arith, c.loop-i-test.true, c.loop-i.auto.all))

pub loop-i-preserved : goal.loop-i-preserved
loop-i-preserved g c =
    let o = g.H.Opening.opening in let posted = c.args.publisher.now in let first = c.args.window.now.first in let lines = c.args.window.now.lines.now in
    let all = c.loop-i.all in let i = c.loop-i.i in let y = c.meet_worker.new.worker in let x = c.index-all-i.result in let inv = c.loop-i.invariant in
    let n = length c.args.all.now in
    let lt : i < length all = omega (arith, c.loop-i-test.true, c.loop-i.auto.all) in
    record {
      answered = λ start later worked.
          let so_far = inv.answered start later worked in (
            λ k d le far. at-put (λ z. z.is_whole ≡ true → HasWorked o start z.viewer first k n lines z.answers.items) all i k y d lt
                (λ e. absurd (omega (arith, e, le))) (λ ne. so_far.0 k d (omega (arith, le)) far),
            λ k d near. at-put (λ z. HasAnsweredAll o posted (length start) first k n lines z.answers.items) all i k y d lt
                (λ e. subst (λ (j : ℕ). HasAnsweredAll o posted (length start) first j n lines y.answers.items) (sym e)
                (c.meet_worker.ensures.answered c.if-not-meet_worker.false start later (λ whole. so_far.0 i x (omega arith) (omega (arith, lt, inv.kept.count)) whole)))
                (λ ne. so_far.1 k d (omega (arith, ne, near))),
          );
      kept = put-kept c.args.all.now all i x y inv.kept lt c.meet_worker.ensures.kept;
    }

pub returns-clause-answered : goal.returns-clause-answered
returns-clause-answered g c = λ whole start later worked k d l. (c.loop-i.invariant.answered start later worked).1 k d (omega (arith, l, c.loop-i-test.false))
