use Rattle.query_crew.proofs.Words.{◌≡◌, true, ◌<◌, ℕ, length, sym, subst, arith, HasWorked}
use Rattle.query_crew.proofs.Keeping.{all-kept, put-kept, rooms-kept}
use Rattle.query_crew.proofs.Putting.{at-put}
use Rattle.query_crew.proofs.answering.answer_in_turn.Goals as goal

pub loop-i-init : goal.loop-i-init
loop-i-init g c = record { worked = λ k d near. absurd (omega (arith, near)); kept = all-kept c.args.all.now }

pub work_on-requires-clause-room : goal.work_on-requires-clause-room
work_on-requires-clause-room g c =
    rooms-kept g.H.Opening.opening c.args.all.now c.loop-i.all c.loop-i.invariant.kept c.requires.room c.loop-i.i c.index-all-i.result (omega (arith, c.loop-i-test.true, c.loop-i.auto.all))

pub loop-i-preserved : goal.loop-i-preserved
loop-i-preserved g c =
    let o = g.H.Opening.opening in let note = c.args.note.now in let first = c.args.window.now.first in let lines = c.args.window.now.lines.now in
    let all = c.loop-i.all in let i = c.loop-i.i in let y = c.work_on.new.worker in let x = c.index-all-i.result in let inv = c.loop-i.invariant in
    let n = length c.args.all.now in
    let lt : i < length all = omega (arith, c.loop-i-test.true, c.loop-i.auto.all) in
    record {
      worked = λ k d near. at-put (λ z. z.is_whole ≡ true → HasWorked o note z.viewer first k n lines z.answers.items) all i k y d lt
          (λ e. subst (λ (j : ℕ). y.is_whole ≡ true → HasWorked o note y.viewer first j n lines y.answers.items) (sym e) c.work_on.ensures.worked)
          (λ ne. inv.worked k d (omega (arith, ne, near)));
      kept = put-kept c.args.all.now all i x y inv.kept lt c.work_on.ensures.kept;
    }
