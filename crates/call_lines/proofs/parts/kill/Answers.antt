use Rattle.call_lines.proofs.Words.{◌≡◌, arith, nat_tests}
use Rattle.call_lines.proofs.PartLemmas.{begins, kill-more, next-slot}
use Rattle.call_lines.proofs.parts.kill.Goals as goal

pub loop-place-init : goal.loop-place-init
loop-place-init c = grind (arith, nat_tests, begins c.requires)

pub index_mut-requires-in-loop-place : goal.index_mut-requires-in-loop-place
index_mut-requires-in-loop-place c =
    let i = c.loop-place.invariant in
    omega (arith, next-slot c.requires _ _ _ i.killed i.standing c.loop-place-test.true c.index_mut.ensures.value c.edit.ensures.rest c.index.ensures c.after-slot.ensures)

pub loop-place-preserved : goal.loop-place-preserved
loop-place-preserved c =
    let i = c.loop-place.invariant in
    let next = next-slot c.requires _ _ _ i.killed i.standing c.loop-place-test.true c.index_mut.ensures.value c.edit.ensures.rest c.index.ensures c.after-slot.ensures in
    record {
      killed = kill-more c.requires _ _ _ _ (omega arith) i.killed i.standing next c.index_mut.ensures.value c.edit.ensures.call c.edit.ensures.rest c.index_mut-in-loop-place.ensures.value c.edit-in-loop-place.ensures.call c.edit-in-loop-place.ensures.rest;
      standing = next;
      capacity = i.capacity;
    }

pub returns-clause-killed : goal.returns-clause-killed
returns-clause-killed c =
    let e : c.loop-place.place ≡ c.args.part.now.last = omega arith in rw e at c.loop-place.invariant.killed
