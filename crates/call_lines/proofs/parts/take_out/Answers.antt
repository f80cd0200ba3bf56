use Rattle.call_lines.proofs.Words.{◌≡◌, ◌+◌, ◌-◌, arith, nat_tests}
use Rattle.call_lines.proofs.PartLemmas.{begins, next-left, out-next}
use Rattle.call_lines.proofs.parts.take_out.Goals as goal

pub loop-place-init : goal.loop-place-init
loop-place-init c = grind (arith, nat_tests, begins c.requires)

pub index_mut-requires : goal.index_mut-requires
index_mut-requires c =
    let i = c.loop-place.invariant in
    omega (arith, next-left c.requires _ i.out i.standing (omega arith) c.loop-place-test.true c.index.ensures c.after-slot.ensures)

pub loop-place-preserved : goal.loop-place-preserved
loop-place-preserved c =
    let i = c.loop-place.invariant in
    let next = next-left c.requires _ i.out i.standing (omega arith) c.loop-place-test.true c.index.ensures c.after-slot.ensures in
    let e : c.loop-place.place + 1 - 1 ≡ c.loop-place.place = omega arith in
    record {
      out = out-next c.requires _ _ (omega arith) i.out next c.index_mut.ensures.value c.take_out.ensures;
      standing = rw e next;
      capacity = i.capacity;
    }
