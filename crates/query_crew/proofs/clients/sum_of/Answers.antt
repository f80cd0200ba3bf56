use Rattle.std.proofs.Common.{arith, ◌+◌, ◌∙◌, sym}
use Rattle.std.proofs.lemmas.List.Sums.{sum_by_more}
use Rattle.query_crew.proofs.clients.sum_of.Goals as goal

pub loop-byte-preserved : goal.loop-byte-preserved
loop-byte-preserved c =
    let i = c.loop-byte.byte-index in
    record {
      is = (λ k. c.loop-byte.invariant.is k + c.from-total.ensures k) ∙ sym (sum_by_more (λ x. x) c.args.bytes.now i 0 c.loop-byte-test.true);
      few = omega (arith, c.loop-byte.invariant.few, c.from-total.ensures, c.type_inv.bytes i);
    }

pub overflow_add-total : goal.overflow_add-total
overflow_add-total c = omega (arith, c.loop-byte.invariant.few, c.from-total.ensures, c.type_inv.bytes c.loop-byte.byte-index)
