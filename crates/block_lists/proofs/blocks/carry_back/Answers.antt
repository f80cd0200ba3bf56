use Rattle.block_lists.proofs.Words.{◌+◌, ◌-◌, ◌*◌, arith, get_or, subst, ◌∙◌}
use Rattle.block_lists.proofs.Words.{IsMovedBack, get_or_default}
use Rattle.block_lists.proofs.CarryLemmas.{back-more}
use Rattle.block_lists.proofs.blocks.carry_back.Goals as goal

pub loop-block-preserved : goal.loop-block-preserved
loop-block-preserved g c =
    let block = c.loop-block.block - 1 in
    let starts = c.loop-block.starts in
    let stored = c.loop-block.stored in
    let h = c.loop-block.invariant in
    let s = c.from-at.ensures in
    let put = c.replace-carried.ensures.after in
    let turned = h.moved.blocks.turned block in
    let i = block * 256 + get_or starts block 0 in
    let x = c.index-stored-block.result in
    let value = rw s at c.replace-carried.ensures.value in
    let read = value ∙ get_or_default stored i x c.replace-carried.result (omega (arith, turned, h.moved.same_length)) in
    record {
      order = omega arith;
      within = omega arith;
      moved = rw (s, put) (back-more c.args.starts.now c.args.stored.now starts stored block c.args.last c.args.item c.loop-block.carried c.replace-carried.result (omega arith) (omega arith) read (subst (λ b. IsMovedBack c.args.starts.now c.args.stored.now starts stored (b * 256) (c.args.last * 256) c.args.item c.loop-block.carried) {x = c.loop-block.block} {y = block + 1} (omega arith) h.moved));
    }
