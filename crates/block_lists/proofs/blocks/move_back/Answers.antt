use Rattle.block_lists.proofs.Words.{◌≡◌, ◌+◌, ◌*◌, ◌/◌, ◌<◌, AreBlocks, arith, length, refl, set, subst, sym}
use Rattle.block_lists.proofs.MoveLemmas.{back-joined, settled-back}
use Rattle.block_lists.proofs.blocks.move_back.Goals as goal

pub returns : goal.returns
returns g c =
    let olds = c.args.starts.now in
    let old = c.args.stored.now in
    let s = c.carry_back-carried.new.starts in
    let t = c.carry_back-carried.new.stored in
    let place = c.args.place in
    let end = c.args.end in
    let block = place / 256 in
    let mid = block * 256 + 256 in
    let apart = c.if-place-end.false in
    let order : place < end = omega (arith, apart, c.requires.order) in
    let behind : end ≡ length old / 256 * 256 = c.requires.end order in
    let at : (block + 1) * 256 ≡ mid = omega arith in
    let to : end / 256 * 256 ≡ end = omega (arith, behind) in
    let far = rw (at, to) at c.carry_back-carried.ensures in
    let same = rw c.settle.ensures.starts at c.settle.ensures.same in
    let blocks = subst (AreBlocks s) (sym far.same_length) far.blocks in
    let near = settled-back s t c.settle.new.stored block blocks (omega (arith, behind, order, far.same_length)) same c.shift_back.new.stored place c.carry_back-carried.result c.shift_back.result refl c.settle.ensures.length c.shift_back.ensures in
    rw c.settle.ensures.starts (back-joined olds old s t (set s block 0) c.shift_back.new.stored place mid end c.args.item c.carry_back-carried.result c.shift_back.result (omega arith) (omega (arith, behind, order)) (omega (arith, behind)) far near)
