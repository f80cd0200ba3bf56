use Rattle.block_lists.proofs.Words.{◌≡◌, ◌+◌, ◌*◌, ◌/◌, ◌<◌, arith, length, refl, set}
use Rattle.block_lists.proofs.MoveLemmas.{on-joined, settled-on}
use Rattle.block_lists.proofs.blocks.move_on.Goals as goal

pub returns : goal.returns
returns g c =
    let olds = c.args.starts.now in
    let old = c.args.stored.now in
    let place = c.args.place in
    let end = c.args.end in
    let block = place / 256 in
    let mid = block * 256 + 256 in
    let apart = c.if-place-end.false in
    let order : place < end = omega (arith, apart, c.requires.order) in
    let behind : end ≡ length old / 256 * 256 = c.requires.end order in
    let at : (block + 1) * 256 ≡ mid = omega arith in
    let to : end / 256 * 256 ≡ end = omega (arith, behind) in
    let same = rw c.settle.ensures.starts at c.settle.ensures.same in
    let rest = rw (c.settle.ensures.starts, at, to) at c.carry_on.ensures in
    let first = settled-on olds old c.settle.new.stored block c.requires.blocks (omega (arith, behind, order)) same c.shift_on-carried.new.stored place c.args.item c.shift_on-carried.result refl c.settle.ensures.length c.shift_on-carried.ensures in
    on-joined olds old (set olds block 0) c.shift_on-carried.new.stored c.carry_on.new.starts c.carry_on.new.stored place mid end c.args.item c.shift_on-carried.result c.carry_on.result (omega arith) (omega (arith, behind, order)) (omega (arith, behind)) first rest
