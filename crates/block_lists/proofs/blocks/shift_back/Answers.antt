use Rattle.block_lists.proofs.Words.{◌-◌, ◌∙◌, arith, drop, get_or_default, length-drop, length-set, length-take-le, set}
use Rattle.block_lists.proofs.ShiftLemmas.{shifted-back}
use Rattle.block_lists.proofs.blocks.shift_back.Goals as goal

pub returns : goal.returns
returns g c =
    let old = c.args.stored.now in
    let place = c.args.place in
    let n = c.args.end - place in
    let taken = c.replace-taken.result in
    let put = c.replace-taken.ensures.after in
    let mid = set old place c.args.item in
    let whole = length-take-le n (drop place mid) (omega (arith, length-drop place mid, length-set old place c.args.item)) in
    let long = rw (put, whole) at c.rotate_left.ensures.len in
    let rotated = rw (put, whole) at c.rotate_left.ensures.by_index in
    let read = c.replace-taken.ensures.value ∙ get_or_default old place c.index-stored-place.result taken (omega arith) in
    rw put (shifted-back old c.rotate_left.new.self place c.args.end c.args.item taken c.requires.order c.requires.within long rotated read)
