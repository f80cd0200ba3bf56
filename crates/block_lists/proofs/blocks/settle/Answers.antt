use Rattle.block_lists.proofs.Words.{◌-◌, ◌*◌, ◌+◌, ◌≡◌, arith, drop, length-take-le, length-drop}
use Rattle.block_lists.proofs.PlaceLemmas.{settled}
use Rattle.block_lists.proofs.blocks.settle.Goals as goal

pub returns-clause-same : goal.returns-clause-same
returns-clause-same g c =
    let stored = c.args.stored.now in
    let first = c.args.block * 256 in
    let n = c.min-count.result in
    let count : first + n - first ≡ n = omega arith in
    let whole = length-take-le n (drop first stored) (omega (arith, length-drop first stored, c.min-count.ensures)) in
    let long = rw (count, whole) at c.rotate_left.ensures.len in
    let rotated = rw (count, whole) at c.rotate_left.ensures.by_index in
    rw count (settled c.args.starts.now stored c.rotate_left.new.self c.args.block n c.from.result c.requires.blocks c.requires.within c.min-count.ensures long c.from.ensures rotated)
