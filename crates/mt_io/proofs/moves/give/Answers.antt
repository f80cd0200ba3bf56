use Rattle.std.proofs.Common.{◌≡◌, ℕ, List, length, arith, length-take}
use Rattle.mt_io.proofs.Slices.{read_from}
use Rattle.mt_io.proofs.moves.give.Goals as goal

pub returns-clause-moved : goal.returns-clause-moved
returns-clause-moved c =
    let at : ℕ = c.args.at in
    let n : ℕ = c.min-count.result in
    let got : List ℕ = c.copy_from_slice.new.self in
    let buf : List ℕ = c.args.buf.now in
    let len : length got ≡ n = omega (arith, c.copy_from_slice.ensures.len, length-take n buf) in
    read_from c.args.bytes.now buf got at n len c.copy_from_slice.ensures.after
