use Rattle.std.proofs.Common.{◌≡◌, ◌-◌, ℕ, List, arith, length, take, drop, length-drop}
use Rattle.std.proofs.lemmas.List.{take_all}
use Rattle.mt_io.proofs.Searches.{searched_none, searched_some}
use Rattle.mt_io.proofs.lines.next_lf.Goals as goal

pub returns-in-Some : goal.returns-in-Some
returns-in-Some c =
    let xs : List ℕ = c.args.bytes.now in
    let tail : take (length xs - c.args.from) (drop c.args.from xs) ≡ drop c.args.from xs = take_all _ _ (omega (arith, length-drop c.args.from xs)) in
    let found = rw tail at c.in-Some.ensures in
    let parts = searched_some xs c.args.from c.in-Some.i c.requires.searched found.0.high found.0.before found.1 in
    (omega (arith, found.0.high, length-drop c.args.from xs), parts.0, parts.1)

pub returns-in-None : goal.returns-in-None
returns-in-None c =
    let xs : List ℕ = c.args.bytes.now in
    let tail : take (length xs - c.args.from) (drop c.args.from xs) ≡ drop c.args.from xs = take_all _ _ (omega (arith, length-drop c.args.from xs)) in
    searched_none xs c.args.from c.requires.searched (rw tail at c.in-None.ensures)
