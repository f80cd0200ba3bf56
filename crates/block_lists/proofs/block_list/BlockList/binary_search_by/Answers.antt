use Rattle.core.proofs.slice.Searches.{Narrowed, whole, lower, upper, after_Less, at_Greater, at_read}
use Rattle.core.proofs.iter.Next.{called}
use Rattle.core.proofs.slice.Orders.{answers_next}
use Rattle.block_lists.proofs.Words.{◌≡◌, ◌+◌, ◌-◌, ◌/◌, ◌∙◌, Equal, Greater, Less, true, false, refl, sym, ap, subst, arith, rules, of_calls, is_gt}
use Rattle.block_lists.proofs.block_list.BlockList.binary_search_by.Goals as goal

pub returns-then-size-eq0 : goal.returns-then-size-eq0
returns-then-size-eq0 g c = record { bound = search rules; position = λ ord h. λ _. (λ k d a b. absurd (omega arith), λ k d a b. absurd (omega arith)) }

pub loop-size-init : goal.loop-size-init
loop-size-init g c = (omega arith, omega arith, search of_calls, λ ord h. (h, subst (Narrowed ord c.args.self.now.items 0) (sym c.len-size.ensures) (whole ord _)))

pub loop-size-preserved-then-is_gt : goal.loop-size-preserved-then-is_gt
loop-size-preserved-then-is_gt g c =
    let xs = c.args.self.now.items in
    let base = c.loop-size.base in
    let size = c.loop-size.size in
    let mid = base + size / 2 in
    let k = called g.F.FnMut c.compare.ensures refl in
    (omega arith, omega arith, search of_calls, λ ord h. let i = c.loop-size.invariant.3 ord h in let n = answers_next g.F.FnMut _ _ _ _ _ k i.0 in (n.1, lower ord xs base size mid (size - size / 2) (omega arith) i.1 (at_read xs (λ y. is_gt (ord y) ≡ true) mid c.get.result.now (omega arith) c.get.ensures (ap is_gt (sym n.0) ∙ sym c.if-is_gt.ensures))))

pub loop-size-preserved : goal.loop-size-preserved
loop-size-preserved g c =
    let xs = c.args.self.now.items in
    let base = c.loop-size.base in
    let size = c.loop-size.size in
    let mid = base + size / 2 in
    let k = called g.F.FnMut c.compare.ensures refl in
    (omega arith, omega arith, search of_calls, λ ord h. let i = c.loop-size.invariant.3 ord h in let n = answers_next g.F.FnMut _ _ _ _ _ k i.0 in (n.1, upper ord xs base size mid (size - size / 2) (omega arith) i.1 (at_read xs (λ y. is_gt (ord y) ≡ false) mid c.get.result.now (omega arith) c.get.ensures (ap is_gt (sym n.0) ∙ sym c.if-is_gt.ensures))))

pub returns-in-Equal : goal.returns-in-Equal
returns-in-Equal g c =
    let xs = c.args.self.now.items in
    let base = c.loop-size.base in
    let size = c.loop-size.size in
    let k = called g.F.FnMut c.in-Equal.ensures refl in
    record { bound = search rules; position = λ ord h. let i = c.loop-size.invariant.3 ord h in let n = answers_next g.F.FnMut _ _ _ _ _ k i.0 in at_read xs (λ y. ord y ≡ Equal) base c.get-2.result.now (omega arith) c.get-2.ensures (sym n.0) }

pub returns-in-Less : goal.returns-in-Less
returns-in-Less g c =
    let xs = c.args.self.now.items in
    let base = c.loop-size.base in
    let size = c.loop-size.size in
    let k = called g.F.FnMut c.in-Less.ensures refl in
    record { bound = search rules; position = λ ord h. let i = c.loop-size.invariant.3 ord h in let n = answers_next g.F.FnMut _ _ _ _ _ k i.0 in let at = at_read xs (λ y. ord y ≡ Less) base c.get-2.result.now (omega arith) c.get-2.ensures (sym n.0) in after_Less ord xs base size (omega arith) (omega arith) i.1 at }

pub returns : goal.returns
returns g c =
    let xs = c.args.self.now.items in
    let base = c.loop-size.base in
    let size = c.loop-size.size in
    let k = called g.F.FnMut c.in-Greater.ensures refl in
    record { bound = search rules; position = λ ord h. let i = c.loop-size.invariant.3 ord h in let n = answers_next g.F.FnMut _ _ _ _ _ k i.0 in let at = at_read xs (λ y. ord y ≡ Greater) base c.get-2.result.now (omega arith) c.get-2.ensures (sym n.0) in at_Greater ord xs base size i.1 at }
