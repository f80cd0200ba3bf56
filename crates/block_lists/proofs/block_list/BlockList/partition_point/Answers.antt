use Rattle.core.proofs.slice.Searches.{Halved, unhalved, failed, passed, after_passing, at_failing, at_read}
use Rattle.core.proofs.iter.Next.{called}
use Rattle.core.proofs.slice.Orders.{answers_next}
use Rattle.block_lists.proofs.Words.{◌≡◌, ◌+◌, ◌-◌, ◌/◌, true, false, refl, sym, subst, arith, rules, of_calls}
use Rattle.block_lists.proofs.block_list.BlockList.partition_point.Goals as goal

pub returns-then-size-eq0 : goal.returns-then-size-eq0
returns-then-size-eq0 g c = record { bound = search rules; partitioned = λ p h. λ _. (λ k d a b. absurd (omega arith), λ k d a b. absurd (omega arith)) }

pub loop-size-init : goal.loop-size-init
loop-size-init g c = (omega arith, omega arith, search of_calls, λ p h. (h, subst (Halved p c.args.self.now.items 0) (sym c.len-size.ensures) (unhalved p _)))

pub loop-size-preserved-then-passes : goal.loop-size-preserved-then-passes
loop-size-preserved-then-passes g c =
    let xs = c.args.self.now.items in
    let base = c.loop-size.base in
    let size = c.loop-size.size in
    let mid = base + size / 2 in
    let k = called g.F.FnMut c.if-passes.ensures refl in
    (omega arith, omega arith, search of_calls, λ p h. let i = c.loop-size.invariant.3 p h in let n = answers_next g.F.FnMut _ _ _ _ _ k i.0 in (n.1, passed p xs base size mid (size - size / 2) (omega arith) i.1 (at_read xs (λ y. p y ≡ true) mid c.get.result.now (omega arith) c.get.ensures (sym n.0))))

pub loop-size-preserved : goal.loop-size-preserved
loop-size-preserved g c =
    let xs = c.args.self.now.items in
    let base = c.loop-size.base in
    let size = c.loop-size.size in
    let mid = base + size / 2 in
    let k = called g.F.FnMut c.if-passes.ensures refl in
    (omega arith, omega arith, search of_calls, λ p h. let i = c.loop-size.invariant.3 p h in let n = answers_next g.F.FnMut _ _ _ _ _ k i.0 in (n.1, failed p xs base size mid (size - size / 2) (omega arith) i.1 (at_read xs (λ y. p y ≡ false) mid c.get.result.now (omega arith) c.get.ensures (sym n.0))))

pub returns-then-passes-2 : goal.returns-then-passes-2
returns-then-passes-2 g c =
    let xs = c.args.self.now.items in
    let base = c.loop-size.base in
    let size = c.loop-size.size in
    let k = called g.F.FnMut c.if-passes-2.ensures refl in
    record { bound = search rules; partitioned = λ p h. let i = c.loop-size.invariant.3 p h in let n = answers_next g.F.FnMut _ _ _ _ _ k i.0 in after_passing p xs base size (omega arith) (omega arith) i.1 (at_read xs (λ y. p y ≡ true) base c.get-2.result.now (omega arith) c.get-2.ensures (sym n.0)) }

pub returns : goal.returns
returns g c =
    let xs = c.args.self.now.items in
    let base = c.loop-size.base in
    let size = c.loop-size.size in
    let k = called g.F.FnMut c.if-passes-2.ensures refl in
    record { bound = search rules; partitioned = λ p h. let i = c.loop-size.invariant.3 p h in let n = answers_next g.F.FnMut _ _ _ _ _ k i.0 in at_failing p xs base size i.1 (at_read xs (λ y. p y ≡ false) base c.get-2.result.now (omega arith) c.get-2.ensures (sym n.0)) }
