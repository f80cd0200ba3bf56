use Rattle.waiting_rules.proofs.Words.{◌∙◌, ◌+◌, length, ap, arith, connecting_cmp, row_of, rules, trains}
use Rattle.waiting_rules.specs.Bounded.{bounds_in}
use Rattle.waiting_rules.proofs.Ranges.{sorted-range}
use Rattle.waiting_rules.proofs.RouteLemmas.{none-order, row-all, row-order, row-past, row-route, row-start}
use Rattle.waiting_rules.proofs.routes.RouteBounds.of.Goals as goal

pub returns-then-row-len-clause-order : goal.returns-then-row-len-clause-order
returns-then-row-len-clause-order c = none-order

pub returns-then-row-len-clause-all : goal.returns-then-row-len-clause-all
returns-then-row-len-clause-all c = λ stop.
    let a = c.self.inside in
    row-past a.bounds.items c.args.route stop (length a.starts.items) c.self.invariant.starts.all (omega (arith, c.if-row-len.true, c.len.ensures, c.row_of-row.ensures.row))
    ∙ ap (λ all. bounds_in all (trains c.args.route stop)) c.self.view_is

pub slice_bounds-result-count-2 : goal.slice_bounds-result-count-2
slice_bounds-result-count-2 c =
    let a = c.self.inside in
    let row = c.row_of-row.result in
    let same = c.row_of-row.ensures.row in
    let start = row-start a.bounds.items a.starts.items (row_of c.args.route) row c.index.result.now c.self.invariant.starts same (omega (arith, c.if-row-len.false, c.len.ensures)) c.index.ensures in
    let end = row-start a.bounds.items a.starts.items (row_of c.args.route + 1) (row + 1) c.index-2.result.now c.self.invariant.starts (omega (arith, same)) (omega (arith, c.if-row-len.false, c.len.ensures)) c.index-2.ensures in
    row-order a.bounds.items (row_of c.args.route) c.index.result.now c.index-2.result.now start end

pub slice_bounds-result-start-2 : goal.slice_bounds-result-start-2
slice_bounds-result-start-2 c = let order = slice_bounds-result-count-2 c in search rules

pub returns-clause-route : goal.returns-clause-route
returns-clause-route c =
    let a = c.self.inside in
    let row = c.row_of-row.result in
    let same = c.row_of-row.ensures.row in
    let start = row-start a.bounds.items a.starts.items (row_of c.args.route) row c.index.result.now c.self.invariant.starts same (omega (arith, c.if-row-len.false, c.len.ensures)) c.index.ensures in
    let end = row-start a.bounds.items a.starts.items (row_of c.args.route + 1) (row + 1) c.index-2.result.now c.self.invariant.starts (omega (arith, same)) (omega (arith, c.if-row-len.false, c.len.ensures)) c.index-2.ensures in
    rw c.deref-2.ensures.value (row-route a.bounds.items c.args.route c.index.result.now c.index-2.result.now start end)

pub returns-clause-order : goal.returns-clause-order
returns-clause-order c =
    sorted-range connecting_cmp c.deref-2.result.now c.index.result.now c.index-2.result.now (rw c.deref-2.ensures.value c.self.invariant.order)

pub returns-clause-all : goal.returns-clause-all
returns-clause-all c = λ stop.
    let a = c.self.inside in
    let row = c.row_of-row.result in
    let same = c.row_of-row.ensures.row in
    let start = row-start a.bounds.items a.starts.items (row_of c.args.route) row c.index.result.now c.self.invariant.starts same (omega (arith, c.if-row-len.false, c.len.ensures)) c.index.ensures in
    let end = row-start a.bounds.items a.starts.items (row_of c.args.route + 1) (row + 1) c.index-2.result.now c.self.invariant.starts (omega (arith, same)) (omega (arith, c.if-row-len.false, c.len.ensures)) c.index-2.ensures in
    rw (c.deref-2.ensures.value, ← c.self.view_is) (row-all a.bounds.items c.args.route stop c.index.result.now c.index-2.result.now start end)
