use Rattle.change_times.proofs.Words.{rules, ◌≡◌, ◌∙◌, ◌-◌, ◌≤◌, ap, subst, sym, length, take, drop, arith, filter, IsNonDecreasingBy, is_from, to_of}
use Rattle.change_times.proofs.CutLemmas.{IsPart}
use Rattle.change_times.proofs.RowLemmas.{bounded-rows}
use Rattle.change_times.proofs.transfers.Transfers.from.Goals as goal

part : (c : goal.After-deref) → IsPart c.self.inside.rows.items (filter (is_from c.args.a) c.self.inside.rows.items) c.bounds-start.result
part c = bounded-rows _ _ _ _ _ c.bounds-start.ensures c.as_slice.ensures.value c.self.invariant

pub slice_bounds-result-count : goal.slice_bounds-result-count
slice_bounds-result-count c = (part c).order

pub slice_bounds-result-start : goal.slice_bounds-result-start
slice_bounds-result-start c =
    let h = part c in
    let a : c.bounds-start.result.0 ≤ length c.deref.result.now = omega (arith, h.order, h.within, ap length c.deref.ensures.value) in
    search rules

rows : (c : goal.After-result-1) → take (c.bounds-start.result.1 - c.bounds-start.result.0) (drop c.bounds-start.result.0 c.deref.result.now) ≡ filter (is_from c.args.a) c.self.inside.rows.items
rows c =
    ap (λ xs. take (c.bounds-start.result.1 - c.bounds-start.result.0) (drop c.bounds-start.result.0 xs)) c.deref.ensures.value
    ∙ (bounded-rows _ _ _ _ _ c.bounds-start.ensures c.as_slice.ensures.value c.self.invariant).part

pub returns-clause-rows : goal.returns-clause-rows
returns-clause-rows c = rows c ∙ ap (filter (is_from c.args.a)) c.self.view_is

pub returns-clause-order : goal.returns-clause-order
returns-clause-order c = subst (IsNonDecreasingBy to_of) (sym (rows c)) (c.self.invariant.by_pair.to c.args.a)
