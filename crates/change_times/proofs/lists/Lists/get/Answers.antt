use Rattle.change_times.proofs.Words.{rules, ◌∙◌, ◌-◌, ◌≤◌, ap, [], get_or, length, take, drop, arith, cut}
use Rattle.change_times.proofs.CutLemmas.{bounded, IsPart}
use Rattle.change_times.proofs.lists.Lists.get.Goals as goal

part : (c : goal.After-deref) → IsPart c.self.inside.changes.items (get_or (cut 0 c.self.inside.ends.items c.self.inside.changes.items) c.args.i []) c.bounds-start.result
part c = bounded _ _ _ _ _ c.bounds-start.ensures c.as_slice.ensures.value c.self.invariant

pub offset_bounds-deref-start : goal.offset_bounds-deref-start
offset_bounds-deref-start c =
    let h = part c in
    let a : c.bounds-start.result.0 ≤ length c.deref.result.now = omega (arith, h.order, h.within, ap length c.deref.ensures.value) in
    search rules

pub slice_bounds-result-count : goal.slice_bounds-result-count
slice_bounds-result-count c = (part c).order

pub slice_bounds-result-start : goal.slice_bounds-result-start
slice_bounds-result-start c =
    let h = part c in
    let a : c.bounds-start.result.0 ≤ length c.deref.result.now = omega (arith, h.order, h.within, ap length c.deref.ensures.value) in
    search rules

pub slice_bounds-result-end : goal.slice_bounds-result-end
slice_bounds-result-end c =
    let h = part c in
    let a : c.bounds-start.result.1 ≤ length c.deref.result.now = omega (arith, h.within, ap length c.deref.ensures.value) in
    search rules

pub returns : goal.returns
returns c =
    let h = bounded _ _ _ _ _ c.bounds-start.ensures c.as_slice.ensures.value c.self.invariant in
    ap (λ xs. take (c.bounds-start.result.1 - c.bounds-start.result.0) (drop c.bounds-start.result.0 xs)) c.deref.ensures.value
    ∙ h.part ∙ ap (λ lists. get_or lists c.args.i []) c.self.view_is
