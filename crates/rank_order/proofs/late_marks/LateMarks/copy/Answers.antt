use Rattle.std.proofs.Common.{◌≡◌, ◌∙◌, ◌++◌, ap, subst}
use Rattle.std.specs.BinaryHeap.{heap_items}
use Rattle.std.specs.List.Sorted.{IsPermutation}
use Rattle.rank_order.proofs.HeapLemmas.{moved-same}
use Rattle.rank_order.proofs.late_marks.LateMarks.copy.Goals as goal

pub returns : goal.returns
returns c =
    let old = heap_items c.self.inside.heap in
    let whole : c.extend_from_slice.new.self.items ≡ old = c.in_ok-extend_from_slice.ensures.items ∙ ap (λ rs. rs ++ c.as_slice.result.now) c.in_ok-keys.ensures.items ∙ c.as_slice.ensures.value in
    moved-same old (heap_items c.from.result) (subst (λ rs. IsPermutation rs (heap_items c.from.result)) whole c.from.ensures.1) ∙ c.self.view_is
