use Rattle.station_index.proofs.Words.{◌+◌, ◌-◌, ◌≡◌, ◌≤◌, arith, ap, sym, length, drop, ◌∙◌, length-drop, length-take-le, filter, is_in_range, kept, merged}
use Rattle.station_index.proofs.OrderLemmas.{filter-ascends}
use Rattle.station_index.proofs.MergeLemmas.{filter-merged}
use Rattle.station_index.proofs.PlaceLemmas.{AreInOrder-drop, AreInOrder-take, range-kept}
use Rattle.station_index.proofs.index.StationIndex.range.Goals as goal

pub invariant_of-result : goal.invariant_of-result
invariant_of-result c =
    let a = c.self.inside in
    let p = is_in_range c.args.stop c.args.dep c.args.lo c.args.hi in
    let first = c.part-first.result.0 in
    let n = length c.part-first.result.1.now in
    let room : n ≤ length (drop first a.live.items) = omega (arith, length-drop first a.live.items, c.self.invariant.flags, c.part-first.ensures.range.within) in
    let count : first + n - first ≡ n = omega arith in
    record {
      loaded = rw c.part-first.ensures.events (AreInOrder-take n (drop first a.loaded) (AreInOrder-drop first a.loaded c.self.invariant.loaded));
      flags = rw (c.deref.ensures.value, count) (length-take-le n (drop first a.live.items) room);
      added = rw c.added_part.ensures (filter-ascends p a.added.items c.self.invariant.added);
    }

pub returns : goal.returns
returns c =
    let a = c.self.inside in
    let p = is_in_range c.args.stop c.args.dep c.args.lo c.args.hi in
    let first = c.part-first.result.0 in
    let n = length c.part-first.result.1.now in
    let count : first + n - first ≡ n = omega arith in
    let parted = rw count at (range-kept p a.loaded first (first + n) c.part-first.ensures.range a.live.items) in
    rw (← c.self.view_is, c.part-first.ensures.events, c.deref.ensures.value, count, c.added_part.ensures)
    (ap (λ xs. merged xs (filter p a.added.items)) parted ∙ sym (filter-merged p (kept a.loaded a.live.items) a.added.items c.self.invariant.ordered))
