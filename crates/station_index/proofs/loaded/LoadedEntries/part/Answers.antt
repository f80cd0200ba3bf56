use Rattle.station_index.proofs.Words.{rules, arith, ltb, leb, length, drop, length-take-le, IsPartitionPoint-from_clause, between_to_end}
use Rattle.std.proofs.lemmas.List.Sorted.{IsNonDecreasingBy-drop, IsPartitionedBy-leb, IsPartitionedBy-ltb}
use Rattle.station_index.proofs.PartLemmas.{events-found, range-found, times-rise}
use Rattle.station_index.proofs.loaded.LoadedEntries.part.Goals as goal

pub overflow_add-result : goal.overflow_add-result
overflow_add-result c = record { fits = omega (arith, c.slot_part-start.ensures.few, c.slot_part-start.ensures.slot.within) }

pub returns-clause-range : goal.returns-clause-range
returns-clause-range c =
    let xs = c.slot_part-start.result.1.now in
    let es = c.args.self.now in
    let start = c.slot_part-start.result.0 in
    let first = c.partition_point-first.result in
    let count = c.partition_point-count.result in
    let h = c.slot_part-start.ensures.slot in
    let rise = times-rise c.args.stop c.args.dep es start xs h c.slot_part-start.ensures.order in
    let low = IsPartitionPoint-from_clause (λ x. ltb x.time c.args.lo) xs first c.partition_point-first.ensures.partitioned (IsPartitionedBy-ltb (λ x. x.time) xs c.args.lo rise) (λ a r f h. search rules) in
    let rest = between_to_end xs first (length xs) (omega arith) in
    let cut = rw rest at c.partition_point-count.ensures.partitioned in
    let within = rw rest at c.partition_point-count.ensures.bound in
    let high = IsPartitionPoint-from_clause (λ x. leb x.time c.args.hi) (drop first xs) count cut (IsPartitionedBy-leb (λ x. x.time) (drop first xs) c.args.hi (IsNonDecreasingBy-drop (λ x. x.time) first xs rise)) (λ a r f h. search rules) in
    rw (rest, length-take-le count (drop first xs) within) (range-found c.args.stop c.args.dep es start xs h c.args.lo c.args.hi first count c.partition_point-first.ensures.bound within low high)

pub returns-clause-events : goal.returns-clause-events
returns-clause-events c =
    let xs = c.slot_part-start.result.1.now in
    let first = c.partition_point-first.result in
    let count = c.partition_point-count.result in
    let rest = between_to_end xs first (length xs) (omega arith) in
    let within = rw rest at c.partition_point-count.ensures.bound in
    rw (rest, length-take-le count (drop first xs) within) (events-found c.args.stop c.args.dep c.args.self.now c.slot_part-start.result.0 xs c.slot_part-start.ensures.slot first count c.partition_point-first.ensures.bound within)
