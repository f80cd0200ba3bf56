use Rattle.schedule_build.proofs.Words.{rules, ◌≡◌, ◌-◌, true, false, arith, common_steps, IsPartitionPoint-from_clause, IsPartitionedBy-leb, IsPartitionedBy-ltb, trip_of}
use Rattle.std.proofs.Math.Dec.{ltb, leb}
use Rattle.std.proofs.lemmas.Bool.{ltb-true, leb-false}
use Rattle.std.specs.List.Sorted.{IsPartitionPoint}
use Rattle.feed_tables.proofs.TripRowLemmas.{part-is, a-row}
use Rattle.schedule_build.proofs.groups.bounds.Goals as goal

start-point : (c : goal.After-partition_point-end) → IsPartitionPoint (λ y. ltb (trip_of y) c.args.trip ≡ true) (λ y. ltb (trip_of y) c.args.trip ≡ false) c.args.all.now c.partition_point-start.result
start-point c = IsPartitionPoint-from_clause (λ y. ltb (trip_of y) c.args.trip) _ _ c.partition_point-start.ensures.partitioned (IsPartitionedBy-ltb trip_of c.args.all.now c.args.trip c.requires) (λ a r f h. search rules)

end-point : (c : goal.After-partition_point-end) → IsPartitionPoint (λ y. leb (trip_of y) c.args.trip ≡ true) (λ y. leb (trip_of y) c.args.trip ≡ false) c.args.all.now c.partition_point-end.result
end-point c = IsPartitionPoint-from_clause (λ y. leb (trip_of y) c.args.trip) _ _ c.partition_point-end.ensures.partitioned (IsPartitionedBy-leb trip_of c.args.all.now c.args.trip c.requires) (λ a r f h. search rules)

pub returns-clause-order : goal.returns-clause-order
returns-clause-order c = grind (arith, common_steps, (start-point c).0 c.partition_point-end.result (a-row 0), (end-point c).1 c.partition_point-end.result (a-row 0), c.partition_point-start.ensures.bound)

pub returns-clause-rows : goal.returns-clause-rows
returns-clause-rows c =
    let start = start-point c in
    let end = end-point c in
    let order = returns-clause-order c in
    part-is trip_of c.args.trip c.partition_point-start.result (c.partition_point-end.result - c.partition_point-start.result) c.args.all.now
    (λ i d m n. ltb-true _ _ (start.0 i d (omega arith) m))
    (λ i d m n o. grind (arith, common_steps, start.1 i d m o, end.0 i d))
    (λ i d m n. leb-false _ _ (end.1 i d (omega arith) n))
