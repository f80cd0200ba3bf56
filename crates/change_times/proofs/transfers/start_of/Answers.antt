use Rattle.change_times.proofs.Words.{rules, ◌≡◌, true, false, arith, ltb, ltb-false, ltb-true, IsPartitionPoint-from_clause, IsPartitionedBy-ltb, IsPartitionPoint, to_of}
use Rattle.change_times.proofs.SortLemmas.{first-is}
use Rattle.change_times.proofs.transfers.start_of.Goals as goal

point : (c : goal.After-partition_point) → IsPartitionPoint (λ y. ltb (to_of y) c.args.b ≡ true) (λ y. ltb (to_of y) c.args.b ≡ false) c.args.rows.now c.partition_point.result
point c =
    IsPartitionPoint-from_clause (λ y. ltb (to_of y) c.args.b) c.args.rows.now c.partition_point.result c.partition_point.ensures.partitioned (IsPartitionedBy-ltb to_of c.args.rows.now c.args.b c.requires) (λ a r f h. search rules)

pub returns : goal.returns
returns c =
    first-is to_of c.args.b c.args.rows.now c.partition_point.result c.requires
    (λ j d l m. ltb-true _ _ ((point c).0 j d (omega arith) l))
    (λ j d l m. ltb-false _ _ ((point c).1 j d l m))
