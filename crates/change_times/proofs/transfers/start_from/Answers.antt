use Rattle.change_times.proofs.Words.{rules, ltb, IsPartitionPoint-from_clause, IsPartitionedBy-ltb, from_of}
use Rattle.change_times.proofs.transfers.start_from.Goals as goal

pub returns : goal.returns
returns c = record {
  point = IsPartitionPoint-from_clause (λ y. ltb (from_of y) c.args.place) c.args.rows.now c.partition_point.result c.partition_point.ensures.partitioned (IsPartitionedBy-ltb from_of c.args.rows.now c.args.place c.requires) (λ a r f h. search rules);
  within = c.partition_point.ensures.bound;
}
