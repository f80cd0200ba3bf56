use Rattle.change_times.proofs.Words.{rules, ltb, leb, IsPartitionPoint-from_clause, IsPartitionedBy-ltb, place_of}
use Rattle.std.proofs.lemmas.List.Sorted.{IsPartitionedBy-leb}
use Rattle.change_times.proofs.SortLemmas.{Between, between-order, between-part}
use Rattle.change_times.proofs.links.bounds.Goals as goal

between : (c : goal.After-partition_point-end) → Between place_of c.args.place c.args.links.now c.partition_point-start.result c.partition_point-end.result
between c = record {
  start = IsPartitionPoint-from_clause (λ y. ltb (place_of y) c.args.place) c.args.links.now c.partition_point-start.result c.partition_point-start.ensures.partitioned (IsPartitionedBy-ltb place_of c.args.links.now c.args.place c.requires) (λ a r f h. search rules);
  end = IsPartitionPoint-from_clause (λ y. leb (place_of y) c.args.place) c.args.links.now c.partition_point-end.result c.partition_point-end.ensures.partitioned (IsPartitionedBy-leb place_of c.args.links.now c.args.place c.requires) (λ a r f h. search rules);
  within = c.partition_point-start.ensures.bound;
}

pub returns-clause-order : goal.returns-clause-order
returns-clause-order c =
    between-order place_of c.args.place c.args.links.now _ _ (record { place = 0; other = 0 }) (between c)

pub returns-clause-links : goal.returns-clause-links
returns-clause-links c =
    between-part place_of c.args.place c.args.links.now _ _ (returns-clause-order c) (between c)
