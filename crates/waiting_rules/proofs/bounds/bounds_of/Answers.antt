use Rattle.waiting_rules.proofs.Words.{rules, is_le, is_lt, connecting_cmp}
use Rattle.std.proofs.lemmas.List.Sorted.{IsPartitionPoint-from_clause}
use Rattle.waiting_rules.proofs.PartLemmas.{start-parted, end-parted, part-is}
use Rattle.waiting_rules.proofs.bounds.bounds_of.Goals as goal

pub returns-clause-part : goal.returns-clause-part
returns-clause-part c =
    let es = c.args.first_rules.now in
    let trains = c.args.connecting.now in
    let start = c.partition_point-start in
    let end = c.partition_point-end in
    part-is es trains start.result end.result start.ensures.bound end.ensures.bound
    (IsPartitionPoint-from_clause (λ e. is_lt (connecting_cmp e.0.connecting trains)) es start.result start.ensures.partitioned (start-parted es trains c.requires.sorted) (λ a r f h. search rules))
    (IsPartitionPoint-from_clause (λ e. is_le (connecting_cmp e.0.connecting trains)) es end.result end.ensures.partitioned (end-parted es trains c.requires.sorted) (λ a r f h. search rules))
