use Rattle.connection_choices.proofs.Words.{rules, is_le, is_lt, IsPartitionPoint-from_clause, node_cmp, event_at}
use Rattle.connection_choices.proofs.KeepLemmas.{part-is}
use Rattle.connection_choices.proofs.override_rows.bounds.Goals as goal

pub returns : goal.returns
returns c =
    let rows = c.args.rows.now.items in
    let v = c.args.event.now in
    let part = part-is c.args.end v rows _ _ c.requires
    (λ parted. IsPartitionPoint-from_clause (λ e. is_lt (node_cmp (event_at c.args.end e.0) v)) rows _ c.partition_point-first.ensures.partitioned parted (λ a r f h. search rules))
    (λ parted. IsPartitionPoint-from_clause (λ e. is_le (node_cmp (event_at c.args.end e.0) v)) rows _ c.partition_point-last.ensures.partitioned parted (λ a r f h. search rules))
    c.partition_point-first.ensures.bound in
    record { order = part.0; within = c.partition_point-last.ensures.bound; rows = part.1 }
