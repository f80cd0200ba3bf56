use Rattle.waiting_rules.proofs.Words.{rules, nat_lt, row_of}
use Rattle.std.proofs.lemmas.List.Sorted.{IsPartitionPoint-from_clause}
use Rattle.waiting_rules.proofs.RouteLemmas.{row-parted}
use Rattle.waiting_rules.proofs.routes.start_of.Goals as goal

pub returns : goal.returns
returns c =
    let es = c.args.bounds.now in
    let row = c.args.row in
    let point = c.partition_point in
    record {
      within = point.ensures.bound;
      parted = IsPartitionPoint-from_clause (λ b. nat_lt (row_of b.0.route) row) es point.result point.ensures.partitioned (row-parted es row c.requires) (λ a r f h. search rules);
    }
