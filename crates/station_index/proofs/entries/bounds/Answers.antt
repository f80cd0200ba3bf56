use Rattle.station_index.proofs.Words.{rules, arith, not, length, max, IsPartitionPoint-from_clause, is_before_range, is_past_range}
use Rattle.station_index.proofs.PlaceLemmas.{range-parted, past-parted, range-at}
use Rattle.station_index.proofs.entries.bounds.Goals as goal

pub returns : goal.returns
returns c =
    let es = c.args.entries.now.items in
    let stop = c.args.stop in
    let dep = c.args.dep in
    let first = c.partition_point-first.result in
    let last = c.partition_point-last.result in
    let low = IsPartitionPoint-from_clause (is_before_range stop dep c.args.lo) es first c.partition_point-first.ensures.partitioned (range-parted stop dep c.args.lo es c.requires) (λ a r f h. search rules) in
    let high = IsPartitionPoint-from_clause (λ e. not (is_past_range stop dep c.args.hi e)) es last c.partition_point-last.ensures.partitioned (past-parted stop dep c.args.hi es c.requires) (λ a r f h. search rules) in
    range-at stop dep c.args.lo c.args.hi es first last c.max.result (omega arith) (omega arith) (omega arith) (λ k l m. omega (arith, l, m)) low high
