use Rattle.station_index.proofs.Words.{rules, IsPartitionPoint-from_clause, is_before_entry}
use Rattle.station_index.proofs.PlaceLemmas.{parted}
use Rattle.station_index.proofs.entries.place.Goals as goal

pub returns-clause-place : goal.returns-clause-place
returns-clause-place c =
    let es = c.args.entries.now.items in
    let e = c.args.entry.now in
    IsPartitionPoint-from_clause (λ x. is_before_entry x e) es c.partition_point.result c.partition_point.ensures.partitioned (parted e es c.requires) (λ a r f h. search rules)
