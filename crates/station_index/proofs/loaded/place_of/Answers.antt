use Rattle.station_index.proofs.Words.{rules, IsPartitionPoint-from_clause, is_before_entry, entry_of}
use Rattle.station_index.proofs.FindLemmas.{events-parted}
use Rattle.station_index.proofs.loaded.place_of.Goals as goal

pub returns-clause-place : goal.returns-clause-place
returns-clause-place c =
    let xs = c.args.events.now in
    let e = c.args.entry.now in
    IsPartitionPoint-from_clause (λ x. is_before_entry (entry_of e.stop e.dep x) e) xs c.partition_point.result c.partition_point.ensures.partitioned (events-parted e xs c.requires) (λ a r f h. search rules)
