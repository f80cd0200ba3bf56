use Rattle.std.proofs.Common.{arith, ltb, rules}
use Rattle.std.proofs.lemmas.Bool.Decides.{nat_tests}
use Rattle.std.proofs.lemmas.List.{get_or_default}
use Rattle.std.proofs.lemmas.List.Sorted.{IsPartitionPoint-from_clause}
use Rattle.schedule_build.proofs.EntryLemmas.{key-found, key-missed, keys-parted}
use Rattle.schedule_build.proofs.buckets.Buckets.find.Goals as goal

pub returns-then-place-near : goal.returns-then-place-near
returns-then-place-near c =
    let key = c.args.key in
    let near = c.near-near.result.now in
    let place = c.partition_point-place.result in
    let n = c.near-near.ensures in
    let point = IsPartitionPoint-from_clause (λ e. ltb e.key key) near place c.partition_point-place.ensures.partitioned (keys-parted key c.args.self.now near n.order n.near) (λ a r f h. search rules) in
    key-missed key c.args.self.now near n.order n.near place c.partition_point-place.ensures.bound point (λ d l. absurd (omega (arith, l)))

pub returns-then-entry-key : goal.returns-then-entry-key
returns-then-entry-key c =
    let key = c.args.key in
    let near = c.near-near.result.now in
    let place = c.partition_point-place.result in
    let n = c.near-near.ensures in
    let point = IsPartitionPoint-from_clause (λ e. ltb e.key key) near place c.partition_point-place.ensures.partitioned (keys-parted key c.args.self.now near n.order n.near) (λ a r f h. search rules) in
    key-missed key c.args.self.now near n.order n.near place c.partition_point-place.ensures.bound point (λ d l. rw (get_or_default near place d (record { key = 0; number = 0 }) l) (grind (arith, nat_tests)))

pub returns : goal.returns
returns c =
    let key = c.args.key in
    let near = c.near-near.result.now in
    let place = c.partition_point-place.result in
    let n = c.near-near.ensures in
    let point = IsPartitionPoint-from_clause (λ e. ltb e.key key) near place c.partition_point-place.ensures.partitioned (keys-parted key c.args.self.now near n.order n.near) (λ a r f h. search rules) in
    key-found key c.args.self.now near n.order n.near place (record { key = 0; number = 0 }) (omega arith) point (grind (arith, nat_tests))
