use Rattle.std.proofs.Common.{◌∙◌, arith, rules, sym}
use Rattle.std.proofs.lemmas.List.{get_or_default}
use Rattle.std.proofs.lemmas.List.Sorted.{IsPartitionPoint-from_clause}
use Rattle.schedule_build.proofs.HashLemmas.{early, name-found, name-missed, names-parted}
use Rattle.schedule_build.proofs.name_numbers.NameNumbers.find.Goals as goal

pub returns-then-place-near : goal.returns-then-place-near
returns-then-place-near c =
    let names = c.args.names.now in
    let name = c.args.name.now in
    let hash = c.name_hash-hash.result in
    let near = c.near-near.result.now in
    let place = c.partition_point-place.result in
    let parted = names-parted names c.args.self.now c.requires name hash c.name_hash-hash.ensures near c.near-near.ensures.near in
    let point = IsPartitionPoint-from_clause (early names c.args.self.now c.requires name hash c.name_hash-hash.ensures near c.near-near.ensures.near) near place c.partition_point-place.ensures.partitioned parted (λ a r f h. search rules) in
    name-missed names c.args.self.now c.requires name hash c.name_hash-hash.ensures near c.near-near.ensures.near place c.partition_point-place.ensures.bound point (λ d l. absurd (omega (arith, l)))

pub returns-then-not-is_named : goal.returns-then-not-is_named
returns-then-not-is_named c =
    let names = c.args.names.now in
    let name = c.args.name.now in
    let hash = c.name_hash-hash.result in
    let near = c.near-near.result.now in
    let place = c.partition_point-place.result in
    let parted = names-parted names c.args.self.now c.requires name hash c.name_hash-hash.ensures near c.near-near.ensures.near in
    let point = IsPartitionPoint-from_clause (early names c.args.self.now c.requires name hash c.name_hash-hash.ensures near c.near-near.ensures.near) near place c.partition_point-place.ensures.partitioned parted (λ a r f h. search rules) in
    name-missed names c.args.self.now c.requires name hash c.name_hash-hash.ensures near c.near-near.ensures.near place c.partition_point-place.ensures.bound point (λ d l. rw (get_or_default near place d (record { key = 0; number = 0 }) l) (sym c.is_named.ensures ∙ c.if-not-is_named.true))

pub returns : goal.returns
returns c =
    let names = c.args.names.now in
    let name = c.args.name.now in
    let hash = c.name_hash-hash.result in
    let near = c.near-near.result.now in
    let place = c.partition_point-place.result in
    let parted = names-parted names c.args.self.now c.requires name hash c.name_hash-hash.ensures near c.near-near.ensures.near in
    let point = IsPartitionPoint-from_clause (early names c.args.self.now c.requires name hash c.name_hash-hash.ensures near c.near-near.ensures.near) near place c.partition_point-place.ensures.partitioned parted (λ a r f h. search rules) in
    name-found names c.args.self.now c.requires name hash c.name_hash-hash.ensures near c.near-near.ensures.near place (record { key = 0; number = 0 }) c.if-place-near.false point (sym c.is_named.ensures ∙ c.if-not-is_named.false)
