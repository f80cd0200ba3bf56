use Rattle.std.proofs.Common.{arith}
use Rattle.std.proofs.lemmas.List.Sorted.{length_permutation}
use Rattle.schedule_build.specs.Hashed.{name_hash}
use Rattle.schedule_build.proofs.EntryLemmas.{length-entries}
use Rattle.schedule_build.proofs.HashLemmas.{keys-rise, numbered-names}
use Rattle.schedule_build.proofs.name_numbers.NameNumbers.build.Goals as goal

pub build-requires-clause-order : goal.build-requires-clause-order
build-requires-clause-order c = keys-rise c.args.names.now c.in_ok-entries.entries.items c.in_ok-entries.ensures.sorted

pub build-requires-clause-few : goal.build-requires-clause-few
build-requires-clause-few c =
    let names = c.args.names.now in
    omega (arith, c.requires.few, length-entries name_hash 0 names, length_permutation _ c.in_ok-entries.entries.items c.in_ok-entries.ensures.permutation)

pub returns : goal.returns
returns c =
    let same = c.in_ok-build.ensures in
    numbered-names c.args.names.now (record { buckets = c.in_ok-build.field-0 }) (rw same c.in_ok-entries.ensures.permutation) (rw same c.in_ok-entries.ensures.sorted)
