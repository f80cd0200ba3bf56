use Rattle.schedule_build.proofs.Words.{arith, train_key, length_permutation}
use Rattle.schedule_build.proofs.EntryLemmas.{length-entries}
use Rattle.schedule_build.proofs.TrainNameLemmas.{all-small, train-keys-rise, trains-numbered}
use Rattle.schedule_build.proofs.train_names.TrainNames.build.Goals as goal

pub sorted_entries-requires-clause-small : goal.sorted_entries-requires-clause-small
sorted_entries-requires-clause-small c =
    rw c.deref.ensures.value (all-small c.args.trips c.args.trains.items c.requires.few_trips c.requires.loaded c.requires.has_trips)

pub build-requires-clause-order : goal.build-requires-clause-order
build-requires-clause-order c =
    let small = all-small c.args.trips c.args.trains.items c.requires.few_trips c.requires.loaded c.requires.has_trips in
    train-keys-rise c.args.trains.items c.in_ok-entries.entries.items c.requires.few small (rw c.deref.ensures.value at c.in_ok-entries.ensures.permutation) c.in_ok-entries.ensures.sorted

pub build-requires-clause-few : goal.build-requires-clause-few
build-requires-clause-few c =
    let moved = rw c.deref.ensures.value at c.in_ok-entries.ensures.permutation in
    omega (arith, c.requires.few, length-entries train_key 0 c.args.trains.items, length_permutation _ c.in_ok-entries.entries.items moved)

pub invariant_of-result : goal.invariant_of-result
invariant_of-result c =
    let small = all-small c.args.trips c.args.trains.items c.requires.few_trips c.requires.loaded c.requires.has_trips in
    let numbered = trains-numbered c.args.trains.items c.in_ok-entries.entries.items c.requires.few small (rw c.deref.ensures.value at c.in_ok-entries.ensures.permutation) c.in_ok-entries.ensures.sorted in
    record {
      few = c.requires.few;
      few_trips = c.requires.few_trips;
      loaded = c.requires.loaded;
      has_trips = c.requires.has_trips;
      numbered = rw c.in_ok-numbers.ensures numbered;
    }
