use Rattle.std.proofs.Math.Dec.{eqb}
use Rattle.std.proofs.lemmas.List.Filters.{dedup_is}
use Rattle.std.proofs.lemmas.List.Kept.{AllPairs-from_increasing, Contains-dedup_nat, Contains-from_dedup}
use Rattle.std.proofs.lemmas.List.Sorted.{Contains-permutation, IsPermutation-sym}
use Rattle.std.proofs.lemmas.Map.Keys.{IsStrictlyIncreasing-dedup}
use Rattle.journey_watch.proofs.trains.sort_once.Goals as goal

pub returns-clause-order : goal.returns-clause-order
returns-clause-order c =
    let is = dedup_is eqb _ _ c.dedup.ensures.filtered in
    AllPairs-from_increasing c.dedup.new.self.items (rw is (IsStrictlyIncreasing-dedup _ c.sort_unstable.ensures.sorted))

pub returns-clause-each : goal.returns-clause-each
returns-clause-each c = λ n there.
    let is = dedup_is eqb _ _ c.dedup.ensures.filtered in
    rw is (Contains-dedup_nat _ n (Contains-permutation _ _ n c.sort_unstable.ensures.permutation there))

pub returns-clause-only : goal.returns-clause-only
returns-clause-only c = λ n there.
    let is = dedup_is eqb _ _ c.dedup.ensures.filtered in
    Contains-permutation _ _ n (IsPermutation-sym _ _ c.sort_unstable.ensures.permutation) (Contains-from_dedup eqb _ n (rw is at there))
