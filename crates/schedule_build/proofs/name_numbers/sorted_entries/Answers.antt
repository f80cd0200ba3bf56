use Rattle.std.proofs.Common.{◌≡◌, rules}
use Rattle.std.proofs.lemmas.Fn.{always_returns_same}
use Rattle.std.specs.Ordering.{is_lt}
use Rattle.schedule_build.specs.Hashed.{entry_cmp}
use Rattle.schedule_build.proofs.HashLemmas.{entries-weak}
use Rattle.schedule_build.proofs.name_numbers.sorted_entries.Goals as goal

-- the closure compares two entries
pub returns-clause-sorted : goal.returns-clause-sorted
returns-clause-sorted c =
    let names = c.args.names.now in
    c.sort_unstable_by.ensures.sorted (λ a b. is_lt (entry_cmp names a b)) (entries-weak names) (always_returns_same _ (λ a r. is_lt r ≡ is_lt (entry_cmp names a.0.now a.1.0.now)) _ (λ a r f k. search rules))
