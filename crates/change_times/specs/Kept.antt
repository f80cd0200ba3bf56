-- What change times keep.
use Rattle.std.specs.Prelude.{ℕ, ◌≡◌, [], slice_index_or}
use Rattle.change_times.specs.declared.changes.Changes.TheInside.{Inside}
use Rattle.change_times.specs.Reach.{reached, reached_back}

-- the lists are those of the table
pub record HasLists (a : Inside) : Type 0 where
  pub onward : (n : ℕ) → slice_index_or a.onward n [] ≡ reached a.table n
  pub back : (n : ℕ) → slice_index_or a.back n [] ≡ reached_back a.table n
