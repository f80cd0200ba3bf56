-- The rows of `stop_times.txt` by trip.
use Rattle.std.specs.Prelude.{◌≡◌, ℕ, List}
use Rattle.std.specs.List.Sorted.{IsNonDecreasingBy, IsPermutation}
use Rattle.mt_base.specs.declared.tables.CallRow.{CallRow}
use Rattle.feed_tables.specs.Calls.{trip_of, rows_of}

-- the same rows, with those of a trip beside each other and in their old order
pub record IsGrouped (calls all : List CallRow) : Type 0 where
  pub moved : IsPermutation calls all
  pub rises : IsNonDecreasingBy trip_of all
  pub same : (trip : ℕ) → rows_of all trip ≡ rows_of calls trip
