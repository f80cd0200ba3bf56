-- The ids of rows by number.
use Rattle.std.specs.Prelude.{ℕ, ◌≡◌, ◌++◌, List, [], ◌∷◌, Bool, true, false, Some, None, Result, Ok, Err}
use Rattle.std.specs.declared.option.Option.{Option}
use Rattle.std.specs.BTreeMap.{get_by_text}
use Rattle.feed_tables.specs.Lawful.{AreDistinct}
use Rattle.gtfs_tables.specs.Numbers.{number_from}
use Rattle.gtfs_tables.specs.declared.ids.Ids.{Ids}
use Rattle.gtfs_tables.specs.declared.faults.TableError.{TableError}
use Rattle.gtfs_tables.specs.declared.faults.TableError.TheVariants.{OutOfMemory}

-- the number that is kept for an id
abbrev pub number_of_id : Ids → List ℕ → Option ℕ
number_of_id ids id = get_by_text ids.numbers id

-- each id of a list is found by its place in it, no other id is found, and no id stands there twice
pub record AreIds (ids : Ids) (names : List (List ℕ)) : Type 0 where
  pub found : (id : List ℕ) → number_of_id ids id ≡ number_from 0 id names
  pub distinct : AreDistinct names

-- one more id stands at the end of the list, where no earlier one is equal
abbrev pub AddsId : Result Bool TableError → List ℕ → List (List ℕ) → Ids → Type 0
AddsId (Ok true) id names ids = (number_from 0 id names ≡ None) × AreIds ids (names ++ id ∷ [])
AddsId (Ok false) id names ids = (n : ℕ) × (number_from 0 id names ≡ Some n)
AddsId (Err e) id names ids = e ≡ OutOfMemory
