-- The lists of changes in both directions.
use Rattle.std.specs.Prelude.{ℕ, List, Option}
use Rattle.std.specs.List.{filter_map}
use Rattle.change_times.specs.declared.change.Change.{Change}
use Rattle.change_times.specs.declared.near.Direction.{Direction}
use Rattle.change_times.specs.declared.near.Direction.TheVariants.{Onward, Back}
use Rattle.change_times.specs.ChangeTables.{ChangeTables}
use Rattle.change_times.specs.Reach.{places, change_to, change_from}

-- the change from or to a location
abbrev pub change_at : ChangeTables → Direction → ℕ → ℕ → Option Change
change_at t Onward place other = change_to t place other
change_at t Back place other = change_from t place other

-- the changes from or to a location, by the number of the other
unfoldable pub listed : ChangeTables → Direction → ℕ → List Change
listed t direction place = filter_map (change_at t direction place) (places t)
