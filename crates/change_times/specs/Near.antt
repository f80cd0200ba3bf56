-- The locations that a change may join to a location.
use Rattle.std.specs.Prelude.{ℕ, ◌<◌, Bool, List, [], All, ◌∷◌, ◌++◌, ◌&&◌, if◌then◌else◌}
use Rattle.std.specs.Prelude.{is_none, nat_eq, not, map, length, Option}
use Rattle.std.specs.List.{Contains, filter, flat_map}
use Rattle.delay_model.specs.Changes.{first_row, station}
use Rattle.mt_base.specs.declared.tables.StopRow.{StopRow}
use Rattle.mt_base.specs.declared.tables.TransferRow.{TransferRow}
use Rattle.change_times.specs.declared.links.Link.{Link}
use Rattle.change_times.specs.declared.near.Direction.{Direction}
use Rattle.change_times.specs.declared.near.Direction.TheVariants.{Onward, Back}
use Rattle.change_times.specs.declared.near.Nearby.{Nearby}
use Rattle.change_times.specs.ChangeTables.{ChangeTables}
use Rattle.change_times.specs.Stored.{is_at}

-- the second of a pair
abbrev pub other_of : Link → ℕ
other_of link = link.other

-- the locations that are paired with a location
abbrev pub others : List Link → ℕ → List ℕ
others links place = map other_of (filter (is_at place) links)

-- the second of a pair, and the locations of which it is the station
abbrev pub with_members : List Link → Link → List ℕ
with_members members link = other_of link ∷ others members (other_of link)

-- the locations that are paired with a location, and those of which they are the station
abbrev pub linked : List Link → List Link → ℕ → List ℕ
linked members links place = flat_map (with_members members) (filter (is_at place) links)

-- the locations of the same station, if these are looked at
abbrev pub own_members : List Link → ℕ → Bool → List ℕ
own_members members at own = if own then others members at else []

-- the locations of the same station, if these are looked at, and those that are linked to the
-- location or to its station
abbrev pub near : List Link → List Link → ℕ → ℕ → Bool → List ℕ
near members links place at own =
    own_members members at own ++ (linked members links place ++ linked members links at)

-- where a row leads to, after where it leads from, or the other way round
abbrev pub link_of : Direction → TransferRow → Link
link_of Onward row = record { place = row.from_stop; other = row.to_stop }
link_of Back row = record { place = row.to_stop; other = row.from_stop }

-- a change by the row is possible
abbrev pub allows : TransferRow → Bool
allows row = not (nat_eq row.kind 3)

-- the first row from a location to its station, or the other way round
abbrev pub station_row : ChangeTables → Direction → ℕ → ℕ → Option TransferRow
station_row t Onward place at = first_row t.stops t.transfers place at
station_row t Back place at = first_row t.stops t.transfers at place

-- the default decides on changes between a location and those of its station that no row names,
-- where none is for the location and the station, and none for the station alone
abbrev pub has_default : ChangeTables → Direction → ℕ → ℕ → Bool
has_default t direction place at = is_none (station_row t direction place at)
    && is_none (first_row t.stops t.transfers at at)

-- the pairs of a direction
abbrev pub links_in : Direction → Nearby → List Link
links_in Onward nearby = nearby.onward
links_in Back nearby = nearby.back

-- a location after its station
abbrev pub member : List StopRow → ℕ → Link
member stops b = record { place = station stops b; other = b }

-- each location stands after its station
abbrev pub HaveMembers : List StopRow → List Link → Type 0
HaveMembers stops members = (b : ℕ) → b < length stops → Contains members (member stops b)

-- each row is there as a pair
abbrev pub HaveRows : Direction → List TransferRow → List Link → Type 0
HaveRows direction rows links = All (λ row. Contains links (link_of direction row)) rows

-- the pairs are those of a table, by the rows by which a change is possible
pub record AreOf (t : ChangeTables) (nearby : Nearby) : Type 0 where
  pub members : HaveMembers t.stops nearby.members
  pub onward : HaveRows Onward (filter allows t.transfers) nearby.onward
  pub back : HaveRows Back (filter allows t.transfers) nearby.back
