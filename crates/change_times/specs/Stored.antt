-- What the types of this crate keep.
use Rattle.std.specs.Prelude.{ℕ, ◌≡◌, ◌+◌, ◌<◌, ◌≤◌, ◌^◌, List, [], All, Bool, false, ◌&&◌, IsTrue, Option, None, Some, IfSome, if◌then◌else◌, nat_eq, nat_lt, length, slice_index, find}
use Rattle.std.specs.List.{filter, AllPairs}
use Rattle.std.specs.List.Sorted.{IsNonDecreasingBy, IsPartitionPoint}
use Rattle.mt_base.specs.declared.tables.StopRow.{StopRow}
use Rattle.mt_base.specs.declared.tables.TransferRow.{TransferRow}
use Rattle.delay_model.specs.Changes.{is_looked_at}
use Rattle.change_times.specs.declared.links.Link.{Link}
use Rattle.change_times.specs.declared.places.Place.{Place}
use Rattle.change_times.specs.declared.table.Table.TheInside.{Inside}
use Rattle.change_times.specs.ChangeTables.{ChangeTables}

-- a location as a row of stops.txt without its id
abbrev pub row_of : Place → StopRow
row_of place = record { id = []; kind = place.kind; parent = place.parent }

-- where a row of transfers.txt leads from, and to
abbrev pub from_of : TransferRow → ℕ
from_of row = row.from_stop

abbrev pub to_of : TransferRow → ℕ
to_of row = row.to_stop

-- the row leads from this location
abbrev pub is_from : ℕ → TransferRow → Bool
is_from a row = nat_eq (from_of row) a

-- the row leads to this location
abbrev pub is_to : ℕ → TransferRow → Bool
is_to b row = nat_eq (to_of row) b

-- the rows lead from one location to one location
abbrev pub is_same_pair : TransferRow → TransferRow → Bool
is_same_pair row other = nat_eq (from_of row) (from_of other) && nat_eq (to_of row) (to_of other)

-- the element, if it has the number
abbrev pub of_number : {X : Type 0} → (X → ℕ) → ℕ → Option X → Option X
of_number key k None = None
of_number key k (Some x) = if nat_eq (key x) k then Some x else None

-- the rows stand by the location that they lead from, and those from one location by the location
-- that they lead to
pub record IsByPair (rows : List TransferRow) : Type 0 where
  pub from : IsNonDecreasingBy from_of rows
  pub to : (a : ℕ) → IsNonDecreasingBy to_of (filter (is_from a) rows)

-- so many rows lead from locations with smaller numbers
pub record IsStart (rows : List TransferRow) (place i : ℕ) : Type 0 where
  pub point : IsPartitionPoint (λ row. IsTrue (nat_lt (from_of row) place))
      (λ row. nat_lt (from_of row) place ≡ false) rows i
  pub within : i ≤ length rows

-- for each number of a location, how many rows lead from locations with smaller numbers
abbrev pub HaveStarts : List TransferRow → List ℕ → Type 0
HaveStarts rows starts = (k : ℕ) → k < length starts → IsStart rows k (slice_index starts k)

-- where the rows of a location begin and end, and 0 twice where there is no such location
abbrev pub row_bounds : List ℕ → ℕ → ℕ × ℕ
row_bounds starts a =
    if nat_lt (a + 1) (length starts) then (slice_index starts a, slice_index starts (a + 1))
    else (0, 0)

-- no two rows have the same pair
abbrev pub HaveOwnPairs : List TransferRow → Type 0
HaveOwnPairs rows = AllPairs (λ row later. is_same_pair later row ≡ false) rows

-- rows by pair, one for each pair, with the places where those of each location begin
pub record IsIndexed (rows : List TransferRow) (begins : List ℕ) : Type 0 where
  pub by_pair : IsByPair rows
  pub once : HaveOwnPairs rows
  pub starts : HaveStarts rows begins
  pub from : All (λ row. from_of row + 1 < length begins) rows

-- the first row of each pair is the same
unfoldable pub HaveSameFirsts : List TransferRow → List TransferRow → Type 0
HaveSameFirsts rows kept = (a b : ℕ) → find (is_to b) (filter (is_from a) kept)
    ≡ find (is_to b) (filter (is_from a) rows)

-- the first location of a pair
abbrev pub place_of : Link → ℕ
place_of link = link.place

-- this location is the first of the pair
abbrev pub is_at : ℕ → Link → Bool
is_at place link = nat_eq (place_of link) place

-- a table as contracts see it
abbrev pub seen_table : Inside → ChangeTables
seen_table a = record { stops = a.places; transfers = a.transfers; default = a.default }

-- every row is looked at, every parent is a location, and locations have numbers
pub record IsKept (t : ChangeTables) : Type 0 where
  pub few : length t.stops < 2 ^ 32
  pub rows : All (λ row. IsTrue (is_looked_at t.stops row)) t.transfers
  pub parents : All (λ (row : StopRow). IfSome row.parent (λ p. p < length t.stops)) t.stops
