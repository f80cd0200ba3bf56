-- Where the passengers boarded who are aboard at a departure.
use Rattle.std.specs.Prelude.{ℕ, ◌+◌, ◌-◌, ◌≤◌, ◌<◌, ◌^◌, List, nat_le, if◌then◌else◌, Option, Some, None, get_or, length, map, All}
use Rattle.conn_scan.specs.declared.aboard.Aboard.TheInside.{Inside}

-- the number that stands in a row, if it counts
abbrev pub row_number : ℕ → ℕ → Option ℕ
row_number base row = if nat_le base row then Some (row - base) else None

abbrev pub seen : Inside → List (Option ℕ)
seen a = map (row_number a.base) a.rows.items

-- the rows that count, and those that a later query writes, fit
pub record IsBased (a : Inside) : Type 0 where
  pub rows : All (λ row. row < a.base + length a.rows.items) a.rows.items
  pub fits : a.base + length a.rows.items < 2 ^ 32
  pub few : length a.rows.items ≤ 2 ^ 23
  pub begun : 1 ≤ a.base

-- the number of the boarding of those who are aboard at departure n
abbrev pub boarding_at : List (Option ℕ) → ℕ → Option ℕ
boarding_at list n = get_or list n None
