-- How many records, rows and names the tables of a feed have.
use Rattle.std.specs.Prelude.{ℕ, ◌+◌, ◌≤◌, List, length}
use Rattle.csv.specs.declared.reader.Reader.{Reader}
use Rattle.gtfs_tables.specs.Texts.{Remains, Text}

-- a text that is not longer than a table of a feed may be
abbrev pub IsSmall : List ℕ → Type 0
IsSmall text = length text ≤ 268435456

-- it has at most so many records yet to read
abbrev pub HasAtMost : ℕ → Reader Text → Type 0
HasAtMost most reader = (rest : List (List (List ℕ))) × Remains reader rest × (length rest ≤ most)

-- the rows and names that are counted before a row and after it: at most three more
abbrev pub GrowsByRow : ℕ → ℕ → Type 0
GrowsByRow old new = new ≤ old + 3

-- the same before a table and after it: at most three more for each byte that a table may have
abbrev pub GrowsByTable : ℕ → ℕ → Type 0
GrowsByTable old new = new ≤ old + 805306368
