-- What `frequencies.txt` says of a feed: whether trips run at intervals.
use Rattle.std.specs.Prelude.{ℕ, List, [], ◌∷◌, Bool, true, false}

-- a record follows the header, by all records of the table
abbrev pub has_rows : List (List (List ℕ)) → Bool
has_rows [] = false
has_rows (header ∷ []) = false
has_rows (header ∷ row ∷ rows) = true
