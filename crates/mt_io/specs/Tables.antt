-- Tables by folder and name.
use Rattle.std.specs.Prelude.{ℕ, ◌<◌, List, [], ◌∷◌, ◌&&◌, if◌then◌else◌, length, bytes_eq, Some, None, IsSomeAnd}
use Rattle.std.specs.declared.option.Option.{Option}

-- a table by its folder, its name and its bytes
abbrev pub Shelved : Type 0
Shelved = List ℕ × List ℕ × List ℕ

-- the bytes of each table: the first one of a folder and a name counts
abbrev pub table_in : List Shelved → List ℕ → List ℕ → Option (List ℕ)
table_in [] folder name = None
table_in (table ∷ tables) folder name = if bytes_eq table.0 folder
    && bytes_eq table.1 name then Some table.2 else table_in tables folder name

-- the table is there, and has more than 268,435,456 bytes
abbrev pub IsTooLong : Option (List ℕ) → Type 0
IsTooLong table = IsSomeAnd table (λ bytes. 268435456 < length bytes)
