-- Two lists of entries as one, and the entries of a list that are live.
use Rattle.std.specs.Prelude.{List, [], ◌∷◌, Bool, true, if◌then◌else◌}
use Rattle.mt_base.specs.declared.index_entries.Entry.{Entry}
use Rattle.mt_base.specs.Order.{is_before_entry}
use Rattle.station_index.specs.Indexed.{with_entry}

-- the entries of both lists, each in its place
abbrev pub merged : List Entry → List Entry → List Entry
merged es [] = es
merged es (x ∷ xs) = with_entry x (merged es xs)

-- the elements whose flag is set
abbrev pub kept : {X : Type 0} → List X → List Bool → List X
kept [] flags = []
kept (x ∷ xs) [] = []
kept (x ∷ xs) (flag ∷ flags) = if flag then x ∷ kept xs flags else kept xs flags

-- the entry stands before the first of others, if there is one
abbrev pub comes_first : Entry → List Entry → Bool
comes_first e [] = true
comes_first e (x ∷ xs) = is_before_entry e x
