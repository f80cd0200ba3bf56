-- Names by number, in the order in which they first appear.
use Rattle.std.specs.Prelude.{ℕ, ◌+◌, List, [], ◌∷◌, ◌++◌, length, if◌then◌else◌, Some, None, unwrap_or, bytes_eq}
use Rattle.std.specs.declared.option.Option.{Option}

-- the place of a name, counted on from a number
abbrev pub number_from : ℕ → List ℕ → List (List ℕ) → Option ℕ
number_from at name [] = None
number_from at name (first ∷ names) = if bytes_eq name first then Some at else number_from
    (at + 1) name names

-- the names, with the name at their end if it is a new one
abbrev pub with_name : Option ℕ → List ℕ → List (List ℕ) → List (List ℕ)
with_name None name names = names ++ name ∷ []
with_name (Some n) name names = names

-- the number of a name: its place, or for a new one the number of names before it
abbrev pub number_in : List ℕ → List (List ℕ) → ℕ
number_in name names = unwrap_or (number_from 0 name names) (length names)

-- the names after one more name
abbrev pub names_with : List ℕ → List (List ℕ) → List (List ℕ)
names_with name names = with_name (number_from 0 name names) name names
