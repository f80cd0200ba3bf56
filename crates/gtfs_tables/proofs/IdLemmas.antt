-- The ids of rows after one more id.
use Rattle.gtfs_tables.proofs.Words.{◌≡◌, ◌++◌, ◌∷◌, [], arith, ℕ, List, Option, Some, Bool, Ok, length, bytes_eq, not, if◌then◌else◌, number_of_id, number_from, AreDistinct}
use Rattle.std.specs.Prelude.{is_some}
use Rattle.gtfs_tables.specs.Ids.{AddsId}
use Rattle.gtfs_tables.specs.declared.ids.Ids.{Ids}
use Rattle.gtfs_tables.proofs.LawNames.{distinct-more}
use Rattle.gtfs_tables.proofs.NumberLemmas.{number_from-more}

-- an id that got the next number is one more, where there was no number for it
pub adds_id : (added : Bool) (n : ℕ) (id : List ℕ) (names : List (List ℕ)) (old : Option ℕ) (ids : Ids) → is_some old ≡ not added → old ≡ number_from 0 id names → n ≡ length names → AreDistinct names
    → ((name : List ℕ) → number_of_id ids name ≡ (if bytes_eq id name then Some n else number_from 0 name names)) → AddsId (Ok added) id names ids
adds_id added n id names old ids fresh before next distinct updates =
    let more : (name : List ℕ) → _ = λ name. number_from-more name id names (names ++ id ∷ []) n (number_from 0 name names) (number_of_id ids name) (updates name) in
    grind (arith, more, distinct-more id names distinct)
