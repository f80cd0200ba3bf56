-- Keys of rows in a set.
use Rattle.gtfs_tables.proofs.Words.{◌≡◌, ◌∙◌, ◌++◌, ◌∷◌, [], ◌==◌, ◌&&◌, ℕ, List, Bool, true, cond, arith, common_steps, nat_cmp}
use Rattle.std.proofs.lemmas.List.Folds.{list_any-append}
use Rattle.std.specs.List.{list_any}
use Rattle.std.specs.Ordering.{is_eq, ordering_then}

-- pairs of numbers are equal keys where both parts are equal
pub is_eq-pair : (a b c d : ℕ) → is_eq (ordering_then (nat_cmp a c) (nat_cmp b d)) ≡ ((a == c) && (b == d))
is_eq-pair a b c d = grind (arith, common_steps)

-- a set with one key more has the keys of rows with one row more
pub key-more : {R : Type 0} (same : R → Bool) (rows more : List R) (row : R) (old new here : Bool)
    → new ≡ cond here true old → old ≡ list_any same rows → here ≡ same row → more ≡ rows ++ row ∷ [] → new ≡ list_any same more
key-more same rows more row old new here updates before is longer =
    updates ∙ grind (arith, common_steps, list_any-append same rows (row ∷ []))
