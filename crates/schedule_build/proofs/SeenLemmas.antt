-- The names of the trips that run.
use Rattle.schedule_build.proofs.Words.{◌≡◌, ◌∙◌, ◌<◌, ◌++◌, ◌∷◌, [], ℕ, List, Bool, true, false, length, get_or, sym, arith, inl, inr, nat_eq, bytes_eq, bytes_eq-Decides, if◌then◌else◌}
use Rattle.std.proofs.lemmas.Bool.{cases_Bool, cases_lt, eqb-true}
use Rattle.std.proofs.lemmas.List.{get_or_past}
use Rattle.mt_base.specs.declared.tables.TripRow.{TripRow}
use Rattle.schedule_build.specs.Stored.{AreSeen, HasName, trip_of_row}
use Rattle.schedule_build.proofs.NumberLemmas.{number_from-end}

-- with one more name each name stays
pub has-more : (names : List (List ℕ)) (name other : List ℕ) → HasName names other → HasName (names ++ name ∷ []) other
has-more names name other h = rw (number_from-end (λ n. bytes_eq n other) 0 names name) (grind (arith, h))

pub has-new : (names : List (List ℕ)) (name : List ℕ) → HasName (names ++ name ∷ []) name
has-new names name = rw (number_from-end (λ n. bytes_eq n name) 0 names name) (grind (arith, bytes_eq-Decides name name))

true-false : true ≡ false → ⊥
true-false h = cc

-- one more row is marked, whose name is added
pub seen-more : (trips : List TripRow) (marks new : List Bool) (names : List (List ℕ)) (row : ℕ) → AreSeen trips marks names → length new ≡ length marks
    → ((s : ℕ) → s < length marks → get_or new s false ≡ (if nat_eq row s then true else get_or marks s false)) → AreSeen trips new (names ++ trip_of_row trips row ∷ [])
seen-more trips marks new names row h long set = record {
  seen = λ other marked.
      elim (cases_lt other (length marks)) [
        | inl within ↦
            elim (cases_Bool (nat_eq row other)) [
              | inl same ↦ (let is : row ≡ other = eqb-true row other same in rw (← is) (has-new names (trip_of_row trips row)))
              | inr differ ↦ (let was : get_or marks other false ≡ true = rw differ at (sym (set other within) ∙ marked) in has-more names (trip_of_row trips row) (trip_of_row trips other) (h.seen other was))
            ]
        | inr past ↦ absurd (true-false (sym marked ∙ get_or_past new other false (omega (arith, past, long))))
      ];
}
