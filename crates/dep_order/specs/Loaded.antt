-- Departures that got their places as numbers.
use Rattle.std.specs.Prelude.{ℕ, zero, suc, List, [], ◌∷◌, Option, None, Some, replicate}
use Rattle.dep_order.specs.declared.departure.Departure.{Departure}

-- the first so many of these departures by number, with so many slots beyond those for all of them
abbrev pub first_loaded : ℕ → List Departure → ℕ → List (Option Departure)
first_loaded i [] spare = replicate spare None
first_loaded zero (d ∷ ds) spare = None ∷ first_loaded zero ds spare
first_loaded (suc i) (d ∷ ds) spare = Some d ∷ first_loaded i ds spare
