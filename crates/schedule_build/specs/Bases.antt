-- The bases of the loaded service days. GTFS Schedule measures times from noon minus 12 hours of
-- the service day: from the base of that day. Bases are counted in seconds from the base of day 0.
use Rattle.std.specs.Prelude.{◌≡◌, ℕ, suc, ◌+◌, ◌<◌, ◌≤◌, List, length, slice_index_or}

-- the base of a service day, or that of day 0 where the day is not loaded
abbrev pub base_at : List ℕ → ℕ → ℕ
base_at bases day = slice_index_or bases day 0

-- one base for each day, of which the first is 0, and each further one 22 to 26 hours after the one
-- before
pub record AreBases (days : ℕ) (bases : List ℕ) : Type 0 where
  pub count : length bases ≡ days
  pub begin : base_at bases 0 ≡ 0
  pub least : (day : ℕ) → suc day < days → base_at bases day + 79200 ≤ base_at bases (suc day)
  pub most : (day : ℕ) → suc day < days → base_at bases (suc day) ≤ base_at bases day + 93600
