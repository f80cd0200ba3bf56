-- The names of trains, beside the state, which speaks of trains by number.
use Rattle.std.specs.Prelude.{◌≡◌, ℕ, ◌⊎◌, List, length, Contains, Some, slice_get}

-- a train's trip_id in bytes, and its service day
pub record TrainName : Type 0 where
  pub trip : List ℕ
  pub day : ℕ

-- the train with this number has this name, where the names of all trains stand in the order of
-- their numbers
abbrev pub HasName : List TrainName → ℕ → TrainName → Type 0
HasName names train name = slice_get names train ≡ Some name

-- the number by which a message speaks of an extra train of this name: that of the train which has
-- the name, or the number of trains where none has it
abbrev pub IsExtraNumber : List TrainName → TrainName → ℕ → Type 0
IsExtraNumber names name n = HasName names n name ⊎ ((n ≡ length names) × (Contains names name → ⊥))
