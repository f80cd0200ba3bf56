-- What the machine is seen as.
use Rattle.std.specs.Prelude.{ℕ, List}
use Rattle.snapshot_board.specs.declared.event.ViewerCounts.{ViewerCounts}

-- the posted messages, the count that each note holds, and what each viewer knows
pub record BoardState (M : Type 0) : Type 0 where
  pub posted : List M
  pub notes : List ℕ
  pub viewers : List ViewerCounts
