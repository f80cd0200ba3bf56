-- What a gate that takes turns is built from.
use Rattle.std.specs.Prelude.{ℕ, List}
use Rattle.mt_io.specs.declared.turn_gate.Hold.{Hold}

-- Its holds, and how many turns a thread waits for one at most.
pub record Holding : Type 0 where
  pub holds : List Hold
  pub turns : ℕ
