-- Up to how many rides passengers still board, and until when that stays so.
use Rattle.std.specs.Prelude.{◌≡◌, ℕ, ◌<◌, List, Option, length}
use Rattle.std.specs.Option.{option_map_or}
use Rattle.conn_scan.specs.declared.known.Ending.{Ending}
use Rattle.pareto_scan.specs.Levels.{level_at}
use Rattle.pareto_scan.specs.declared.bound.Bound.{Bound}
use Rattle.pareto_scan.specs.declared.level.Level.{Level}

-- when the best arrival is; where there is none, a number that is greater than any time
abbrev pub end_of : Option Ending → ℕ
end_of best = option_map_or (λ (e : Ending). e.time) best 4294967295

-- it is kept what happens after that number of rides, and its end is that of the best arrival
pub record IsBound (levels : List Level) (b : Bound) : Type 0 where
  pub within : b.top < length levels
  pub end : b.end ≡ end_of (level_at levels b.top).best
