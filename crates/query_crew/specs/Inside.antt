-- What a window keeps.
use Rattle.std.specs.Prelude.{◌≤◌, All, length, vec_capacity}
use Rattle.delay_model.specs.Windows.{lines_per_window}
use Rattle.query_crew.specs.WindowLines.{IsWindowLine}
use Rattle.query_crew.specs.declared.window.Window.TheInside.{Inside}

-- it has no more lines than a window can have, and room for all of them
pub record IsConsistent (w : Inside) : Type 0 where
  pub lines : All IsWindowLine w.lines.items
  pub few : length w.lines.items ≤ lines_per_window
  pub room : lines_per_window ≤ vec_capacity w.lines
