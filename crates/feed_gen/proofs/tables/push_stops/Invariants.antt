use Rattle.std.proofs.Common.{◌≡◌, ◌++◌}
use Rattle.feed_gen.specs.Tables.{stop_row}
use Rattle.feed_gen.specs.Texts.{texts_below}
use Rattle.feed_gen.proofs.tables.push_stops.Given as goal

-- the rows so far were appended
abbrev pub invariant-loop-stop : goal.invariant-loop-stop
invariant-loop-stop l = l.table.items ≡ l.fn.table.items ++ texts_below stop_row l.stop
