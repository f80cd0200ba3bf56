use Rattle.std.proofs.Common.{◌≡◌, ◌++◌}
use Rattle.feed_gen.specs.Tables.{trip_row}
use Rattle.feed_gen.specs.Texts.{texts_below}
use Rattle.feed_gen.proofs.tables.push_trips.Given as goal

-- the rows so far were appended
abbrev pub invariant-loop-train : goal.invariant-loop-train
invariant-loop-train l = l.table.items ≡ l.fn.table.items ++ texts_below trip_row l.train
