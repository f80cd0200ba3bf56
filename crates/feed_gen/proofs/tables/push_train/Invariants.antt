use Rattle.std.proofs.Common.{◌≡◌, ◌++◌}
use Rattle.feed_gen.specs.Tables.{call_row}
use Rattle.feed_gen.specs.Texts.{texts_below}
use Rattle.feed_gen.proofs.tables.push_train.Given as goal

-- the rows so far were appended
abbrev pub invariant-loop-call : goal.invariant-loop-call
invariant-loop-call l = l.table.items ≡ l.fn.table.items ++ texts_below (call_row l.train) l.call
