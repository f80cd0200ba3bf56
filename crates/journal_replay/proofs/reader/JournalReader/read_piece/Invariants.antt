use Rattle.std.proofs.Common.{◌≡◌, ◌≤◌, ℕ, ◌+◌, List, ◌++◌, length, None}
use Rattle.journal_replay.specs.ReaderStates.{HasRead}
use Rattle.journal_replay.specs.Taking.{IsReadyFor}
use Rattle.journal_replay.proofs.reader.JournalReader.read_piece.Given as goal

abbrev pub invariant-loop-end : goal.invariant-loop-end
invariant-loop-end g l = record {
  front : List ℕ;
  split : front ++ l.rest ≡ l.piece;
  read : HasRead g.T.TakeJournal.stands l.initial.taker l.initial.self front l.taker l.self;
  header : l.self.header ≡ l.initial.self.header;
  not_refused : l.self.refusal ≡ None;
  few : l.self.lines + length l.rest ≤ l.initial.self.lines + length l.piece;
  ready : IsReadyFor g.T.TakeJournal.stands l.taker (length l.rest);
}

abbrev pub decreases-loop-end : goal.decreases-loop-end
decreases-loop-end g l = length l.rest
