-- What the reader of a journal is seen as, and what it keeps.
use Rattle.std.specs.Prelude.{◌<◌, length}
use Rattle.journal_replay.specs.Reading.{long_from}
use Rattle.journal_replay.specs.ReaderStates.{ReaderState}
use Rattle.journal_replay.specs.declared.reader.JournalReader.TheInside.{Inside}

abbrev pub seen : Inside → ReaderState
seen r = record {
  header = r.header.items;
  lines = r.lines;
  held = r.held.items;
  refusal = r.refusal;
}

-- the line that is held is not too long
abbrev pub IsConsistent : Inside → Type 0
IsConsistent r = length r.held.items < long_from
