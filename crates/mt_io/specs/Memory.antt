-- What a source, a sink and a feed in memory are, and what their calls do to them.
use Rattle.std.specs.Prelude.{ℕ, List, [], ◌∷◌, ◌++◌, drop}
use Rattle.mt_io.specs.Causes.{CanFail, Faults, at_any_call, never, once_full, one_more}
use Rattle.mt_io.specs.Tables.{Shelved}

-- where calls are listed that fail, any call can; else the object fails when it can by itself
abbrev pub can_fail : List ℕ → CanFail → CanFail
can_fail [] by_itself = by_itself
can_fail (call ∷ calls) by_itself = at_any_call

-- Bytes that are left, the most that a read gives, the numbers of the calls that fail, and how many
-- calls and faults there were.
pub record MemoryReader : Type 0 where
  pub left : List ℕ
  pub piece : ℕ
  pub failing : List ℕ
  pub calls : ℕ
  pub faults : ℕ

-- how often it has failed. A read of it fails only where that is listed
abbrev pub reader_faults : MemoryReader → Faults
reader_faults s = record { count = s.faults; can = can_fail s.failing never }

-- it was read from
abbrev pub after_read : MemoryReader → ℕ → MemoryReader
after_read s n = record s { left = drop n s.left; calls = one_more s.calls }

-- a read of it failed
abbrev pub after_read_fault : MemoryReader → MemoryReader
after_read_fault s = record s { calls = one_more s.calls; faults = one_more s.faults }

-- Bytes that are held, how many can be, the numbers of the calls that fail, and how many calls and
-- faults there were.
pub record MemoryWriter : Type 0 where
  pub held : List ℕ
  pub room : ℕ
  pub failing : List ℕ
  pub calls : ℕ
  pub faults : ℕ

-- how often it has failed. A write to it fails only where that is listed, or where it is full
abbrev pub writer_faults : MemoryWriter → Faults
writer_faults s = record { count = s.faults; can = can_fail s.failing (once_full s.room) }

-- these bytes were written to it
abbrev pub after_write : MemoryWriter → List ℕ → MemoryWriter
after_write s bytes = record s { held = s.held ++ bytes; calls = one_more s.calls }

-- a write to it failed
abbrev pub after_write_fault : MemoryWriter → MemoryWriter
after_write_fault s = record s { calls = one_more s.calls; faults = one_more s.faults }

-- Tables, the numbers of the calls that fail, and how many calls and faults there were.
pub record MemoryTables : Type 0 where
  pub tables : List Shelved
  pub failing : List ℕ
  pub calls : ℕ
  pub faults : ℕ

-- how often it has failed. It fails only at calls that are listed
abbrev pub tables_faults : MemoryTables → Faults
tables_faults s = record { count = s.faults; can = can_fail s.failing never }

-- it was asked for a table
abbrev pub after_table : MemoryTables → MemoryTables
after_table s = record s { calls = one_more s.calls }

-- it was asked for a table, and failed
abbrev pub after_table_fault : MemoryTables → MemoryTables
after_table_fault s = record s { calls = one_more s.calls; faults = one_more s.faults }

-- Bytes that are left, and the most that a read gives.
pub record SureReader : Type 0 where
  pub left : List ℕ
  pub piece : ℕ
