-- What a writer of csv has written into a vector.
use Rattle.std.specs.Prelude.{◌≡◌, ℕ, List, ◌++◌, false, Vec}
use Rattle.std.specs.declared.alloc.Global.{Global}
use Rattle.csv.specs.declared.writer.Writer.{Writer}
use Rattle.csv.specs.Writing.{default_writer, writer_setup, writer_under, writer_pending, fields_written, has_written}

-- the bytes so far: those that are in the vector, and those that are still to be put there
abbrev pub bytes_of : Writer (Vec ℕ Global) → List ℕ
bytes_of w = (writer_under w).items ++ writer_pending w

-- a writer with the usual settings, which has ended each row that it has begun
pub record IsBetweenRows (w : Writer (Vec ℕ Global)) : Type 0 where
  pub setup : writer_setup w ≡ default_writer
  pub fields : fields_written w ≡ 0
  pub clean : has_written w ≡ false
