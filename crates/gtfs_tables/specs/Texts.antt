-- How a reader of a text in memory stands between two records.
use Rattle.std.specs.Prelude.{ℕ, ◌≡◌, List, ◌∷◌, [], Bool, true, false, Some}
use Rattle.std.specs.declared.option.Option.{Option}
use Rattle.std.specs.Borrow.{Bor}
use Rattle.csv.specs.Reading.{Ready, AreRecords, default_config, reader_config, reader_trim, reader_state, source_of, strip_bom}
use Rattle.csv.specs.declared.parser.State.TheVariants as st
use Rattle.csv.specs.declared.reader.Reader.{Reader}
use Rattle.csv.specs.declared.reader.Trim.TheVariants as trim

-- these are all the records of a text, after a byte order mark at its start
abbrev pub AreRecordsOf : List ℕ → List (List (List ℕ)) → Type 0
AreRecordsOf text all = AreRecords default_config st.StartRecord (strip_bom text) all

-- a text in memory, and its bytes
abbrev pub Text : Type 0
Text = Bor (List ℕ)

abbrev pub known : Text → Option (List ℕ)
known s = Some s.now

-- it reads with the defaults, its next read is of one record, and its bytes are known
pub record Rests (reader : Reader Text) : Type 0 where
  pub config : reader_config reader ≡ default_config
  pub trim : reader_trim reader ≡ trim.None
  pub ready : Ready reader

-- these are all the records that it has yet to read
abbrev pub Remains : Reader Text → List (List (List ℕ)) → Type 0
Remains reader all = (bytes : List ℕ) × (source_of known reader ≡ Some bytes)
    × AreRecords default_config (reader_state reader) bytes all

-- the first of them was read, or there is none
abbrev pub Steps : Reader Text → Reader Text → Bool → List (List ℕ) → Type 0
Steps old new true fields = (all : List (List (List ℕ))) → Remains old all
    → (rest : List (List (List ℕ))) × (all ≡ fields ∷ rest) × Remains new rest
Steps old new false fields = (all : List (List (List ℕ))) → Remains old all → all ≡ []
