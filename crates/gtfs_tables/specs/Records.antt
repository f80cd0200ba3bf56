-- All the records of a text.
use Rattle.std.specs.Prelude.{ℕ, ◌+◌, List, length}
use Rattle.csv.specs.Reading.{default_config, records_from, strip_bom}
use Rattle.csv.specs.declared.parser.State.TheVariants as st

-- the records of a text as `csv` reads them, after a byte order mark at its start: there are not
-- more than bytes
unfoldable pub records_of : List ℕ → List (List (List ℕ))
records_of text = records_from default_config (length (strip_bom text) + 1) st.StartRecord
    (strip_bom text)
