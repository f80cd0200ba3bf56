-- What holds of the tables and the lines of so many trains.
use Rattle.std.specs.Prelude.{ℕ, ◌≡◌, ◌<◌, ◌≤◌, ◌^◌, List, [], ◌∷◌, ◌++◌, true, map, length, IfSome}
use Rattle.mt_io.specs.Lines.{Line, short, lines_of}
use Rattle.feed_gen.specs.Lines.{InputLine, flush, input, lines, query, text_of}
use Rattle.feed_gen.specs.Tables.{files}

-- a line of the input as one that is read
abbrev pub line_read : InputLine → Line
line_read x = short (text_of x)

-- cut into lines, the bytes of the input are its lines, all of them short
abbrev pub InputIsItsLines : Type 0
InputIsItsLines = (trains : ℕ) → trains ≤ 100000
    → lines_of true (input trains) ≡ map line_read (lines trains)

-- the input has fewer bytes than the program takes of an input
abbrev pub InputIsShort : Type 0
InputIsShort = (trains : ℕ) → trains ≤ 100000 → length (input trains) < 2 ^ 40

-- no table has more bytes than a table may have
abbrev pub TablesAreShort : Type 0
TablesAreShort = (trains : ℕ) (folder name : List ℕ) → trains ≤ 100000
    → IfSome (files trains folder name) (λ table. length table ≤ 268435456)

-- the lines before a line end with a flush
abbrev pub EndsWithFlush : List InputLine → Type 0
EndsWithFlush before = (earlier : List InputLine) × (before ≡ earlier ++ flush ∷ [])

-- the lines behind a line begin with a flush
abbrev pub BeginsWithFlush : List InputLine → Type 0
BeginsWithFlush after = (later : List InputLine) × (after ≡ flush ∷ later)

-- in these lines a flush stands just before each query, and another just behind it
abbrev pub HasQueriesBetweenFlushes : List InputLine → Type 0
HasQueriesBetweenFlushes xs = (before after : List InputLine) (train : ℕ)
    → xs ≡ before ++ query train ∷ after → EndsWithFlush before × BeginsWithFlush after
