-- The lines of an input: its pieces between LFs, the last one only if it isn't empty.
-- Where the end of the input wasn't read, the last piece is a line only if it is long.
use Rattle.std.specs.Prelude.{ℕ, List, [], ◌∷◌, Bool, true, false, if◌then◌else◌, ◌==◌, nat_lt, nat_le, length}

-- the bytes before the first LF, or all
abbrev pub before_lf : List ℕ → List ℕ
before_lf [] = []
before_lf (x ∷ xs) = if x == 10 then [] else x ∷ before_lf xs

-- the bytes behind the first LF, or none
abbrev pub after_lf : List ℕ → List ℕ
after_lf [] = []
after_lf (x ∷ xs) = if x == 10 then xs else after_lf xs

-- x goes onto the first piece
abbrev pub onto : ℕ → List (List ℕ) → List (List ℕ)
onto x [] = (x ∷ []) ∷ []
onto x (piece ∷ pieces) = (x ∷ piece) ∷ pieces

-- the pieces between LFs: one more than there are LFs
abbrev pub pieces : List ℕ → List (List ℕ)
pieces [] = [] ∷ []
pieces (x ∷ xs) = if x == 10 then [] ∷ pieces xs else onto x (pieces xs)

-- a line of fewer than 65,536 bytes, or a long one
pub data Line : Type 0 where
  short : List ℕ → Line
  long : Line

-- the line that a piece is
abbrev pub line_of : List ℕ → Line
line_of piece = if nat_lt (length piece) 65536 then short piece else long

-- whether the piece behind the last LF is a line: at the end of the input if it isn't empty, else
-- if it is long
abbrev pub last_counts : Bool → List ℕ → Bool
last_counts true piece = nat_lt 0 (length piece)
last_counts false piece = nat_le 65536 (length piece)

-- the lines of pieces, where the last one stands behind the last LF
abbrev pub lines_among : Bool → List (List ℕ) → List Line
lines_among ended [] = []
lines_among ended (piece ∷ []) = if last_counts ended piece then line_of piece ∷ [] else []
lines_among ended (piece ∷ next ∷ more) = line_of piece ∷ lines_among ended (next ∷ more)

-- the lines of the bytes of an input, whose end was read or not
unfoldable pub lines_of : Bool → List ℕ → List Line
lines_of ended input = lines_among ended (pieces input)

-- the lines, where first the rest of a long line is passed over
abbrev pub lines_past : Bool → Bool → List ℕ → List Line
lines_past true ended input = lines_of ended (after_lf input)
lines_past false ended input = lines_of ended input
