-- The history, and what its steps tell.
use Rattle.std.specs.Prelude.{ℕ, ◌≡◌, ◌<◌, ◌==◌, true, List, [], ◌∷◌, ◌++◌, length, MatchBool}
use mathlib.Core.List.{IsPrefix}
use Rattle.logbook.specs.Pages.{Cell, Step, View, Book, Named}

-- ys begins with xs, and goes on
abbrev pub IsLonger : {M : Type 0} → List M → List M → Type 0
IsLonger xs ys = IsPrefix xs ys × (length xs < length ys)

-- the first word is the length of the list. The second is not used, and is 0
abbrev pub IsKept : {M : Type 0} → List Cell → List M → Type 0
IsKept words list = words ≡ (length list, true) ∷ (0, true) ∷ []

-- the word of a book that is the length
abbrev pub length_word : Book → Named
length_word b = record { tracked = true; key = 0; book = b }

-- the message was appended to all that had been seen; or the list was longer, and was seen
abbrev pub Appends : {M : Type 0} → Step M → View M ℕ → ℕ → View M ℕ → Type 0
Appends s v found w = MatchBool (found == s.old) (w.0 ≡ v.0 ++ s.ask ∷ []) (length w.0 ≡ found)
