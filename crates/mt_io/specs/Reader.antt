-- What a line reader has, and what a call of it does.
use Rattle.std.specs.Prelude.{ℕ, ◌≡◌, ◌+◌, ◌-◌, ◌<◌, ◌≤◌, List, [], ◌++◌, Bool, true, false, length}
use Rattle.std.specs.declared.option.Option.{Option}
use Rattle.std.specs.Io.KnownBytes.{Consumes, IsAtEnd}
use Rattle.mt_io.specs.Lines.{Line, lines_past}

-- Bytes that were taken and not yet answered, whether they begin inside a long line, whether the
-- end was read, how many bytes were taken in all, how many may be, and the line last answered.
pub record Reader : Type 0 where
  pub held : List ℕ
  pub inside_long : Bool
  pub ended : Bool
  pub taken : ℕ
  pub budget : ℕ
  pub line : List ℕ

-- the lines of what the reader holds and of what comes then, which the input ends with or not
abbrev pub ahead : Reader → List ℕ → Bool → List Line
ahead r rest ended = lines_past r.inside_long ended (r.held ++ rest)

-- no whole line is held: none that ends with an LF, and none of which 65,536 bytes are there
abbrev pub HoldsNoLine : Reader → Type 0
HoldsNoLine r = lines_past r.inside_long false r.held ≡ []

-- what can still come: once the end was read, nothing more
abbrev pub CanCome : Reader → List ℕ → Bool → Type 0
CanCome r rest ended = r.ended ≡ true → (rest ≡ []) × (ended ≡ true)

-- no more bytes were taken than may be, and fewer once the end was read
pub record IsWithinBudget (r : Reader) : Type 0 where
  pub taken : r.taken ≤ r.budget
  pub ended : r.ended ≡ true → r.taken < r.budget

-- A call took these bytes from the source and answered these lines. Whatever comes then, the lines
-- of what was held, of the bytes and of what comes are those answered, followed by those of what is
-- held now and of what comes.
pub record Gives (old new : Reader) (left left_now : Option (List ℕ)) (bytes : List ℕ)
    (lines : List Line) : Type 0 where
  pub source : Consumes left left_now bytes
  pub taken : new.taken ≡ old.taken + length bytes
  pub budget : new.budget ≡ old.budget
  pub within : IsWithinBudget old → IsWithinBudget new
  pub lines_ahead : (rest : List ℕ) (ended : Bool) → CanCome new rest ended
      → ahead old (bytes ++ rest) ended ≡ lines ++ ahead new rest ended
  pub still_ended : old.ended ≡ true → (new.ended ≡ true) × (bytes ≡ [])
  pub end : old.ended ≡ false → new.ended ≡ true → IsAtEnd left_now

-- a call took some bytes and answered these lines
abbrev pub GivesNext : Reader → Reader → Option (List ℕ) → Option (List ℕ) → List Line → Type 0
GivesNext old new left left_now lines = (bytes : List ℕ) × Gives old new left left_now bytes lines

-- what is left to do: bytes that may be taken, and bytes that are held
abbrev pub work : Reader → ℕ
work r = r.budget - r.taken + length r.held

-- the end was read, and nothing is held
pub record IsDone (r : Reader) : Type 0 where
  pub ended : r.ended ≡ true
  pub held : r.held ≡ []

-- the end was not read, no whole line is held, and more bytes may be taken
pub record CanReadOn (r : Reader) : Type 0 where
  pub ended : r.ended ≡ false
  pub none : HoldsNoLine r
  pub taken : r.taken < r.budget

-- the end was not read, no whole line is held, and all bytes that may be were taken
pub record IsSpent (r : Reader) : Type 0 where
  pub ended : r.ended ≡ false
  pub none : HoldsNoLine r
  pub taken : r.taken ≡ r.budget
