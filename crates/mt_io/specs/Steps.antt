-- What the steps of a call of a line reader do.
use Rattle.std.specs.Prelude.{ℕ, ◌≡◌, ◌+◌, ◌<◌, ◌≤◌, List, [], ◌++◌, true, false, length, slice_range}
use Rattle.std.specs.declared.option.Option.{Option}
use Rattle.std.specs.Io.KnownBytes.{Consumes, IsAtEnd, Keeps}
use Rattle.mt_io.specs.Lines.{before_lf}
use Rattle.mt_io.specs.Reader.{Reader}

-- no LF among them
abbrev pub HasNoLf : List ℕ → Type 0
HasNoLf xs = before_lf xs ≡ xs

-- the bytes from start to end are held, and up to a place in them no LF stands
pub record Buffer (items : List ℕ) (start searched end : ℕ) : Type 0 where
  pub begins : start ≤ searched
  pub goes_on : searched ≤ end
  pub within : end ≤ 131072
  pub few : searched ≤ start + 65536
  pub lf : HasNoLf (slice_range items start searched)

-- what is held has no LF and is no long line, and of a long line that was answered nothing is held
pub record Waits (r : Reader) : Type 0 where
  pub lf : HasNoLf r.held
  pub small : length r.held < 65536
  pub passed : r.inside_long ≡ true → r.held ≡ []

-- the end and the numbers of bytes are as before
pub record SameCounts (old new : Reader) : Type 0 where
  pub ended : new.ended ≡ old.ended
  pub taken : new.taken ≡ old.taken
  pub budget : new.budget ≡ old.budget

-- these bytes came from the source, or none since it is at its end
pub record Takes (old new : Reader) (left left_now : Option (List ℕ))
    (bytes : List ℕ) : Type 0 where
  pub held : new.held ≡ old.held ++ bytes
  pub inside_long : new.inside_long ≡ old.inside_long
  pub taken : new.taken ≡ old.taken + length bytes
  pub budget : new.budget ≡ old.budget
  pub within : new.taken ≤ new.budget
  pub source : Consumes left left_now bytes
  pub goes_on : new.ended ≡ false → 0 < length bytes
  pub end : new.ended ≡ true → (bytes ≡ []) × IsAtEnd left_now

-- the call took nothing, and the source has what it had
pub record TookNothing (old new : Reader) (left left_now : Option (List ℕ)) : Type 0 where
  pub held : new.held ≡ old.held
  pub inside_long : new.inside_long ≡ old.inside_long
  pub counts : SameCounts old new
  pub source : Keeps left left_now
