-- What follows of the calls of a line reader for a whole input.
use Rattle.std.specs.Prelude.{ℕ, ◌≡◌, List, [], ◌++◌, Bool, true, false, length}
use Rattle.std.specs.declared.option.Option.{Option}
use Rattle.mt_io.specs.Lines.{Line, lines_of, lines_past}
use Rattle.mt_io.specs.Reader.{Reader, Gives, HoldsNoLine, IsDone, CanCome, ahead}
use Rattle.mt_io.specs.Answers.{next_lines, LeavesNext}
use Rattle.mt_io.specs.declared.lines.Next.{Next}
use Rattle.mt_io.specs.declared.lines.Next.TheVariants as next

-- a new reader
abbrev pub fresh : ℕ → Reader
fresh budget = record {
  held = [];
  inside_long = false;
  ended = false;
  taken = 0;
  budget = budget;
  line = [];
}

-- of all bytes that were taken, these lines were answered so far
pub record HasAnswered (bytes : List ℕ) (lines : List Line) (r : Reader) : Type 0 where
  pub taken : r.taken ≡ length bytes
  pub lines_ahead : (rest : List ℕ) (ended : Bool) → CanCome r rest ended
      → lines_of ended (bytes ++ rest) ≡ lines ++ ahead r rest ended

-- a new reader has answered nothing, of no bytes
abbrev pub BeginsWithNone : Type 0
BeginsWithNone = (budget : ℕ) → HasAnswered [] [] (fresh budget)

-- what a call takes and answers goes behind what was taken and answered before
abbrev pub GoesOnWithEach : Type 0
GoesOnWithEach = (bytes more : List ℕ) (lines answered : List Line) (old new : Reader)
    (left left_now : Option (List ℕ))
    → HasAnswered bytes lines old → Gives old new left left_now more answered
    → HasAnswered (bytes ++ more) (lines ++ answered) new

-- at the end the lines that were answered are those of the whole input
abbrev pub EndsWithAll : Type 0
EndsWithAll = (bytes : List ℕ) (lines : List Line) (r : Reader) → HasAnswered bytes lines r
    → IsDone r → lines_of true bytes ≡ lines

-- before the end, where no whole line is held, they are those of the bytes that were taken
abbrev pub StopsWithAll : Type 0
StopsWithAll = (bytes : List ℕ) (lines : List Line) (r : Reader) → HasAnswered bytes lines r
    → r.ended ≡ false → HoldsNoLine r → lines_of false bytes ≡ lines

-- `End` is answered where the end was read and no line is left, so also from then on
abbrev pub EndsExactly : Type 0
EndsExactly = (old new : Reader) (left left_now : Option (List ℕ)) (bytes : List ℕ) (answer : Next)
    → Gives old new left left_now bytes (next_lines answer) → LeavesNext answer old new
    → new.ended ≡ true → lines_past old.inside_long true (old.held ++ bytes) ≡ []
    → answer ≡ next.End

-- `Budget` is answered where the budget's bytes were taken, the end was not read, and no whole line
-- is left
abbrev pub SpendsExactly : Type 0
SpendsExactly = (old new : Reader) (left left_now : Option (List ℕ)) (bytes : List ℕ)
    (answer : Next)
    → Gives old new left left_now bytes (next_lines answer) → LeavesNext answer old new
    → new.ended ≡ false → new.taken ≡ new.budget → lines_past old.inside_long false
    (old.held ++ bytes) ≡ [] → answer ≡ next.Budget
