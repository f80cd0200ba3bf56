-- Where reading a window stops.
use Rattle.window_service.proofs.Words.{◌≡◌, ◌∙◌, List, false, refl, sym, ap, Some, LinesFault, WhereLinesStop, Line, Reader, HoldsNoLine, Names, IsOpenWindow}
use Rattle.std.specs.Prelude.{Result, Ok, Err}
use Rattle.std.specs.Result.{IsErrAnd}
use Rattle.information_service.proofs.Ends.{memory_not_write, read_not_write, long_not_write}
use Rattle.information_service.specs.Causes.{writes_failed}
use Rattle.information_service.specs.declared.fault.LinesFault.TheVariants.{ReadFault, WriteFault, OutOfMemory, TooLong}
use Rattle.mt_io.specs.Causes.{Faults}
use Rattle.mt_io.specs.Reader.{CanReadOn, IsSpent}
use Rattle.query_crew.specs.Reading.{StopsWindow}
use Rattle.query_crew.specs.declared.window_line.WindowLine.{WindowLine}

pub not-write : (names : Names) (lines : List Line) (window : List WindowLine) (r : Reader) (f : LinesFault) → StopsWindow names f lines window r → f ≡ WriteFault → ⊥
not-write names lines window r ReadFault h is = read_not_write is
not-write names lines window r WriteFault h is = h
not-write names lines window r OutOfMemory h is = memory_not_write is
not-write names lines window r TooLong h is = long_not_write is

-- where the input is to blame, the window is open and the reader has no line
pub where-open : (names : Names) (lines : List Line) (window : List WindowLine) (r : Reader) (T : Type 0) (f : LinesFault)
    → StopsWindow names f lines window r → (IsOpenWindow lines → r.ended ≡ false → HoldsNoLine r → T) → WhereLinesStop T f
where-open names lines window r T ReadFault h k = k h.0.rest h.1.ended h.1.none
where-open names lines window r T WriteFault h k = tt
where-open names lines window r T OutOfMemory h k = tt
where-open names lines window r T TooLong h k = k h.0.rest h.1.ended h.1.none

pub reads-on : (names : Names) (lines : List Line) (window : List WindowLine) (r : Reader) (f : LinesFault) → StopsWindow names f lines window r → f ≡ ReadFault → CanReadOn r
reads-on names lines window r ReadFault h is = h.1
reads-on names lines window r WriteFault h is = absurd h
reads-on names lines window r OutOfMemory h is = absurd cc
reads-on names lines window r TooLong h is = absurd cc

pub all-spent : (names : Names) (lines : List Line) (window : List WindowLine) (r : Reader) (f : LinesFault) → StopsWindow names f lines window r → f ≡ TooLong → IsSpent r
all-spent names lines window r ReadFault h is = absurd cc
all-spent names lines window r WriteFault h is = absurd h
all-spent names lines window r OutOfMemory h is = absurd cc
all-spent names lines window r TooLong h is = h.1

no-writes : (names : Names) (lines : List Line) (window : List WindowLine) (r : Reader) (T : Type 0) (f : LinesFault) (n : Faults)
    → StopsWindow names f lines window r → Some n ≡ writes_failed {T = T} (Err f) n
no-writes names lines window r T ReadFault n h = refl
no-writes names lines window r T WriteFault n h = absurd h
no-writes names lines window r T OutOfMemory n h = refl
no-writes names lines window r T TooLong n h = refl

-- no write failed
pub same-writes : (names : Names) (lines : List Line) (window : List WindowLine) (r : Reader) {T : Type 0} (run : Result T LinesFault)
    (f : LinesFault) (first now : Faults) → IsErrAnd run (λ e. e ≡ f) → now ≡ first → StopsWindow names f lines window r → Some now ≡ writes_failed run first
same-writes names lines window r (Ok x) f first now is same h = absurd is
same-writes names lines window r {T} (Err e) f first now is same h = ap Some same ∙ no-writes names lines window r T f first h ∙ sym (ap (λ (x : LinesFault). writes_failed {T = T} (Err x) first) is)
