-- A window that is filled line by line.
use Rattle.query_crew.proofs.Words.{◌≡◌, ◌∙◌, ℕ, ◌+◌, ◌<◌, ◌≤◌, List, [], ◌∷◌, ◌++◌, length, Bool, true, false, Option, refl, sym, ap, subst, arith, length-append, append-nil, length-map, list_any, Line, Reader, GivesNext, Names, WindowLine, said_by, window_line, window_lines, is_flush_line, is_flush}
use Rattle.std.proofs.Common.{nat_eq}
use Rattle.std.proofs.lemmas.List.{map-append}
use Rattle.mt_io.specs.Reader.{work}
use Rattle.mt_io.proofs.Gives.{gives_nothing}
use Rattle.std.specs.Prelude.{Err, IfErr, Ok, Result, Some}
use Rattle.std.specs.Result.{IsErrAnd}
use Rattle.information_service.specs.Causes.{reads_failed}
use Rattle.information_service.specs.declared.fault.LinesFault.{LinesFault}
use Rattle.information_service.specs.declared.fault.LinesFault.TheVariants as faults
use Rattle.mt_io.specs.Causes.{Faults}
use Rattle.mt_io.specs.Reader.{IsDone}
use Rattle.query_crew.specs.declared.reading.WindowEnd.TheVariants as ends
use Rattle.query_crew.specs.Reading.{StopsAt, IsOneLine, IsCutWindow, IsReadWindow, StopsWindow}
use Rattle.query_crew.proofs.Calls.{gives-both}
use Rattle.query_crew.proofs.Ends.{shown-flush, none-more, closed-by-flush, closed-by-count, open-lines}

-- these lines were taken so far, and none of them is a flush
pub record IsBegun (names : Names) (first now : Reader) (left left_now : Option (List ℕ)) (lines : List Line) (window : List WindowLine) : Type 0 where
  pub taken : GivesNext first now left left_now lines
  pub shown : window ≡ window_lines names lines
  pub no_flush : list_any is_flush lines ≡ false
  pub most : length lines ≤ 256
  pub work : work now + length lines ≤ work first

pub begun-none : (names : Names) (r : Reader) (left : Option (List ℕ)) (window : List WindowLine) → window ≡ [] → IsBegun names r r left left [] window
begun-none names r left window none =
    record { taken = ([], gives_nothing r left); shown = none; no_flush = refl; most = omega arith; work = omega arith }

-- where a window is not full, it has fewer lines than a window can have
pub fewer : (names : Names) (lines : List Line) (window : List WindowLine) → window ≡ window_lines names lines → length lines ≤ 256 → nat_eq (length window) 256 ≡ false → length lines < 256
fewer names lines window shown most full =
    let same : length window ≡ length lines = ap length shown ∙ length-map lines (λ x. window_line names (said_by x)) in
    grind arith

module _ {names : Names} {first mid now : Reader} {left left_mid left_now : Option (List ℕ)} {lines more : List Line} {window : List WindowLine}
    (b : IsBegun names first mid left left_mid lines window) (next : GivesNext mid now left_mid left_now more) (same : mid.ended ≡ true → left_now ≡ left_mid) where
  -- what was taken with the last call
  pub taken-more : GivesNext first now left left_now (lines ++ more)
  taken-more = gives-both first mid now left left_mid left_now lines more b.taken next same

  -- one line more
  shown-more : (w : WindowLine) (one : IsOneLine names w more mid now) → window ++ w ∷ [] ≡ window_lines names (lines ++ one.line ∷ [])
  shown-more w one =
      (λ k. b.shown k ++ one.said k ∷ []) ∙ sym (map-append (λ (x : Line). window_line names (said_by x)) lines (one.line ∷ []))

  taken-line : (w : WindowLine) (one : IsOneLine names w more mid now) → GivesNext first now left left_now (lines ++ one.line ∷ [])
  taken-line w one = subst (λ (ls : List Line). GivesNext first now left left_now (lines ++ ls)) one.taken taken-more

  flush-is : (w : WindowLine) (one : IsOneLine names w more mid now) (b : Bool) → is_flush_line w ≡ b → is_flush one.line ≡ b
  flush-is w one b is = sym (shown-flush names (said_by one.line)) ∙ ap is_flush_line (sym one.said) ∙ is

  pub begun-more : (w : WindowLine) (one : IsOneLine names w more mid now)
      → length lines < 256 → is_flush_line w ≡ false → IsBegun names first now left left_now (lines ++ one.line ∷ []) (window ++ w ∷ [])
  begun-more w one few other =
      record {
        taken = taken-line w one;
        shown = shown-more w one;
        no_flush = none-more is_flush lines one.line b.no_flush (flush-is w one false other);
        most = omega (arith, length-append lines (one.line ∷ []));
        work = omega (arith, length-append lines (one.line ∷ []), b.work, one.work);
      }

  -- the flush that ends the window
  pub filled : (w : WindowLine) (one : IsOneLine names w more mid now) → length lines < 256 → is_flush_line w ≡ true
      → (all : List Line) × GivesNext first now left left_now all × IsReadWindow names ends.More all (window ++ w ∷ []) first now
  filled w one few flush = (
    lines ++ one.line ∷ [],
    taken-line w one,
    record {
      shown = shown-more w one;
      ended = (closed-by-flush lines one.line few b.no_flush (flush-is w one true flush), omega (arith, b.work, one.work));
    },
  )

  none-taken : more ≡ [] → GivesNext first now left left_now lines
  none-taken none = subst (GivesNext first now left left_now) (ap (λ (ls : List Line). lines ++ ls) none ∙ append-nil lines) taken-more

  -- no line more: the input is at its end
  pub none-came : more ≡ [] → length lines < 256 → IsDone now → (all : List Line) × GivesNext first now left left_now all × IsReadWindow names ends.End all window first now
  none-came none few at = (lines, none-taken none, record { shown = b.shown; ended = (open-lines lines few b.no_flush, at) })

  cut : length lines < 256 → IsCutWindow names lines window
  cut few = record { shown = b.shown; rest = open-lines lines few b.no_flush }

  -- or this is why
  pub stopped : (fault : LinesFault) → length lines < 256 → StopsAt fault more now → (all : List Line) × GivesNext first now left left_now all × StopsWindow names fault all window now
  stopped faults.ReadFault few at = (lines, none-taken at.0, (cut few, at.1))
  stopped faults.WriteFault few at = absurd at
  stopped faults.OutOfMemory few at = (lines ++ more, taken-more, tt)
  stopped faults.TooLong few at = (lines, none-taken at.0, (cut few, at.1))

-- what holds of the fault that was handed on
pub handed-on : {A E : Type 0} (run : Result A E) (f : E) (P : E → Type 0) → IsErrAnd run (λ e. e ≡ f) → P f → IfErr run P
handed-on (Ok x) f P is p = tt
handed-on (Err e) f P is p = subst P (sym is) p

-- and how many reads failed then
pub same-reads : {A : Type 0} (B : Type 0) (run : Result A LinesFault) (f : LinesFault) (first mid now : Faults)
    → IsErrAnd run (λ e. e ≡ f) → mid ≡ first → Some now ≡ reads_failed {T = B} (Err f) mid → Some now ≡ reads_failed run first
same-reads B (Ok x) f first mid now is same failed = absurd is
same-reads B (Err e) f first mid now is same failed = failed ∙ ap (λ (n : Faults). reads_failed {T = B} (Err f) n) same ∙ sym (ap (λ (x : LinesFault). reads_failed {T = B} (Err x) first) is)

-- the window is full
pub full : {names : Names} {first now : Reader} {left left_now : Option (List ℕ)} {lines : List Line} {window : List WindowLine}
    → IsBegun names first now left left_now lines window → nat_eq (length window) 256 ≡ true
    → (all : List Line) × GivesNext first now left left_now all × IsReadWindow names ends.More all window first now
full {names = names} {lines = lines} {window = window} b is =
    let same : length window ≡ length lines = ap length b.shown ∙ length-map lines (λ x. window_line names (said_by x)) in
    let all : nat_eq (length lines) 256 ≡ true = rw same at is in
    let count : length lines ≡ 256 = grind arith in (
      lines,
      b.taken,
      record { shown = b.shown; ended = (closed-by-count lines all b.no_flush, omega (arith, b.work, count)) },
    )
