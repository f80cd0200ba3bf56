-- How answering ends: what was taken, and what the lines leave.
use Rattle.information_service.proofs.Words.{◌≡◌, ◌∙◌, ℕ, List, [], ◌++◌, arith, Option, Some, None, Result, Ok, Err, sym, ap, refl, subst, true, append-nil, none-some, same_Some, Consumes, IsAtEnd, Line, Reader, consumes_none, WhereLinesStop}
use Rattle.std.specs.Prelude.{IfErr, OnOk, IsErrOf}
use Rattle.std.specs.Result.{IsErrAnd}
use Rattle.information_service.specs.Causes.{HasCounts, TookAll, TookAtMost, TookFewer, reads_failed, writes_failed}
use Rattle.mt_io.specs.Causes.{Faults}
use Rattle.information_service.specs.Fronts.{IsTaken}
use Rattle.information_service.specs.declared.fault.LinesFault.{LinesFault}
use Rattle.information_service.specs.declared.fault.LinesFault.TheVariants.{ReadFault, WriteFault, OutOfMemory, TooLong}

-- all bytes were taken where the source is at its end
pub all_taken : (left now : Option (List ℕ)) (bytes all : List ℕ) → Consumes left now all → IsAtEnd now → left ≡ Some bytes → all ≡ bytes
all_taken None now bytes all source end is = absurd (none-some bytes is)
all_taken (Some xs) None bytes all source end is = absurd source
all_taken (Some xs) (Some ys) bytes all source end is =
    sym (append-nil all) ∙ ap (λ (r : List ℕ). all ++ r) (sym end) ∙ sym source ∙ same_Some xs bytes is

-- no more bytes were taken than may be, and fewer where the end was read
pub at_most_taken : {r : Reader} {left left_now : Option (List ℕ)} {bytes : List ℕ} {lines : List Line} (budget : ℕ)
    → r.budget ≡ budget → IsTaken r left left_now bytes lines → TookAtMost budget left left_now
at_most_taken {bytes = bytes} budget is t = (bytes, t.source, omega (arith, is, t.within.taken, t.lines_so_far.taken))

pub fewer_taken : {r : Reader} {left left_now : Option (List ℕ)} {bytes : List ℕ} {lines : List Line} (budget : ℕ)
    → r.budget ≡ budget → IsTaken r left left_now bytes lines → r.ended ≡ true → TookFewer budget left left_now
fewer_taken {bytes = bytes} budget is t ended = (bytes, t.source, omega (arith, is, t.within.ended ended, t.lines_so_far.taken))

pub none_taken : (budget : ℕ) (left : Option (List ℕ)) → TookAtMost budget left left
none_taken budget left = ([], consumes_none left, omega arith)

-- what holds of every error
pub each_fault : {E : Type 0} (run : Result (Unit {0}) E) (P : E → Type 0) → ((f : E) → P f) → IfErr run P
each_fault (Ok u) P all = tt
each_fault (Err f) P all = all f

-- what holds of the error that was handed on
pub handed_on : {E : Type 0} (run : Result (Unit {0}) E) (f : E) (Q : E → Type 0) → IsErrAnd run (λ e. e ≡ f) → Q f → IfErr run Q
handed_on (Ok u) f Q is q = tt
handed_on (Err e) f Q is q = subst Q (sym is) q

-- a run that stopped for this did not stop for a failed write
pub memory_not_write : OutOfMemory ≡ WriteFault → ⊥
memory_not_write is = cc

pub read_not_write : ReadFault ≡ WriteFault → ⊥
read_not_write is = cc

pub long_not_write : TooLong ≡ WriteFault → ⊥
long_not_write is = cc

-- an error is no other one, and none where all went well
pub same_err : {E : Type 0} (run : Result (Unit {0}) E) (e f : E) → run ≡ Err e → run ≡ Err f → e ≡ f
same_err run e f one other = cc

pub ok_not_err : {E : Type 0} (run : Result (Unit {0}) E) (u : Unit {0}) (f : E) → run ≡ Ok u → run ≡ Err f → ⊥
ok_not_err run u f one other = absurd cc

-- the error that was handed on is the same one
pub same_fault : {E : Type 0} {g : E} (run : Result (Unit {0}) E) (f : E) → IsErrAnd run (λ e. e ≡ f) → IsErrOf run g → f ≡ g
same_fault (Ok u) f handed is = absurd handed
same_fault (Err e) f handed is = sym handed ∙ same_err (Err e) e _ refl is

-- so it is none that another one is not
pub not_write_if : {E : Type 0} {g : E} (run : Result (Unit {0}) E) (f : E) → (f ≡ g → ⊥) → IsErrAnd run (λ e. e ≡ f) → IsErrOf run g → ⊥
not_write_if run f other handed is = other (same_fault run f handed is)

-- what holds whether a run went well or not
pub either-way : {E P : Type 0} (run : Result (Unit {0}) E) → OnOk run P → IfErr run (λ f. P) → P
either-way (Ok u) well not_well = well
either-way (Err f) well not_well = not_well

pub where_also : (T U : Type 0) (f : LinesFault) → (T → U) → WhereLinesStop T f → WhereLinesStop U f
where_also T U ReadFault h t = h t
where_also T U WriteFault h t = tt
where_also T U OutOfMemory h t = tt
where_also T U TooLong h t = h t

-- what a run counts that hands a fault on, by what the step counts in which that came. No write had failed before it
pub counts_of : {budget : ℕ} {left left_now : Option (List ℕ)}
    {reads reads_now first writes writes_now : Faults} {Full : Type 0} (run : Result (Unit {0}) LinesFault) (f : LinesFault)
    → IsErrAnd run (λ e. e ≡ f) → writes ≡ first → Some reads_now ≡ reads_failed {T = Unit {0}} (Err f) reads
    → Some writes_now ≡ writes_failed {T = Unit {0}} (Err f) writes → (f ≡ WriteFault → Full)
    → TookAtMost budget left left_now → (f ≡ ReadFault → TookFewer budget left left_now) → (f ≡ TooLong → TookAll budget left left_now)
    → HasCounts budget run left left_now reads reads_now first writes_now Full
counts_of (Ok u) f is same read write full at_most early long = absurd is
counts_of {budget} {left} {left_now} {reads} {reads_now} {first} {writes} {writes_now} {Full} (Err e) f is same read write full at_most early long =
    subst (λ (x : LinesFault). HasCounts {T = Unit {0}} budget (Err x) left left_now reads reads_now first writes_now Full) (sym is) (record {
      reads = read;
      writes = subst (λ (n : Faults). Some writes_now ≡ writes_failed {T = Unit {0}} (Err f) n) same write;
      full = λ was. full (same_err (Err f) f _ refl was);
      at_most = at_most;
      fewer = tt;
      read_early = λ was. early (same_err (Err f) f _ refl was);
      too_long = λ was. long (same_err (Err f) f _ refl was);
    })
