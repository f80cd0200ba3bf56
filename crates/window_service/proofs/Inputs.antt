-- What is received of the whole input, by what running its windows leaves.
use Rattle.window_service.proofs.Words.{◌≡◌, ◌⊎◌, ◌∙◌, ◌++◌, ℕ, List, [], Option, true, false, refl, ap, inl, inr, append_assoc, Network, State, LinesFault}
use Rattle.window_service.proofs.Words.{IsNotOfInput, WhereLinesStop, IsTaken, Line, Reader, IsDone, Names, Reply, IsClosedWindow, AreFirstReceived, AreAllReceived, IsReceivedWhole, IsReceivedInPart, IsReceivedAtFirst, HasEnded, HasStopped, HasBegun}
use Rattle.std.specs.Prelude.{Result, Ok, Err, IfErr, Some}
use Rattle.mt_io.specs.Causes.{Faults}
use Rattle.information_service.specs.Causes.{reads_failed, HasCounts}
use Rattle.information_service.proofs.Ends.{none_taken}
use Rattle.std.proofs.Common.{rules, subst, sym}
use Rattle.std.specs.Result.{IsErrAnd}
use Rattle.information_service.specs.declared.fault.LinesFault.TheVariants.{ReadFault, WriteFault, OutOfMemory, TooLong}
use Rattle.information_service.specs.Fronts.{EndWasRead}
use Rattle.information_service.proofs.Fronts.{end_was_read, first_lines}
use Rattle.delay_model.specs.Windows.{lines_of as lines_of_windows}
use Rattle.mt_io.specs.Lines.{lines_of}
use Rattle.mt_io.proofs.Gives.{consumes_none, open_ended}
use Rattle.mt_io.proofs.Runs.{ends}
use Rattle.std.proofs.lemmas.Bool.{cases_Bool}
use Rattle.std.proofs.lemmas.List.Elements.{All-nil}
use Rattle.window_service.proofs.Answered.{none-received}

module _ {K : Type 0} {Receives : K → K → Names → List Reply → Type 0} {nw : Network} {names : Names} {st : State} {r : Reader} {left left_now : Option (List ℕ)} {old new : K} where
  pub received-whole : (budget : ℕ) → r.budget ≡ budget → HasEnded Receives nw names st r left left_now old new → IsReceivedWhole Receives nw names st budget left left_now old new
  received-whole budget is h =
      record { bytes = h.bytes; took = h.read.source; ended = end_was_read budget is h.read h.done.ended; all = rw (ends h.bytes h.lines r h.read.lines_so_far h.done) h.output }

  pub received-in-part : HasStopped Receives nw names st r left left_now old new → IsReceivedInPart Receives nw names st left left_now old new
  received-in-part h = record { bytes = h.bytes; took = h.read.source; whole = rw h.are h.output }

-- the first of some lines are the first of more
first-more : {K Failed : Type 0} {Receives Begins : K → K → Names → List Reply → Type 0}
    {nw : Network} {names : Names} {st : State} {lines : List Line} {old new : K} (all more : List Line) → all ≡ lines ++ more
    → AreFirstReceived Failed Receives Begins nw names st lines old new → AreFirstReceived Failed Receives Begins nw names st all old new
first-more all more is f = record {
  windows = f.windows;
  window = f.window;
  later = f.later ++ more;
  split = is ∙ ap (λ (ls : List Line). ls ++ more) f.split ∙ append_assoc (lines_of_windows f.windows ++ f.window) f.later more;
  closed = f.closed;
  mid = f.mid;
  received = f.received;
  more = f.more;
}

module _ {K Failed : Type 0} {Receives Begins : K → K → Names → List Reply → Type 0} {nw : Network} {names : Names} {st : State} {left left_now : Option (List ℕ)} {old new : K} where
  first-by : {r : Reader} {taken : List ℕ} {lines : List Line} (budget : ℕ) → r.budget ≡ budget → IsTaken r left left_now taken lines
      → AreFirstReceived Failed Receives Begins nw names st lines old new ⊎ (IsDone r × AreAllReceived Receives Begins nw names st lines old new)
      → AreFirstReceived Failed Receives Begins nw names st (lines_of false taken) old new
      ⊎ (EndWasRead budget left_now taken × (AreFirstReceived Failed Receives Begins nw names st (lines_of true taken) old new
      ⊎ AreAllReceived Receives Begins nw names st (lines_of true taken) old new))
  first-by {r = r} {taken = taken} {lines = lines} budget is h (inl f) = elim (cases_Bool r.ended) [
    | inl was ↦ let more = first_lines r true taken lines (λ is. refl) h.lines_so_far in inr (end_was_read budget is h was, inl (first-more (lines_of true taken) more.0 more.1 f))
    | inr not_yet ↦ let more = first_lines r false taken lines (λ is. open_ended r.ended not_yet is) h.lines_so_far in inl (first-more (lines_of false taken) more.0 more.1 f)
  ]
  first-by {r = r} {taken = taken} {lines = lines} budget is h (inr all) = inr (end_was_read budget is h all.0.ended, inr (rw (ends taken lines r h.lines_so_far all.0) all.1))

  pub received-at-first : {r : Reader} (budget : ℕ) → r.budget ≡ budget
      → HasBegun Failed Receives Begins nw names st r left left_now old new → IsReceivedAtFirst Failed Receives Begins nw names st budget left left_now old new
  received-at-first budget is h = record { bytes = h.bytes; took = h.read.source; first = first-by budget is h.read h.output }

-- an output that received nothing
pub nothing-received : {K Failed : Type 0} {Receives Begins : K → K → Names → List Reply → Type 0} {nw : Network} {names : Names}
    {st : State} {budget : ℕ} {left : Option (List ℕ)} {out : K} → ¬ Failed → IsReceivedAtFirst Failed Receives Begins nw names st budget left left out out
nothing-received {Receives = Receives} {nw = nw} {names = names} {st = st} {left = left} {out = out} no_fault = record {
  bytes = [];
  took = consumes_none left;
  first = inl (record { windows = []; window = []; later = lines_of false []; split = refl; closed = All-nil IsClosedWindow; mid = out; received = none-received Receives nw names st out; more = inl (refl, no_fault) });
}

-- where no fault is of the input, the run did not stop at it
pub never-stops : (T : Type 0) (f : LinesFault) → IsNotOfInput f → WhereLinesStop T f
never-stops T ReadFault none = absurd none
never-stops T WriteFault none = tt
never-stops T OutOfMemory none = tt
never-stops T TooLong none = absurd none

-- and no read failed
pub no-more-reads : {T : Type 0} (run : Result T LinesFault) (n : Faults) → IfErr run IsNotOfInput → reads_failed run n ≡ Some n
no-more-reads (Ok value) n none = refl
no-more-reads (Err ReadFault) n none = absurd none
no-more-reads (Err WriteFault) n none = refl
no-more-reads (Err OutOfMemory) n none = refl
no-more-reads (Err TooLong) n none = absurd none

-- what is counted of a run that found no memory before it took anything
pub nothing-counted : {T : Type 0} (budget : ℕ) (run : Result T LinesFault) (left : Option (List ℕ)) (reads writes : Faults) (Full : Type 0) → IsErrAnd run (λ e. e ≡ OutOfMemory) → HasCounts budget run left left reads reads writes writes Full
nothing-counted budget (Ok x) left reads writes Full is = absurd is
nothing-counted {T} budget (Err f) left reads writes Full is =
    subst (λ (f : LinesFault). HasCounts {T = T} budget (Err f) left left reads reads writes writes Full) (sym is) (record {
      reads = search rules;
      writes = search rules;
      full = search rules;
      at_most = none_taken budget left;
      fewer = search rules;
      read_early = search rules;
      too_long = search rules;
    })
