-- What is written for windows, where the texts of their replies are written.
use Rattle.window_service.proofs.Words.{◌≡◌, ◌⊎◌, ◌∙◌, ◌∷◌, ◌++◌, ℕ, List, [], All, Option, refl, sym, subst, arith, inl, inr, append_assoc, append-nil, Appends-trans, Appends-nil, Appends, Network, State, lines_of}
use Rattle.window_service.proofs.Words.{AppendsAll, AppendsFront, front_all, front_after, Line, Names, Reply, names_after, text_of_replies, AreServed, IsServed, IsClosedWindow, IsOpenWindow}
use Rattle.window_service.proofs.Words.{AreWholeWindowsServed, AppendsServed, AppendsWholeWindows, AppendsFirstWindows, AppendsServedFront, ReceivesTexts, BeginsTexts, AreReceivedFrom, AreReceived, AreWholeReceived, IsOneReceived, AreFirstReceived, AreAllReceived}
use Rattle.std.specs.Prelude.{Result, Ok, Err, OnOk, IfErr, IsErrOf, Some, true, false}
use Rattle.information_service.specs.declared.fault.LinesFault.{LinesFault}
use Rattle.information_service.specs.declared.fault.LinesFault.TheVariants.{WriteFault}
use Rattle.std.proofs.lemmas.List.Elements.{All-nil}
use Rattle.information_service.specs.Fronts.{AppendsWholeFront, EndWasRead}
use Rattle.information_service.proofs.Ends.{all_taken, ok_not_err, same_err}
use Rattle.information_service.proofs.Fronts.{taken_if}
use Rattle.mt_io.specs.Lines.{lines_of as lines_in}
use Rattle.window_service.specs.Received.{IsReceivedAtFirst, IsReceivedWhole}
use Rattle.query_crew.specs.Served.{text_from}
use Rattle.query_crew.proofs.Ends.{open-lines}
use Rattle.query_crew.proofs.ServedLemmas.{none-served, served-by, window-more, input-served}
use Rattle.window_service.proofs.Answered.{closed-more, lines-more}

none-open : IsOpenWindow []
none-open = open-lines [] (omega arith) refl

-- closed windows are the whole windows of their lines
whole-served : {nw : Network} {names : Names} {st : State} {ws : List (List Line)} {bytes : List ℕ}
    → All IsClosedWindow ws → AreServed nw names st ws bytes → AreWholeWindowsServed nw names st (lines_of ws) bytes
whole-served {ws = ws} closed served =
    record { windows = ws; last = []; are_read = record { closed = closed; rest = none-open }; joined = sym (append-nil (lines_of ws)); served = served }

-- before the first line nothing is written
pub nothing-served : (nw : Network) (names : Names) (st : State) → AreWholeWindowsServed nw names st [] []
nothing-served nw names st = whole-served (All-nil IsClosedWindow) (none-served nw names st)

module _ {K : Type 0} (written : K → Option (List ℕ)) (nw : Network) (names : Names) (st : State) where
  texts-from : (before : List Line) (ws : List (List Line)) (rs : List (List Reply)) (old new : K)
      → AreReceivedFrom (ReceivesTexts written) nw names st before ws rs old new → Appends (written old) (written new) (text_from nw names st before ws rs)
  texts-from before [] rs old new same = subst (λ (x : K). Appends (written old) (written x) []) (sym same) (Appends-nil (written old))
  texts-from before (w ∷ ws) [] old new same = subst (λ (x : K). Appends (written old) (written x) []) (sym same) (Appends-nil (written old))
  texts-from before (w ∷ ws) (r ∷ rs) old new taken =
      Appends-trans (written old) (written taken.0) (written new) (text_of_replies (names_after nw names st (before ++ w)) r) (text_from nw names st (before ++ w) ws rs) taken.1
      (texts-from (before ++ w) ws rs taken.0 new taken.2)

  texts-served : (ws : List (List Line)) (old new : K) → AreReceived (ReceivesTexts written) nw names st ws old new → AppendsAll (AreServed nw names st ws) (written old) (written new)
  texts-served ws old new t =
      let text = text_from nw names st [] ws t.replies in
      record { shown = text; is = served-by nw names st ws t.replies text t.are refl; written = texts-from [] ws t.replies old new t.received }

  pub all-written : (lines : List Line) (old new : K)
      → AreAllReceived (ReceivesTexts written) (ReceivesTexts written) nw names st lines old new → AppendsServed nw names st lines (written old) (written new)
  all-written lines old new a =
      let so_far = texts-served a.windows old a.mid a.received in
      let text = text_of_replies (names_after nw names st (lines_of a.windows ++ a.last)) a.ends.replies in
      subst (λ (ls : List Line). AppendsServed nw names st ls (written old) (written new)) (sym a.joined)
      (record {
        shown = so_far.shown ++ text;
        is = input-served nw names st a.windows a.last so_far.shown a.ends.replies a.are_read so_far.is a.ends.are;
        written = Appends-trans (written old) (written a.mid) (written new) so_far.shown text so_far.written a.ends.received;
      })

  pub whole-written : (lines : List Line) (old new : K) → AreWholeReceived (ReceivesTexts written) nw names st lines old new → AppendsWholeWindows nw names st lines (written old) (written new)
  whole-written lines old new a =
      let so_far = texts-served a.windows old new a.received in
      record { shown = so_far.shown; is = record { windows = a.windows; last = a.last; are_read = a.are_read; joined = a.joined; served = so_far.is }; written = so_far.written }

  first-by : {Failed : Type 0} (lines : List Line) (old new : K)
      (a : AreFirstReceived Failed (ReceivesTexts written) (BeginsTexts written Failed) nw names st lines old new)
      → ((new ≡ a.mid) × ¬ Failed) ⊎ (IsClosedWindow a.window × IsOneReceived (BeginsTexts written Failed) nw names st (lines_of a.windows) a.window a.mid new)
      → AppendsFirstWindows Failed nw names st lines (written old) (written new)
  first-by {Failed = Failed} lines old new a (inl none) =
      let so_far = texts-served a.windows old a.mid a.received in
      record {
        first = lines_of a.windows;
        later = a.window ++ a.later;
        shown = so_far.shown;
        split = sym (append_assoc (lines_of a.windows) a.window a.later) ∙ sym a.split;
        is = whole-served a.closed so_far.is;
        front = subst (λ (x : K). AppendsFront Failed (written old) (written x) so_far.shown) (sym none.0) (front_all none.1 (written old) (written a.mid) so_far.shown so_far.written);
      }
  first-by lines old new a (inr more) =
      let so_far = texts-served a.windows old a.mid a.received in
      let text = text_of_replies (names_after nw names st (lines_of a.windows ++ a.window)) more.1.replies in
      record {
        first = lines_of a.windows ++ a.window;
        later = a.later;
        shown = so_far.shown ++ text;
        split = sym a.split;
        is = subst (λ (ls : List Line). AreWholeWindowsServed nw names st ls (so_far.shown ++ text)) (lines-more a.windows a.window)
            (whole-served (closed-more a.windows a.window a.closed more.0) (window-more nw names st a.windows a.window so_far.shown more.1.replies so_far.is more.1.are));
        front = front_after (written old) (written a.mid) (written new) so_far.shown text so_far.written more.1.received;
      }

  first-written : {Failed : Type 0} (lines : List Line) (old new : K)
      → AreFirstReceived Failed (ReceivesTexts written) (BeginsTexts written Failed) nw names st lines old new
      → AppendsFirstWindows Failed nw names st lines (written old) (written new)
  first-written lines old new a = first-by lines old new a a.more

  -- a front of the replies to all lines of the input
  last-written : {Failed : Type 0} (lines : List Line) (old new : K)
      → AreAllReceived (ReceivesTexts written) (BeginsTexts written Failed) nw names st lines old new
      → (all : List ℕ) × IsServed nw names st lines all × AppendsFront Failed (written old) (written new) all
  last-written lines old new a =
      let so_far = texts-served a.windows old a.mid a.received in
      let text = text_of_replies (names_after nw names st (lines_of a.windows ++ a.last)) a.ends.replies in (
        so_far.shown ++ text,
        subst (λ (ls : List Line). IsServed nw names st ls (so_far.shown ++ text))
            (sym a.joined) (input-served nw names st a.windows a.last so_far.shown a.ends.replies a.are_read so_far.is a.ends.are),
        front_after (written old) (written a.mid) (written new) so_far.shown text so_far.written a.ends.received,
      )

  -- of the bytes that were taken, where the run stops and where it ends
  pub front-written : {Failed : Type 0} {budget : ℕ} {left left_now : Option (List ℕ)} (old new : K)
      → IsReceivedAtFirst Failed (ReceivesTexts written) (BeginsTexts written Failed) nw names st budget left left_now old new
      → AppendsServedFront Failed nw names st budget left left_now (written old) (written new)
  front-written {Failed = Failed} {budget = budget} {left_now = left_now} old new h = record { bytes = h.bytes; took = h.took; front = by h.first } where
    by : AreFirstReceived Failed (ReceivesTexts written) (BeginsTexts written Failed) nw names st (lines_in false h.bytes) old new
        ⊎ (EndWasRead budget left_now h.bytes × (AreFirstReceived Failed (ReceivesTexts written) (BeginsTexts written Failed) nw names st
        (lines_in true h.bytes) old new ⊎ AreAllReceived (ReceivesTexts written) (BeginsTexts written Failed) nw names st (lines_in true h.bytes) old new))
        → AppendsFirstWindows Failed nw names st (lines_in false h.bytes) (written old) (written new) ⊎ (EndWasRead budget left_now h.bytes
        × AppendsWholeFront Failed (IsServed nw names st) (AreWholeWindowsServed nw names st) (lines_in true h.bytes) (written old) (written new))
    by (inl first) = inl (first-written (lines_in false h.bytes) old new first)
    by (inr (end, inl first)) = inr (end, inl (first-written (lines_in true h.bytes) old new first))
    by (inr (end, inr all)) = inr (end, inr (last-written (lines_in true h.bytes) old new all))

  -- of all bytes of an input that tells them
  pub whole-told : {budget : ℕ} {left left_now : Option (List ℕ)} (old new : K)
      → IsReceivedWhole (ReceivesTexts written) nw names st budget left left_now old new
      → (bytes : List ℕ) → left ≡ Some bytes → AppendsServed nw names st (lines_in true bytes) (written old) (written new)
  whole-told {left = left} {left_now = left_now} old new h bytes told =
      subst (λ (bs : List ℕ). AppendsServed nw names st (lines_in true bs) (written old) (written new))
      (all_taken left left_now bytes h.bytes h.took h.ended.left told) (all-written (lines_in true h.bytes) old new h.all)

  pub whole-front : {Failed : Type 0} {budget : ℕ} {left left_now : Option (List ℕ)} (old new : K)
      → ¬ Failed → IsReceivedWhole (ReceivesTexts written) nw names st budget left left_now old new
      → AppendsServedFront Failed nw names st budget left left_now (written old) (written new)
  whole-front old new no_fault h =
      let all = all-written (lines_in true h.bytes) old new h.all in
      record { bytes = h.bytes; took = h.took; front = inr (h.ended, inr (all.shown, all.is, front_all no_fault (written old) (written new) all.shown all.written)) }

  pub either-front : {budget : ℕ} {left left_now : Option (List ℕ)} (run : Result (Unit {0}) LinesFault) (old new : K)
      → OnOk run (IsReceivedWhole (ReceivesTexts written) nw names st budget left left_now old new)
      → IfErr run (λ f. IsReceivedAtFirst (f ≡ WriteFault) (ReceivesTexts written) (BeginsTexts written (f ≡ WriteFault))
      nw names st budget left left_now old new) → AppendsServedFront (IsErrOf run WriteFault) nw names st budget left left_now (written old) (written new)
  either-front (Ok u) old new whole first = whole-front old new (ok_not_err (Ok u) u WriteFault refl) whole
  either-front (Err f) old new whole first = taken_if (same_err (Err f) f WriteFault refl) (front-written old new first)
