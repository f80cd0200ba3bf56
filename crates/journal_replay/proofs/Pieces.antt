-- A reader that reads the next bytes.
use Rattle.std.proofs.Common.{◌≡◌, ◌∙◌, ℕ, ◌+◌, ◌<◌, ◌≤◌, List, [], ◌∷◌, ◌++◌, length, Option, Some, None, Result, Ok, Err, refl, sym, ap, subst, arith}
use Rattle.std.specs.Result.{IfErr, IsErrAnd}
use Rattle.delay_model.specs.declared.messages.Message.{Message}
use Rattle.information_service.specs.ServiceState.{ServiceState}
use Rattle.mt_io.specs.Steps.{HasNoLf}
use Rattle.journal_replay.specs.Journals.{held_at_end}
use Rattle.journal_replay.specs.Reading.{JournalProgress, after_bytes, line_taken, long_from, refused}
use Rattle.journal_replay.specs.ReaderStates.{HasRead, IsAt, IsNotHeld, ReaderState, StopsAt, StopsIn, progress}
use Rattle.journal_replay.specs.Taking.{IsJudged, IsReadyFor, before_line}
use Rattle.journal_replay.specs.declared.refusal.JournalRefusal.{JournalRefusal}
use Rattle.journal_replay.specs.declared.refusal.JournalRefusal.TheVariants.{Header, Line, OutOfMemory}
use Rattle.journal_replay.proofs.ByteLemmas.{bytes-held, bytes-too-long, lf-read, line_taken-from, line_taken-held, read-append, refused-stays}
use Rattle.journal_replay.proofs.Counts.{line-counts}

-- what holds of why it stops holds where that is handed on
pub handed : {X E : Type 0} (P : E → Type 0) (run : Result X E) (e : E) → IsErrAnd run (λ x. x ≡ e) → P e → IfErr run P
handed P (Ok x) e is p = tt
handed P (Err f) e is p = subst P (sym is) p

-- progress is its fields
fields-are : (x : JournalProgress) (lines : ℕ) (held : List ℕ) (refusal : Option JournalRefusal) → x.lines ≡ lines → x.held ≡ held → x.refusal ≡ refusal
    → x ≡ record { service = x.service; messages = x.messages; lines = lines; held = held; refusal = refusal }
fields-are x lines held refusal a b c = rw (sym a, sym b, sym c) refl

module _ {T : Type 0} (Stands : T → ServiceState → List Message → Type 0) where
  -- nothing was read
  pub read-none : (taker : T) (r : ReaderState) → HasRead Stands taker r [] taker r
  read-none taker r p is = is

  -- bytes that end no line are held
  pub read-held : (first taker : T) (r0 r new : ReaderState) (front bytes : List ℕ) → HasRead Stands first r0 front taker r → r.header ≡ r0.header → r.refusal ≡ None → HasNoLf bytes
      → new ≡ record { header = r.header; lines = r.lines; held = r.held ++ bytes; refusal = r.refusal } → length r.held + length bytes < long_from
      → HasRead Stands first r0 (front ++ bytes) taker new
  read-held first taker r0 r new front bytes so same none_yet no_lf is short p at =
      let q = after_bytes r0.header p front in
      let there = so p at in
      let held : q.held ≡ r.held = ap (λ (x : JournalProgress). x.held) there.reads in
      let none : q.refusal ≡ None = ap (λ (x : JournalProgress). x.refusal) there.reads ∙ none_yet in
      let now : after_bytes r0.header p (front ++ bytes) ≡ progress new q.service q.messages =
      read-append r0.header p front bytes ∙ bytes-held r0.header q bytes none no_lf (omega (arith, ap length held, short))
      ∙ ap (λ (x : JournalProgress). held_at_end x (x.held ++ bytes)) there.reads
      ∙ ap (λ (x : ReaderState). progress x q.service q.messages) (sym is) in
      record {
        reads = now ∙ ap (λ (x : JournalProgress). progress new x.service x.messages) (sym now);
        stands = subst (λ (x : JournalProgress). Stands taker x.service x.messages) (sym now) there.stands;
      }

  -- ---- where a line ends

  module _ (first taker new_taker : T) (r0 r new : ReaderState) (front : List ℕ) (so : HasRead Stands first r0 front taker r) (same : r.header ≡ r0.header) (none_yet : r.refusal ≡ None) where
    -- so far it is read before the line
    abbrev before : JournalProgress → JournalProgress
    before p = before_line r.lines (after_bytes r0.header p front).service (after_bytes r0.header p front).messages

    -- the line that is held
    abbrev whole : List ℕ
    whole = r.held ++ 10 ∷ []

    -- reading its end takes it
    end-read : (p : JournalProgress) → IsAt Stands first r0 p → (more : List ℕ)
        → after_bytes r0.header p (front ++ 10 ∷ more) ≡ after_bytes r0.header (line_taken r.header whole (before p)) more
    end-read p at more =
        let q = after_bytes r0.header p front in
        let there = so p at in
        let none : q.refusal ≡ None = ap (λ (x : JournalProgress). x.refusal) there.reads ∙ none_yet in
        let short_of : (x : JournalProgress) → x ≡ progress r q.service q.messages → line_taken r0.header (x.held ++ 10 ∷ []) x ≡ line_taken r.header whole (before p) =
        λ x is. rw (is, same) (sym (line_taken-from r0.header whole (progress r q.service q.messages) [] None)) in
        read-append r0.header p front (10 ∷ more)
        ∙ ap (λ (x : JournalProgress). after_bytes r0.header x more) (lf-read r0.header q none ∙ short_of q there.reads)

    -- it was taken
    pub read-line : ((s : ServiceState) (ms : List Message) → Stands taker s ms → IsJudged Stands r.header r.lines s ms whole new_taker (Ok tt))
        → new ≡ record { header = r.header; lines = r.lines + 1; held = []; refusal = r.refusal } → HasRead Stands first r0 (front ++ 10 ∷ []) new_taker new
    read-line judged is p at =
        let q = after_bytes r0.header p front in
        let there = so p at in
        let x = line_taken r.header whole (before p) in
        let j = judged q.service q.messages there.stands in
        let now : after_bytes r0.header p (front ++ 10 ∷ []) ≡ x = end-read p at [] in
        let fields : x ≡ progress new x.service x.messages =
        fields-are x (r.lines + 1) [] r.refusal j.1 (line_taken-held r.header whole (before p)) (j.0 ∙ sym none_yet) ∙ ap (λ (y : ReaderState). progress y x.service x.messages) (sym is) in
        subst (IsAt Stands new_taker new) (sym now) (record { reads = fields; stands = j.2 })

    -- or it is refused
    refused-by : (why : JournalRefusal) → ((p : JournalProgress) → IsAt Stands first r0 p
        → (line_taken r.header whole (before p) ≡ refused why (before p)) × Stands new_taker (before p).service (before p).messages)
        → (more : List ℕ) (p : JournalProgress) → IsAt Stands first r0 p → StopsAt Stands new_taker r.lines why (after_bytes r0.header p (front ++ 10 ∷ more))
    refused-by why judged more p at =
        let j = judged p at in
        record {
          last = before p;
          refused_there = end-read p at more ∙ ap (λ (x : JournalProgress). after_bytes r0.header x more) j.0 ∙ refused-stays r0.header (refused why (before p)) why more refl;
          lines_are = refl;
          stands = j.1;
        }

    pub refuse-line : (why : JournalRefusal) → ((s : ServiceState) (ms : List Message) → Stands taker s ms → IsJudged Stands r.header r.lines s ms whole new_taker (Err why))
        → (more : List ℕ) → new.lines ≡ r.lines → StopsIn Stands first r0 (front ++ 10 ∷ more) new_taker new why
    refuse-line Header judged more is =
        λ p at. subst (λ (n : ℕ). StopsAt Stands new_taker n Header (after_bytes r0.header p (front ++ 10 ∷ more))) (sym is)
        (refused-by Header (λ x there. judged _ _ (so x there).stands) more p at)
    refuse-line (Line line) judged more is =
        λ p at. subst (λ (n : ℕ). StopsAt Stands new_taker n (Line line) (after_bytes r0.header p (front ++ 10 ∷ more))) (sym is)
        (refused-by (Line line) (λ x there. judged _ _ (so x there).stands) more p at)
    refuse-line OutOfMemory judged more is = record {
      front = front;
      begins = (10 ∷ more, refl);
      lines_are = λ p at. ap (λ (x : JournalProgress). x.lines) (so p at).reads ∙ sym is;
      stands = λ p at. judged _ _ (so p at).stands;
    }

  -- ---- where bytes are not held

  pub refuse-bytes : (first taker : T) (r0 r new : ReaderState) (front bytes more : List ℕ) (why : JournalRefusal) → HasRead Stands first r0 front taker r → r.refusal ≡ None → HasNoLf bytes
      → length r.held < long_from → IsNotHeld r bytes why → new.lines ≡ r.lines → StopsIn Stands first r0 (front ++ (bytes ++ more)) taker new why
  refuse-bytes first taker r0 r new front bytes more Header so none_yet no_lf short not is = absurd not
  refuse-bytes first taker r0 r new front bytes more (Line line) so none_yet no_lf short not is = λ p at.
      let q = after_bytes r0.header p front in
      let there = so p at in
      let held : q.held ≡ r.held = ap (λ (x : JournalProgress). x.held) there.reads in
      let count : q.lines ≡ r.lines = ap (λ (x : JournalProgress). x.lines) there.reads in
      let none : q.refusal ≡ None = ap (λ (x : JournalProgress). x.refusal) there.reads ∙ none_yet in
      let long : long_from ≤ length q.held + length bytes = omega (arith, ap length held, not.1) in
      let number : q.lines + 1 ≡ line = omega (arith, count, not.0) in
      record {
        last = q;
        refused_there = read-append r0.header p front (bytes ++ more) ∙ bytes-too-long r0.header q bytes more none no_lf (omega (arith, ap length held, short)) long
            ∙ ap (λ (n : ℕ). refused (Line n) q) number;
        lines_are = count ∙ sym is;
        stands = there.stands;
      }
  refuse-bytes first taker r0 r new front bytes more OutOfMemory so none_yet no_lf short not is = record {
    front = front;
    begins = (bytes ++ more, refl);
    lines_are = λ p at. ap (λ (x : JournalProgress). x.lines) (so p at).reads ∙ sym is;
    stands = λ p at. (so p at).stands;
  }

  -- ---- how many can be counted

  -- behind a line one fewer can be counted
  pub ready-behind : (taker new_taker : T) (header : List ℕ) (lines n : ℕ) (whole : List ℕ) → (ready : IsReadyFor Stands taker (n + 1))
      → IsJudged Stands header lines ready.service ready.before whole new_taker (Ok tt) → IsReadyFor Stands new_taker n
  ready-behind taker new_taker header lines n whole ready j =
      let p = before_line lines ready.service ready.before in
      record {
        service = (line_taken header whole p).service;
        before = (line_taken header whole p).messages;
        stands = j.2;
        room = omega (arith, line-counts header whole p, ready.room);
      }

  -- and where more can be counted, fewer can
  pub ready-less : (taker : T) (n m : ℕ) → n ≤ m → IsReadyFor Stands taker m → IsReadyFor Stands taker n
  ready-less taker n m le ready = record { service = ready.service; before = ready.before; stands = ready.stands; room = omega (arith, ready.room) }

  -- ---- at the end of a piece

  -- a reader that holds nothing and notes why is where the journal is refused
  noted : (why : JournalRefusal) (taker : T) (lines : ℕ) (new : ReaderState) (end : JournalProgress) → StopsAt Stands taker lines why end
      → new.lines ≡ lines → new.held ≡ [] → new.refusal ≡ Some why → IsAt Stands taker new end
  noted why taker lines new end stops is none noted_there =
      let e = stops.refused_there in
      subst (IsAt Stands taker new) (sym e) (record {
        reads = rw (is, none, noted_there, sym stops.lines_are) refl;
        stands = stops.stands;
      })

  pub read-refused : (why : JournalRefusal) → ¬ (why ≡ OutOfMemory) → (first : T) (r0 : ReaderState) (bytes : List ℕ) (taker : T) (r new : ReaderState)
      → StopsIn Stands first r0 bytes taker r why
      → new.lines ≡ r.lines → new.held ≡ [] → new.refusal ≡ Some why → HasRead Stands first r0 bytes taker new
  read-refused Header other first r0 bytes taker r new stops is none why_is = λ p at. noted Header taker r.lines new _ (stops p at) is none why_is
  read-refused (Line line) other first r0 bytes taker r new stops is none why_is = λ p at. noted (Line line) taker r.lines new _ (stops p at) is none why_is
  read-refused OutOfMemory other first r0 bytes taker r new stops is none why_is = absurd (other refl)
