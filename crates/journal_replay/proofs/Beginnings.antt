-- Of every beginning of a journal its whole lines are read, and nothing is refused.
use Rattle.std.proofs.Common.{◌≡◌, ◌⊎◌, ℕ, suc, ◌+◌, ◌-◌, ◌<◌, ◌≤◌, List, [], ◌∷◌, ◌++◌, All, take, length, map, nat_eq, false}
use Rattle.std.proofs.Common.{Option, Some, None, IsSome, inl, inr, refl, sym, ap, ◌∙◌, subst, append_assoc, append-nil, arith}
use Rattle.std.specs.List.{AllByRecursion, concat}
use Rattle.std.proofs.lemmas.Bool.Decides.{nat_tests}
use Rattle.std.proofs.lemmas.List.{length-append}
use Rattle.std.proofs.lemmas.List.Elements.{recursion_from_All}
use Rattle.delay_model.specs.declared.messages.Message.{Message}
use Rattle.information_service.specs.ServiceState.{ServiceState}
use Rattle.message_reader.specs.declared.wire.Wire.{Wire}
use Rattle.mt_io.specs.Lines.{pieces}
use Rattle.mt_io.specs.Steps.{HasNoLf}
use Rattle.mt_io.proofs.LineFacts.{no_lf_cons, no_lf_front}
use Rattle.journal_lines.specs.declared.heads.Head.{Head}
use Rattle.journal_lines.specs.Lines.{text_of_head, text_of_message}
use Rattle.journal_lines.proofs.ReadBack.{header-clear, lines-clear}
use Rattle.journal_replay.specs.Journals.{after_wires, journal_of, messages_in, AreTaken, CanBeHead, CanBeWritten, IsReadSoFar}
use Rattle.journal_replay.specs.Reading.{JournalProgress, accepted_wire, after_bytes, after_wire, line_taken, long_from, nothing_read}
use Rattle.journal_replay.proofs.ByteLemmas.{bytes-held, line-read}
use Rattle.journal_replay.proofs.LineLemmas.{pieces-cut, pieces-one}
use Rattle.journal_replay.proofs.MessageLines.{bytes_eq-same, head-ends, message-ends, message-found}

-- ---- a beginning of a line and of what stands behind it

-- it is one of the line without its end, or the line with it and a beginning of the rest
pub record IsBehind (bytes line rest more : List ℕ) : Type 0 where
  pub behind : List ℕ
  pub parts : bytes ≡ line ++ 10 ∷ behind
  pub goes_on : behind ++ rest ≡ more

pub cases-beginning : (bytes line rest more : List ℕ) → bytes ++ rest ≡ line ++ 10 ∷ more → ((tail : List ℕ) × (line ≡ bytes ++ tail)) ⊎ IsBehind bytes line rest more
cases-beginning [] line rest more is = inl (line, refl)
cases-beginning (b ∷ bytes) [] rest more is = inr (record { behind = bytes; parts = cc; goes_on = cc })
cases-beginning (b ∷ bytes) (c ∷ line) rest more is =
    let first : b ≡ c = cc in
    let later : bytes ++ rest ≡ line ++ 10 ∷ more = cc in
    elim (cases-beginning bytes line rest more later) [
      | inl found ↦ inl (found.0, cc)
      | inr found ↦
          let parts : bytes ≡ line ++ 10 ∷ found.behind = found.parts in
          inr (record { behind = found.behind; parts = cc; goes_on = found.goes_on })
    ]

-- ---- lines of messages

-- bytes of which none is below the blank hold no LF
clear-no_lf : (bytes : List ℕ) → AllByRecursion (λ b. 32 ≤ b) bytes → HasNoLf bytes
clear-no_lf [] clear = refl
clear-no_lf (b ∷ bytes) clear = no_lf_cons b bytes (λ is. let low : 32 ≤ b = clear.0 in omega arith) (clear-no_lf bytes clear.1)

some-there : {T : Type 0} (o : Option T) → IsSome o → (x : T) × (o ≡ Some x)
some-there (Some x) is = (x, refl)
some-there None is = cc

-- what stands behind the line of an accepted message
line-taken : (header : List ℕ) (p : JournalProgress) (w : Wire) (m : Message) → CanBeWritten w → 0 < p.lines → accepted_wire p.service w ≡ Some m
    → line_taken header (text_of_message w) p ≡ record { service = after_wire p.service w; messages = p.messages ++ m ∷ []; lines = p.lines + 1; held = []; refusal = None }
line-taken header p w m can some is =
    let later : nat_eq p.lines 0 ≡ false = grind (arith, nat_tests) in
    let found = message-found w can.proper can.labels can.texts in
    rw (later, found, is) refl

-- the messages behind an accepted one
messages-behind : (before : List Message) (s : ServiceState) (w : Wire) (m : Message) (ws : List Wire) → accepted_wire s w ≡ Some m
    → (before ++ m ∷ []) ++ messages_in (after_wire s w) ws ≡ before ++ messages_in s (w ∷ ws)
messages-behind before s w m ws is = rw is (append_assoc before (m ∷ []) (messages_in (after_wire s w) ws))

-- ---- the messages

-- so far such bytes are read behind a line
record IsReadOn (p : JournalProgress) (ws : List Wire) (bytes : List ℕ) (e : JournalProgress) : Type 0 where
  n : ℕ
  few : n ≤ length ws
  not_refused : e.refusal ≡ None
  count : length (pieces bytes) ≡ n + 1
  lines : e.lines ≡ p.lines + n
  service : e.service ≡ after_wires p.service (take n ws)
  messages : e.messages ≡ p.messages ++ messages_in p.service (take n ws)

-- a beginning of a line
begun : (header : List ℕ) (p : JournalProgress) (ws : List Wire) (bytes tail line : List ℕ) → p.refusal ≡ None → p.held ≡ [] → HasNoLf line → length line < long_from
    → line ≡ bytes ++ tail → IsReadOn p ws bytes (after_bytes header p bytes)
begun header p ws bytes tail line none empty clear short is =
    let no_lf : HasNoLf bytes = no_lf_front bytes tail (subst HasNoLf is clear) in
    let nothing : length p.held ≡ 0 = ap length empty in
    let few : length bytes < long_from = omega (arith, ap length is, length-append bytes tail) in
    subst (IsReadOn p ws bytes) (sym (bytes-held header p bytes none no_lf (omega arith)))
    (record { n = 0; few = omega arith; not_refused = none; count = ap length (pieces-one bytes no_lf); lines = omega arith; service = refl; messages = sym (append-nil p.messages) })

messages-read : (header : List ℕ) (ws : List Wire) (p : JournalProgress) (bytes rest : List ℕ) → p.refusal ≡ None → p.held ≡ [] → 0 < p.lines → AllByRecursion CanBeWritten ws
    → AreTaken p.service ws → bytes ++ rest ≡ concat (map text_of_message ws) → IsReadOn p ws bytes (after_bytes header p bytes)
messages-read header [] p [] rest none empty some can taken is =
    record { n = 0; few = omega arith; not_refused = none; count = refl; lines = omega arith; service = refl; messages = sym (append-nil p.messages) }
messages-read header [] p (b ∷ bytes) rest none empty some can taken is = cc
messages-read header (w ∷ ws) p bytes rest none empty some can taken is =
    let ended = message-ends w in
    let line : List ℕ = ended.line in
    let more : List ℕ = concat (map text_of_message ws) in
    let clear : HasNoLf line = clear-no_lf line (recursion_from_All (λ (b : ℕ). 32 ≤ b) line (lines-clear w line ended.is)) in
    let short : length line < long_from = omega (arith, can.0.short, ap length ended.is, length-append line (10 ∷ [])) in
    let cut : bytes ++ rest ≡ line ++ 10 ∷ more = is ∙ ap (λ (l : List ℕ). l ++ more) ended.is ∙ append_assoc line (10 ∷ []) more in
    elim (cases-beginning bytes line rest more cut) [
      | inl found ↦ begun header p (w ∷ ws) bytes found.0 line none empty clear short found.1
      | inr found ↦
          let m = some-there (accepted_wire p.service w) taken.0 in
          let q : JournalProgress = record { service = after_wire p.service w; messages = p.messages ++ m.0 ∷ []; lines = p.lines + 1; held = []; refusal = None } in
          let nothing : length p.held ≡ 0 = ap length empty in
          let on : after_bytes header p bytes ≡ after_bytes header q found.behind =
          ap (after_bytes header p) found.parts
          ∙ line-read header p line found.behind none clear (omega arith)
          ∙ ap (λ (l : List ℕ). after_bytes header (line_taken header ((l ++ line) ++ 10 ∷ []) p) found.behind) empty
          ∙ ap (λ (l : List ℕ). after_bytes header (line_taken header l p) found.behind) (sym ended.is)
          ∙ ap (λ (r : JournalProgress). after_bytes header r found.behind) (line-taken header p w m.0 can.0 some m.1) in
          let next = messages-read header ws q found.behind rest refl refl (omega arith) can.1 taken.1 found.goes_on in
          subst (IsReadOn p (w ∷ ws) bytes) (sym on)
          (record {
            n = suc next.n;
            few = omega (arith, next.few);
            not_refused = next.not_refused;
            count = omega (arith, next.count, ap length (ap pieces found.parts ∙ pieces-cut line found.behind clear));
            lines = omega (arith, next.lines);
            service = next.service;
            messages = next.messages ∙ messages-behind p.messages p.service w m.0 (take next.n ws) m.1;
          })
    ]

-- ---- the journal

header-taken : (head : Head) (s : ServiceState) → line_taken (text_of_head head) (text_of_head head) (nothing_read s) ≡ record { service = s; messages = []; lines = 1; held = []; refusal = None }
header-taken head s = rw (bytes_eq-same (text_of_head head)) refl

-- from behind the header
from-header : (s : ServiceState) (ws : List Wire) (bytes behind : List ℕ) (e : JournalProgress) → length (pieces bytes) ≡ suc (length (pieces behind))
    → IsReadOn (record { service = s; messages = []; lines = 1; held = []; refusal = None }) ws behind e → IsReadSoFar s ws bytes e
from-header s ws bytes behind e count on =
    let same : on.n ≡ e.lines - 1 = omega (arith, on.lines) in
    record {
      not_refused = on.not_refused;
      lines = omega (arith, on.lines, on.count);
      within = omega (arith, on.lines, on.few);
      service = on.service ∙ ap (λ (k : ℕ). after_wires s (take k ws)) same;
      messages = on.messages ∙ ap (λ (k : ℕ). messages_in s (take k ws)) same;
    }

pub journal-read : (head : Head) (s : ServiceState) (ws : List Wire) (bytes rest : List ℕ) → CanBeHead head → All CanBeWritten ws → AreTaken s ws → bytes ++ rest ≡ journal_of head ws
    → IsReadSoFar s ws bytes (after_bytes (text_of_head head) (nothing_read s) bytes)
journal-read head s ws bytes rest can all taken is =
    let header : List ℕ = text_of_head head in
    let p : JournalProgress = nothing_read s in
    let ended = head-ends head in
    let line : List ℕ = ended.line in
    let more : List ℕ = concat (map text_of_message ws) in
    let clear : HasNoLf line = clear-no_lf line (recursion_from_All (λ (b : ℕ). 32 ≤ b) line (header-clear head line ended.is)) in
    let short : length line < long_from = omega (arith, can.short, ap length ended.is, length-append line (10 ∷ [])) in
    let cut : bytes ++ rest ≡ line ++ 10 ∷ more = is ∙ ap (λ (l : List ℕ). l ++ more) ended.is ∙ append_assoc line (10 ∷ []) more in
    elim (cases-beginning bytes line rest more cut) [
      | inl found ↦
          let no_lf : HasNoLf bytes = no_lf_front bytes found.0 (subst HasNoLf found.1 clear) in
          let few : length bytes < long_from = omega (arith, ap length found.1, length-append bytes found.0) in
          subst (IsReadSoFar s ws bytes) (sym (bytes-held header p bytes refl no_lf (omega arith)))
          (record { not_refused = refl; lines = ap length (pieces-one bytes no_lf); within = omega arith; service = refl; messages = refl })
      | inr found ↦
          let q : JournalProgress = record { service = s; messages = []; lines = 1; held = []; refusal = None } in
          let on : after_bytes header p bytes ≡ after_bytes header q found.behind =
          ap (after_bytes header p) found.parts
          ∙ line-read header p line found.behind refl clear (omega arith)
          ∙ ap (λ (l : List ℕ). after_bytes header (line_taken header l p) found.behind) (sym ended.is)
          ∙ ap (λ (r : JournalProgress). after_bytes header r found.behind) (header-taken head s) in
          let next = messages-read header ws q found.behind rest refl refl (omega arith) (recursion_from_All CanBeWritten ws all) taken found.goes_on in
          subst (IsReadSoFar s ws bytes) (sym on)
          (from-header s ws bytes found.behind (after_bytes header q found.behind) (ap length (ap pieces found.parts ∙ pieces-cut line found.behind clear)) next)
    ]
