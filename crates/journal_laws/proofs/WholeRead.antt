-- The whole of a journal of messages that are accepted one after the other is read to its end.
use Rattle.std.proofs.Common.{◌≡◌, ℕ, ◌+◌, ◌<◌, ◌≤◌, nat_eq, false, List, [], ◌∷◌, ◌++◌, All, Some, None, refl, sym, ap, ◌∙◌}
use Rattle.std.proofs.Common.{length, map, append_assoc, append-nil, arith}
use Rattle.std.specs.List.{AllByRecursion, concat}
use Rattle.std.proofs.lemmas.Bool.Decides.{nat_tests}
use Rattle.std.proofs.lemmas.List.{length-append}
use Rattle.std.proofs.lemmas.List.Elements.{recursion_from_All}
use Rattle.delay_model.specs.declared.messages.Message.{Message}
use Rattle.information_service.specs.ServiceState.{ServiceState}
use Rattle.message_reader.specs.declared.wire.Wire.{Wire}
use Rattle.mt_io.specs.Steps.{HasNoLf}
use Rattle.mt_io.proofs.LineFacts.{no_lf_cons}
use Rattle.journal_lines.specs.declared.heads.Head.{Head}
use Rattle.journal_lines.specs.Lines.{text_of_head, text_of_message}
use Rattle.journal_lines.proofs.ReadBack.{header-clear, lines-clear}
use Rattle.journal_replay.specs.Journals.{after_wires, journal_of, messages_in, AreTaken, CanBeHead, CanBeWritten}
use Rattle.journal_replay.specs.Reading.{JournalProgress, accepted_wire, after_bytes, after_wire, line_taken, long_from, nothing_read}
use Rattle.journal_replay.specs.Taking.{before_line}
use Rattle.journal_replay.proofs.ByteLemmas.{line-read}
use Rattle.journal_replay.proofs.MessageLines.{bytes_eq-same, head-ends, message-ends, message-found}
use Rattle.journal_laws.proofs.Accepted.{some-there}

-- bytes of which none is below the blank hold no LF
clear-no_lf : (bytes : List ℕ) → AllByRecursion (λ b. 32 ≤ b) bytes → HasNoLf bytes
clear-no_lf [] clear = refl
clear-no_lf (b ∷ bytes) clear = no_lf_cons b bytes (λ is. let low : 32 ≤ b = clear.0 in omega arith) (clear-no_lf bytes clear.1)

-- where a line begins, a whole line of bytes at or above the blank is taken
own-line : (header : List ℕ) (p : JournalProgress) (text line more : List ℕ) → p.refusal ≡ None → p.held ≡ [] → text ≡ line ++ 10 ∷ [] → AllByRecursion (λ b. 32 ≤ b) line
    → length text ≤ long_from → after_bytes header p (text ++ more) ≡ after_bytes header (line_taken header text p) more
own-line header p text line more none empty is clear few =
    let nothing : length p.held ≡ 0 = ap length empty in
    let short : length p.held + length line < long_from = omega (arith, ap length is, length-append line (10 ∷ [])) in
    ap (after_bytes header p) (ap (λ (l : List ℕ). l ++ more) is ∙ append_assoc line (10 ∷ []) more)
    ∙ line-read header p line more none (clear-no_lf line clear) short
    ∙ ap (λ (l : List ℕ). after_bytes header (line_taken header ((l ++ line) ++ 10 ∷ []) p) more) empty
    ∙ ap (λ (l : List ℕ). after_bytes header (line_taken header l p) more) (sym is)

-- what stands behind the line of an accepted message
message-taken : (header : List ℕ) (n : ℕ) (s : ServiceState) (ms : List Message) (w : Wire) (m : Message) → CanBeWritten w → 0 < n → accepted_wire s w ≡ Some m
    → line_taken header (text_of_message w) (before_line n s ms) ≡ before_line (n + 1) (after_wire s w) (ms ++ m ∷ [])
message-taken header n s ms w m can some is =
    let later : nat_eq n 0 ≡ false = grind (arith, nat_tests) in
    let found = message-found w can.proper can.labels can.texts in
    rw (later, found, is) refl

-- the messages behind an accepted one
messages-behind : (ms : List Message) (s : ServiceState) (w : Wire) (m : Message) (ws : List Wire) → accepted_wire s w ≡ Some m
    → (ms ++ m ∷ []) ++ messages_in (after_wire s w) ws ≡ ms ++ messages_in s (w ∷ ws)
messages-behind ms s w m ws is = rw is (append_assoc ms (m ∷ []) (messages_in (after_wire s w) ws))

lines-read : (header : List ℕ) (ws : List Wire) (n : ℕ) (s : ServiceState) (ms : List Message) → 0 < n → AllByRecursion CanBeWritten ws → AreTaken s ws
    → after_bytes header (before_line n s ms) (concat (map text_of_message ws)) ≡ before_line (n + length ws) (after_wires s ws) (ms ++ messages_in s ws)
lines-read header [] n s ms some can taken =
    let same : n ≡ n + 0 = omega arith in
    ap (λ (k : ℕ). before_line k s ms) same ∙ ap (before_line (n + 0) s) (sym (append-nil ms))
lines-read header (w ∷ ws) n s ms some can taken =
    let p : JournalProgress = before_line n s ms in
    let m = some-there (accepted_wire s w) taken.0 in
    let ended = message-ends w in
    let clear = recursion_from_All (λ (b : ℕ). 32 ≤ b) ended.line (lines-clear w ended.line ended.is) in
    let more : List ℕ = concat (map text_of_message ws) in
    let same : (n + 1) + length ws ≡ n + length (w ∷ ws) = omega arith in
    let end : ServiceState = after_wires (after_wire s w) ws in
    own-line header p (text_of_message w) ended.line more refl refl ended.is clear can.0.short
    ∙ ap (λ (q : JournalProgress). after_bytes header q more) (message-taken header n s ms w m.0 can.0 some m.1)
    ∙ lines-read header ws (n + 1) (after_wire s w) (ms ++ m.0 ∷ []) (omega arith) can.1 taken.1
    ∙ ap (λ (k : ℕ). before_line k end ((ms ++ m.0 ∷ []) ++ messages_in (after_wire s w) ws)) same
    ∙ ap (before_line (n + length (w ∷ ws)) end) (messages-behind ms s w m.0 ws m.1)

-- the header is taken as the first line
header-taken : (head : Head) (s : ServiceState) → line_taken (text_of_head head) (text_of_head head) (nothing_read s) ≡ before_line 1 s []
header-taken head s = rw (bytes_eq-same (text_of_head head)) refl

pub whole-read : (head : Head) (s : ServiceState) (ws : List Wire) → CanBeHead head → All CanBeWritten ws → AreTaken s ws
    → after_bytes (text_of_head head) (nothing_read s) (journal_of head ws) ≡ before_line (length ws + 1) (after_wires s ws) (messages_in s ws)
whole-read head s ws can all taken =
    let header : List ℕ = text_of_head head in
    let more : List ℕ = concat (map text_of_message ws) in
    let ended = head-ends head in
    let clear = recursion_from_All (λ (b : ℕ). 32 ≤ b) ended.line (header-clear head ended.line ended.is) in
    let same : 1 + length ws ≡ length ws + 1 = omega arith in
    own-line header (nothing_read s) header ended.line more refl refl ended.is clear can.short
    ∙ ap (λ (q : JournalProgress). after_bytes header q more) (header-taken head s)
    ∙ lines-read header ws 1 s [] (omega arith) (recursion_from_All CanBeWritten ws all) taken
    ∙ ap (λ (k : ℕ). before_line k (after_wires s ws) (messages_in s ws)) same
