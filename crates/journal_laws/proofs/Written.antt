-- What `journal` writes for the lines of an input is the journal of the messages that it accepts.
use Rattle.std.proofs.Common.{Bool, true, false, nat_lt, if◌then◌else◌, ◌≡◌, ℕ, ◌+◌, ◌≤◌, length, arith, List, [], ◌∷◌, ◌++◌, All, Option, Some, None}
use Rattle.std.proofs.Common.{Result, Ok, Err, refl, sym, ap, ◌∙◌, subst, map, append-nil}
use Rattle.std.specs.List.{AllByRecursion, concat}
use Rattle.std.proofs.lemmas.Bool.{cond_both, ltb-true}
use Rattle.std.proofs.lemmas.List.Elements.{All-cons, All-from_recursion, All-nil, recursion_from_All}
use mathlib.Core.List.{IsPrefix}
use Rattle.delay_model.specs.declared.messages.Message.{Message}
use Rattle.information_service.specs.Answering.{AreAnsweredBy, IsBeginning, IsWhole}
use Rattle.information_service.specs.Lines.{said_by}
use Rattle.information_service.specs.ServiceState.{ServiceState, after_line, after_said}
use Rattle.message_reader.specs.Lines.{line_of}
use Rattle.message_reader.specs.declared.bad_line.BadLine.{BadLine}
use Rattle.message_reader.specs.declared.wire.Line.{Line as Spoken}
use Rattle.message_reader.specs.declared.wire.Line.TheVariants.{Message as Says, Query as Asks, Flush}
use Rattle.message_reader.specs.declared.wire.Wire.{Wire}
use Rattle.mt_io.specs.Lines.{Line, last_counts, lines_among, lines_of, long, pieces, short}
use Rattle.mt_io.specs.Lines.{line_of as line_of_piece}
use Rattle.journal_lines.specs.declared.heads.Head.{Head}
use Rattle.journal_lines.specs.Lines.{text_of_head, text_of_message}
use Rattle.journal_answers.specs.JournaledLines.{accepted_text, journal_output, said_text}
use Rattle.journal_replay.specs.Journals.{after_wires, journal_of, messages_in, AreTaken, CanBeHead, CanBeWritten, IsReadSoFar}
use Rattle.journal_replay.specs.Reading.{accepted_wire, after_bytes, after_wire, nothing_read}
use Rattle.journal_replay.proofs.Beginnings.{journal-read}
use Rattle.journal_laws.specs.Journaled.{accepted_wires, after_lines, in_front, read_behind, said_in_front, IsInputLine}
use Rattle.journal_laws.proofs.Accepted.{refused-leaves}
use Rattle.journal_laws.proofs.ReadMessages.{IsRead, Said, can-write, line-said}
use Rattle.journal_laws.proofs.WholeRead.{whole-read}

-- the lines of messages
abbrev texts : List Wire → List ℕ
texts ws = concat (map text_of_message ws)

-- ---- a line of the input

-- its message stands in front of the others, and leads where the line leads
record LeadsOn (t next : ServiceState) (text : List ℕ) (ws all : List Wire) : Type 0 where
  written : text ++ texts ws ≡ texts all
  leaves : after_wires t all ≡ after_wires next ws
  taken : AreTaken next ws → AreTaken t all

message-leads : (t : ServiceState) (w : Wire) (ws : List Wire) (o : Option Message) → accepted_wire t w ≡ o → LeadsOn t (after_wire t w) (accepted_text w o) ws (in_front w o ws)
message-leads t w ws (Some m) is = record { written = refl; leaves = refl; taken = λ rest. (rw is refl, rest) }
message-leads t w ws None is =
    let same : after_wire t w ≡ t = refused-leaves t w is in
    record { written = refl; leaves = ap (λ (s : ServiceState). after_wires s ws) (sym same); taken = λ rest. subst (λ (s : ServiceState). AreTaken s ws) same rest }

said-leads : (t : ServiceState) (said : Result Spoken BadLine) (ws : List Wire) → LeadsOn t (after_said t said) (said_text t said) ws (said_in_front t said ws)
said-leads t (Ok (Says w)) ws = message-leads t w ws (accepted_wire t w) refl
said-leads t (Ok (Asks q)) ws = record { written = refl; leaves = refl; taken = λ rest. rest }
said-leads t (Ok Flush) ws = record { written = refl; leaves = refl; taken = λ rest. rest }
said-leads t (Err bad) ws = record { written = refl; leaves = refl; taken = λ rest. rest }

-- ---- the lines

pub lines-taken : (t : ServiceState) (lines : List Line) → AreTaken t (accepted_wires t lines)
lines-taken t [] = tt
lines-taken t (x ∷ xs) = (said-leads t (said_by x) (accepted_wires (after_line t x) xs)).taken (lines-taken (after_line t x) xs)

lines-lead : (t : ServiceState) (lines : List Line) → after_wires t (accepted_wires t lines) ≡ after_lines t lines
lines-lead t [] = refl
lines-lead t (x ∷ xs) = (said-leads t (said_by x) (accepted_wires (after_line t x) xs)).leaves ∙ lines-lead (after_line t x) xs

answers-are : (t : ServiceState) (header : List ℕ) (n : ℕ) (lines : List Line) (bytes : List ℕ) (now : ServiceState) (header_now : List ℕ)
    → AreAnsweredBy journal_output.answers t header n lines bytes now header_now → bytes ≡ texts (accepted_wires t lines)
answers-are t header n [] bytes now header_now none = none.0
answers-are t header n (x ∷ xs) bytes now header_now (text, rest, next, header_next, one, more, split) =
    let tail = answers-are next header_next (n + 1) xs rest now header_now more in
    split ∙ ap (λ (l : List ℕ). text ++ l) tail
    ∙ ap (λ (l : List ℕ). l ++ texts (accepted_wires next xs)) one.text_is
    ∙ ap (λ (s : ServiceState). said_text t (said_by x) ++ texts (accepted_wires s xs)) one.leaves
    ∙ (said-leads t (said_by x) (accepted_wires (after_line t x) xs)).written

-- ---- what was read of the lines can be written

abbrev IsWritten : Spoken → Type 0
IsWritten (Says w) = CanBeWritten w
IsWritten (Asks q) = Unit {0}
IsWritten Flush = Unit {0}

written : (n : ℕ) (said : Result Spoken BadLine) → n ≤ 65536 → Said (IsRead n) said → Said IsWritten said
written n (Ok (Says w)) few is = can-write n w few is
written n (Ok (Asks q)) few is = tt
written n (Ok Flush) few is = tt
written n (Err bad) few is = tt

line-written : (x : Line) → IsInputLine x → Said IsWritten (said_by x)
line-written long few = tt
line-written (short bytes) few = written (1 + length bytes) (line_of bytes) (omega arith) (line-said bytes)

-- the lines of an input are no others
input-line : (piece : List ℕ) → IsInputLine (line_of_piece piece)
input-line piece = cond_both (nat_lt (length piece) 65536) (short piece) long IsInputLine (λ lt. ltb-true (length piece) 65536 lt) (λ lt. tt)

last-input-line : (b : Bool) (piece : List ℕ) → AllByRecursion IsInputLine (if b then line_of_piece piece ∷ [] else [])
last-input-line true piece = (input-line piece, tt)
last-input-line false piece = tt

input-lines : (ended : Bool) (ps : List (List ℕ)) → AllByRecursion IsInputLine (lines_among ended ps)
input-lines ended [] = tt
input-lines ended (piece ∷ []) = last-input-line (last_counts ended piece) piece
input-lines ended (piece ∷ next ∷ more) = (input-line piece, input-lines ended (next ∷ more))

first-lines : (first later : List Line) → AllByRecursion IsInputLine (first ++ later) → AllByRecursion IsInputLine first
first-lines [] later all = tt
first-lines (x ∷ xs) later all = (all.0, first-lines xs later all.1)

pub first-are-input-lines : (ended : Bool) (input : List ℕ) (first later : List Line) → first ++ later ≡ lines_of ended input → All IsInputLine first
unfolding lines_of
first-are-input-lines ended input first later split =
    All-from_recursion IsInputLine first (first-lines first later (subst (AllByRecursion IsInputLine) (sym split) (input-lines ended (pieces input))))

pub are-input-lines : (ended : Bool) (input : List ℕ) → All IsInputLine (lines_of ended input)
are-input-lines ended input = first-are-input-lines ended input (lines_of ended input) [] (append-nil (lines_of ended input))

in-front-written : (w : Wire) (o : Option Message) (ws : List Wire) → CanBeWritten w → All CanBeWritten ws → All CanBeWritten (in_front w o ws)
in-front-written w (Some m) ws is all = All-cons CanBeWritten w ws is all
in-front-written w None ws is all = all

said-written : (t : ServiceState) (said : Result Spoken BadLine) (ws : List Wire) → Said IsWritten said → All CanBeWritten ws → All CanBeWritten (said_in_front t said ws)
said-written t (Ok (Says w)) ws is all = in-front-written w (accepted_wire t w) ws is all
said-written t (Ok (Asks q)) ws is all = all
said-written t (Ok Flush) ws is all = all
said-written t (Err bad) ws is all = all

lines-written : (t : ServiceState) (lines : List Line) → AllByRecursion IsInputLine lines → All CanBeWritten (accepted_wires t lines)
lines-written t [] few = All-nil CanBeWritten
lines-written t (x ∷ xs) few = said-written t (said_by x) (accepted_wires (after_line t x) xs) (line-written x few.0) (lines-written (after_line t x) xs few.1)

pub can-be-written : (t : ServiceState) (lines : List Line) → All IsInputLine lines → All CanBeWritten (accepted_wires t lines)
can-be-written t lines few = lines-written t lines (recursion_from_All IsInputLine lines few)

-- ---- all that is written

module _ (head : Head) (t : ServiceState) (lines : List Line) (bytes : List ℕ) where
  pub beginning-journal : IsBeginning journal_output t (text_of_head head) lines bytes → bytes ≡ journal_of head (accepted_wires t lines)
  beginning-journal b = b.all ∙ ap (λ (l : List ℕ). text_of_head head ++ l) (answers-are t (text_of_head head) 0 lines b.shown b.answers.now b.answers.kept_now b.answers.answers)

  pub whole-journal : IsWhole journal_output t (text_of_head head) lines bytes → bytes ≡ journal_of head (accepted_wires t lines)
  whole-journal w =
      w.all ∙ ap (λ (l : List ℕ). text_of_head head ++ l) (append-nil w.shown ∙ answers-are t (text_of_head head) 0 lines w.shown w.answers.now w.answers.kept_now w.answers.answers)

  -- and so it is read again
  pub read-again : CanBeHead head → All IsInputLine lines → bytes ≡ journal_of head (accepted_wires t lines)
      → after_bytes (text_of_head head) (nothing_read t) bytes ≡ read_behind t lines
  read-again can few is =
      let all = can-be-written t lines few in
      let ws : List Wire = accepted_wires t lines in
      ap (after_bytes (text_of_head head) (nothing_read t)) is
      ∙ whole-read head t ws can all (lines-taken t lines)
      ∙ ap (λ (s : ServiceState). record { service = s; messages = messages_in t ws; lines = (read_behind t lines).lines; held = []; refusal = None }) (lines-lead t lines)

  -- and so is every beginning
  pub torn-read : (front : List ℕ) → CanBeHead head → All IsInputLine lines → bytes ≡ journal_of head (accepted_wires t lines) → IsPrefix front bytes
      → IsReadSoFar t (accepted_wires t lines) front (after_bytes (text_of_head head) (nothing_read t) front)
  torn-read front can few is begins = journal-read head t (accepted_wires t lines) front begins.0 can (can-be-written t lines few) (lines-taken t lines) (begins.1 ∙ is)
