-- A line with its end is that of a message exactly where it is the message's text.
use Rattle.std.proofs.Common.{◌≡◌, ℕ, ◌-◌, List, [], ◌∷◌, ◌++◌, take, length, true, Some, None, Result, Ok, Err}
use Rattle.std.proofs.Common.{inl, inr, refl, ap, ◌∙◌, arith}
use Rattle.std.specs.Str.{bytes_eq}
use Rattle.std.proofs.lemmas.Bool.{cases_Bool}
use Rattle.std.proofs.lemmas.List.{length-append}
use Rattle.std.proofs.lemmas.Slice.Eq.{bytes_eq-Decides}
use Rattle.std.proofs.Math.Seq.{take-append_seam}
use Rattle.serde_json.specs.Written.{compact_text}
use Rattle.message_reader.specs.declared.bad_line.BadLine.{BadLine}
use Rattle.message_reader.specs.declared.wire.Wire.{Wire}
use Rattle.message_reader.specs.declared.wire.Line.{Line as Spoken}
use Rattle.message_reader.specs.declared.wire.Line.TheVariants.{Message as Says, Query as Asks, Flush}
use Rattle.message_reader.specs.Lines.{line_of}
use Rattle.message_reader.specs.Spelled.{object_of, HasLabels}
use Rattle.message_reader.specs.Wires.{IsProper}
use Rattle.journal_lines.specs.declared.heads.Head.{Head}
use Rattle.journal_lines.specs.Lines.{head_object, text_of_head, text_of_message, HasTexts}
use Rattle.journal_lines.proofs.ReadBack.{lines-again}
use Rattle.journal_replay.specs.Reading.{message_if, wire_of_line, message_said, without_end}

-- a line with its end
pub record IsEnded (text : List ℕ) : Type 0 where
  pub line : List ℕ
  pub is : text ≡ line ++ 10 ∷ []

pub message-ends : (w : Wire) → IsEnded (text_of_message w)
unfolding text_of_message
message-ends w = record { line = compact_text (object_of 2 w); is = refl }

pub head-ends : (head : Head) → IsEnded (text_of_head head)
unfolding text_of_head
head-ends head = record { line = compact_text (head_object head); is = refl }

ended-without : (line : List ℕ) → without_end (line ++ 10 ∷ []) ≡ line
ended-without line =
    let few : length (line ++ 10 ∷ []) - 1 ≡ length line = omega (arith, length-append line (10 ∷ [])) in
    ap (λ (n : ℕ). take n (line ++ 10 ∷ [])) few ∙ take-append_seam line (10 ∷ [])

pub bytes_eq-same : (xs : List ℕ) → bytes_eq xs xs ≡ true
bytes_eq-same xs = (bytes_eq-Decides xs xs).1 refl

-- the text of a message is read as this message
pub message-found : (w : Wire) → IsProper w → HasLabels w → HasTexts w → wire_of_line (text_of_message w) ≡ Some w
message-found w is labels texts =
    let ended = message-ends w in
    let text : List ℕ = text_of_message w in
    let said : line_of (without_end text) ≡ Ok (Says w) =
    ap (λ (l : List ℕ). line_of (without_end l)) ended.is ∙ ap line_of (ended-without ended.line) ∙ lines-again w ended.line is labels texts ended.is in
    ap (message_said text) said ∙ rw (bytes_eq-same text) refl

-- and what is read as a message is its text
if-is : (ended : List ℕ) (v w : Wire) → message_if ended v ≡ Some w → ended ≡ text_of_message w
if-is ended v w is = elim (cases_Bool (bytes_eq (text_of_message v) ended)) [
  | inl same ↦
      let e : text_of_message v ≡ ended = (bytes_eq-Decides (text_of_message v) ended).0 same in
      let it : Some v ≡ Some w = rw same at is in
      cc
  | inr other ↦ let bad : None ≡ Some w = rw other at is in cc
]

said-is : (ended : List ℕ) (r : Result Spoken BadLine) (w : Wire) → message_said ended r ≡ Some w → ended ≡ text_of_message w
said-is ended (Ok (Says v)) w is = if-is ended v w is
said-is ended (Ok (Asks q)) w is = cc
said-is ended (Ok Flush) w is = cc
said-is ended (Err b) w is = cc

pub found-is : (ended : List ℕ) (w : Wire) → wire_of_line ended ≡ Some w → ended ≡ text_of_message w
found-is ended w is = said-is ended (line_of (without_end ended)) w is
