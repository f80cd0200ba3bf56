-- What is read is the journal of messages that are accepted one after the other, and a part of a line.
use Rattle.std.proofs.Common.{◌≡◌, ◌⊎◌, ℕ, ◌+◌, ◌≤◌, Bool, true, false, List, [], ◌∷◌, ◌++◌, Option, Some, None, IsSome, inl, inr, refl}
use Rattle.std.proofs.Common.{sym, ap, ◌∙◌, subst, nat_eq, nat_le, length, map, append_assoc, append-nil, arith}
use Rattle.std.specs.Str.{bytes_eq}
use Rattle.std.specs.List.{concat}
use Rattle.std.proofs.lemmas.Bool.{cases_eq}
use Rattle.std.proofs.lemmas.Bool.Decides.{nat_tests}
use Rattle.std.proofs.lemmas.List.{length-append}
use Rattle.std.proofs.lemmas.List.Sums.{fold-append}
use Rattle.std.proofs.lemmas.Slice.Eq.{bytes_eq-Decides}
use Rattle.delay_model.specs.declared.messages.Message.{Message}
use Rattle.information_service.specs.ServiceState.{ServiceState}
use Rattle.message_reader.specs.declared.wire.Wire.{Wire}
use Rattle.mt_io.specs.Steps.{HasNoLf}
use Rattle.mt_io.proofs.LineFacts.{no_lf_cons}
use Rattle.journal_lines.specs.declared.heads.Head.{Head}
use Rattle.journal_lines.specs.Lines.{text_of_head, text_of_message}
use Rattle.journal_replay.specs.Journals.{after_wires, behind, held_at_end, journal_of, messages_in, AreTaken}
use Rattle.journal_replay.specs.Reading.{JournalProgress, accepted_wire, after_byte, after_bytes, after_wire, byte_held, byte_read}
use Rattle.journal_replay.specs.Reading.{header_taken, line_taken, long_from, wire_of_line, message_taken, nothing_read, taken_as}
use Rattle.journal_replay.specs.declared.refusal.JournalRefusal.{JournalRefusal}
use Rattle.journal_replay.proofs.ByteLemmas.{no_lf-parts}
use Rattle.journal_replay.proofs.MessageLines.{found-is}
use Rattle.journal_laws.specs.Parts.{IsJournalRead}

-- ---- one message more

pub texts-more : (ws : List Wire) (w : Wire) → concat (map text_of_message (ws ++ w ∷ [])) ≡ concat (map text_of_message ws) ++ text_of_message w
texts-more [] w = append-nil (text_of_message w)
texts-more (v ∷ ws) w = ap (λ (l : List ℕ). text_of_message v ++ l) (texts-more ws w) ∙ sym (append_assoc (text_of_message v) (concat (map text_of_message ws)) (text_of_message w))

journal-more : (head : Head) (ws : List Wire) (w : Wire) → journal_of head (ws ++ w ∷ []) ≡ journal_of head ws ++ text_of_message w
journal-more head ws w = ap (λ (l : List ℕ). text_of_head head ++ l) (texts-more ws w) ∙ sym (append_assoc (text_of_head head) (concat (map text_of_message ws)) (text_of_message w))

taken-more : (s : ServiceState) (ws : List Wire) (w : Wire) → AreTaken s ws → IsSome (accepted_wire (after_wires s ws) w) → AreTaken s (ws ++ w ∷ [])
taken-more s [] w taken is = (is, tt)
taken-more s (v ∷ ws) w taken is = (taken.0, taken-more (after_wire s v) ws w taken.1 is)

behind-more : (o : Option Message) (ms more : List Message) → behind o (ms ++ more) ≡ behind o ms ++ more
behind-more None ms more = refl
behind-more (Some m) ms more = refl

messages-more : (s : ServiceState) (ws : List Wire) (w : Wire) (m : Message) → accepted_wire (after_wires s ws) w ≡ Some m → messages_in s (ws ++ w ∷ []) ≡ messages_in s ws ++ m ∷ []
messages-more s [] w m is = ap (λ (o : Option Message). behind o []) is
messages-more s (v ∷ ws) w m is =
    ap (behind (accepted_wire s v)) (messages-more (after_wire s v) ws w m is) ∙ behind-more (accepted_wire s v) (messages_in (after_wire s v) ws) (m ∷ [])

no_lf-more : (bytes : List ℕ) (b : ℕ) → HasNoLf bytes → ¬ (b ≡ 10) → HasNoLf (bytes ++ b ∷ [])
no_lf-more [] b none ne = no_lf_cons b [] ne refl
no_lf-more (c ∷ bytes) b none ne = let parts = no_lf-parts c bytes none in no_lf_cons c (bytes ++ b ∷ []) parts.0 (no_lf-more bytes b parts.1 ne)

-- ---- so far bytes are read

module _ (head : Head) (s : ServiceState) where
  -- the header is not yet whole
  record IsBegun (bytes : List ℕ) (p : JournalProgress) : Type 0 where
    lines : p.lines ≡ 0
    bytes_are : bytes ≡ p.held
    no_lf : HasNoLf p.held
    service : p.service ≡ s
    messages : p.messages ≡ []

  -- it is not, or the journal is read
  abbrev IsSoFar : List ℕ → JournalProgress → Type 0
  IsSoFar bytes p = IsBegun bytes p ⊎ IsJournalRead head s bytes p

  -- ---- a line

  header-behind : (p : JournalProgress) (bytes ended : List ℕ) → IsBegun bytes p → ended ≡ p.held ++ 10 ∷ [] → (same : Bool) → bytes_eq ended (text_of_head head) ≡ same
      → (header_taken (text_of_head head) ended p).refusal ≡ None → IsJournalRead head s (bytes ++ 10 ∷ []) (header_taken (text_of_head head) ended p)
  header-behind p bytes ended is whole true same none =
      let it : ended ≡ text_of_head head = (bytes_eq-Decides ended (text_of_head head)).0 same in
      let all : bytes ++ 10 ∷ [] ≡ text_of_head head = ap (λ (l : List ℕ). l ++ 10 ∷ []) is.bytes_are ∙ sym whole ∙ it in
      let back : text_of_head head ≡ journal_of head [] ++ [] = sym (append-nil (text_of_head head ++ []) ∙ append-nil (text_of_head head)) in
      rw same (record {
        wires = [];
        taken = tt;
        bytes_are = all ∙ back;
        no_lf = refl;
        lines = omega (arith, is.lines);
        service = is.service;
        messages = is.messages;
      })
  header-behind p bytes ended is whole false other none = let bad = rw other at none in cc

  taken-behind : (p : JournalProgress) (bytes : List ℕ) (w : Wire) → IsJournalRead head s bytes p → text_of_message w ≡ p.held ++ 10 ∷ []
      → (o : Option Message) → accepted_wire p.service w ≡ o
      → (taken_as p w o).refusal ≡ None → IsJournalRead head s (bytes ++ 10 ∷ []) (taken_as p w o)
  taken-behind p bytes w is whole None refuses none = cc
  taken-behind p bytes w is whole (Some m) accepts none =
      let there : accepted_wire (after_wires s is.wires) w ≡ Some m = ap (λ (t : ServiceState). accepted_wire t w) (sym is.service) ∙ accepts in
      let some : IsSome (accepted_wire (after_wires s is.wires) w) = rw there refl in
      record {
        wires = is.wires ++ w ∷ [];
        taken = taken-more s is.wires w is.taken some;
        bytes_are = ap (λ (l : List ℕ). l ++ 10 ∷ []) is.bytes_are
            ∙ append_assoc (journal_of head is.wires) p.held (10 ∷ [])
            ∙ ap (λ (l : List ℕ). journal_of head is.wires ++ l) (sym whole)
            ∙ sym (journal-more head is.wires w) ∙ sym (append-nil (journal_of head (is.wires ++ w ∷ [])));
        no_lf = refl;
        lines = omega (arith, is.lines, length-append is.wires (w ∷ []));
        service = ap (λ (t : ServiceState). after_wire t w) is.service ∙ sym (fold-append after_wire s is.wires (w ∷ []));
        messages = ap (λ (l : List Message). l ++ m ∷ []) is.messages ∙ sym (messages-more s is.wires w m there);
      }

  message-behind : (p : JournalProgress) (bytes ended : List ℕ) → IsJournalRead head s bytes p → ended ≡ p.held ++ 10 ∷ [] → (o : Option Wire) → wire_of_line ended ≡ o
      → (message_taken p o).refusal ≡ None → IsJournalRead head s (bytes ++ 10 ∷ []) (message_taken p o)
  message-behind p bytes ended is whole None foreign none = cc
  message-behind p bytes ended is whole (Some w) own none =
      taken-behind p bytes w is (sym (found-is ended w own) ∙ whole) (accepted_wire p.service w) refl none

  line-behind : (p : JournalProgress) (bytes : List ℕ) → IsSoFar bytes p → (line_taken (text_of_head head) (p.held ++ 10 ∷ []) p).refusal ≡ None
      → IsJournalRead head s (bytes ++ 10 ∷ []) (line_taken (text_of_head head) (p.held ++ 10 ∷ []) p)
  line-behind p bytes (inl is) none =
      let zero_lines : p.lines ≡ 0 = is.lines in
      let first : nat_eq p.lines 0 ≡ true = grind (arith, nat_tests) in
      let none_there = rw first at none in
      rw first (header-behind p bytes (p.held ++ 10 ∷ []) is refl (bytes_eq (p.held ++ 10 ∷ []) (text_of_head head)) refl none_there)
  line-behind p bytes (inr is) none =
      let some : p.lines ≡ length is.wires + 1 = is.lines in
      let later : nat_eq p.lines 0 ≡ false = grind (arith, nat_tests) in
      let none_there = rw later at none in
      rw later (message-behind p bytes (p.held ++ 10 ∷ []) is refl (wire_of_line (p.held ++ 10 ∷ [])) refl none_there)

  -- ---- a byte that ends no line

  more-held : (p : JournalProgress) (bytes : List ℕ) (b : ℕ) → ¬ (b ≡ 10) → IsSoFar bytes p → IsSoFar (bytes ++ b ∷ []) (held_at_end p (p.held ++ b ∷ []))
  more-held p bytes b ne (inl is) = inl (record {
    lines = is.lines;
    bytes_are = ap (λ (l : List ℕ). l ++ b ∷ []) is.bytes_are;
    no_lf = no_lf-more p.held b is.no_lf ne;
    service = is.service;
    messages = is.messages;
  })
  more-held p bytes b ne (inr is) = inr (record {
    wires = is.wires;
    taken = is.taken;
    bytes_are = ap (λ (l : List ℕ). l ++ b ∷ []) is.bytes_are ∙ append_assoc (journal_of head is.wires) p.held (b ∷ []);
    no_lf = no_lf-more p.held b is.no_lf ne;
    lines = is.lines;
    service = is.service;
    messages = is.messages;
  })

  held-behind : (p : JournalProgress) (bytes : List ℕ) (b : ℕ) → ¬ (b ≡ 10) → IsSoFar bytes p → (long : Bool)
      → nat_le long_from (length p.held + 1) ≡ long → (byte_held b p).refusal ≡ None → IsSoFar (bytes ++ b ∷ []) (byte_held b p)
  held-behind p bytes b ne is true long none = let bad = rw long at none in cc
  held-behind p bytes b ne is false short none = rw short (more-held p bytes b ne is)

  -- ---- bytes

  byte-behind : (p : JournalProgress) (bytes : List ℕ) (b : ℕ) → (p.refusal ≡ None → IsSoFar bytes p) → (o : Option JournalRefusal) → p.refusal ≡ o
      → (byte_read (text_of_head head) p b o).refusal ≡ None → IsSoFar (bytes ++ b ∷ []) (byte_read (text_of_head head) p b o)
  byte-behind p bytes b so (Some why) refuses none = cc
  byte-behind p bytes b so None read none = elim (cases_eq b 10) [
    | inl is ↦
        let hit : nat_eq b 10 ≡ true = grind (arith, nat_tests) in
        let none_there = rw hit at none in
        rw hit (subst (λ (c : ℕ). IsSoFar (bytes ++ c ∷ []) (line_taken (text_of_head head) (p.held ++ 10 ∷ []) p)) (sym is) (inr (line-behind p bytes (so read) none_there)))
    | inr ne ↦
        let other : nat_eq b 10 ≡ false = grind (arith, nat_tests) in
        let none_there = rw other at none in
        rw other (held-behind p bytes b ne (so read) (nat_le long_from (length p.held + 1)) refl none_there)
  ]

  bytes-behind : (p : JournalProgress) (front bytes : List ℕ) → (p.refusal ≡ None → IsSoFar front p) → (after_bytes (text_of_head head) p bytes).refusal ≡ None
      → IsSoFar (front ++ bytes) (after_bytes (text_of_head head) p bytes)
  bytes-behind p front [] so none = rw (append-nil front) (so none)
  bytes-behind p front (b ∷ bytes) so none =
      subst (λ (l : List ℕ). IsSoFar l (after_bytes (text_of_head head) (after_byte (text_of_head head) p b) bytes)) (append_assoc front (b ∷ []) bytes)
      (bytes-behind (after_byte (text_of_head head) p b) (front ++ b ∷ []) bytes (byte-behind p front b so p.refusal refl) none)

  whole-line : (bytes : List ℕ) (p : JournalProgress) → 1 ≤ p.lines → IsSoFar bytes p → IsJournalRead head s bytes p
  whole-line bytes p some (inl is) = absurd (omega (arith, is.lines))
  whole-line bytes p some (inr is) = is

  pub journal-parts : (bytes : List ℕ) → (after_bytes (text_of_head head) (nothing_read s) bytes).refusal ≡ None → 1 ≤ (after_bytes (text_of_head head) (nothing_read s) bytes).lines
      → IsJournalRead head s bytes (after_bytes (text_of_head head) (nothing_read s) bytes)
  journal-parts bytes none some =
      whole-line bytes (after_bytes (text_of_head head) (nothing_read s) bytes) some
      (bytes-behind (nothing_read s) [] bytes (λ is. inl (record { lines = refl; bytes_are = refl; no_lf = refl; service = refl; messages = refl })) none)
