-- A journal is read line by line: the pieces between its LFs are what its lines are.
use Rattle.std.proofs.Common.{◌≡◌, ◌≢◌, ◌⊎◌, ℕ, zero, suc, ◌<◌, ◌≤◌, true, false, nat_le, List, [], ◌∷◌, ◌++◌, length}
use Rattle.std.proofs.Common.{Option, Some, None, inl, inr, refl, sym, ap, ◌∙◌, append-nil, arith}
use Rattle.std.proofs.lemmas.Bool.{cases_eq, cases_lt}
use Rattle.std.proofs.lemmas.Bool.Decides.{nat_tests}
use Rattle.std.proofs.lemmas.List.{length-append}
use Rattle.mt_io.specs.Lines.{onto, pieces}
use Rattle.mt_io.specs.Steps.{HasNoLf}
use Rattle.mt_io.proofs.LineFacts.{no_lf_cons}
use Rattle.journal_replay.specs.Journals.{goes_on, held_at_end, line_by_line}
use Rattle.journal_replay.specs.Reading.{JournalProgress, after_bytes, line_refused, line_taken, long_from}
use Rattle.journal_replay.specs.declared.refusal.JournalRefusal.{JournalRefusal}
use Rattle.journal_replay.proofs.ByteLemmas.{bytes-held, bytes-too-long, line-read, line_taken-held, no_lf-parts, refused-stays}

-- ---- the first line of bytes

-- where the first LF stands
pub record HasLf (bytes : List ℕ) : Type 0 where
  pub front : List ℕ
  pub back : List ℕ
  pub no_lf : HasNoLf front
  pub parts : bytes ≡ front ++ 10 ∷ back

-- if there is one
pub cases-lf : (bytes : List ℕ) → HasLf bytes ⊎ HasNoLf bytes
cases-lf [] = inr refl
cases-lf (b ∷ bytes) = elim (cases_eq b 10) [
  | inl is ↦ inl (record { front = []; back = bytes; no_lf = refl; parts = ap (λ (c : ℕ). c ∷ bytes) is })
  | inr ne ↦ elim (cases-lf bytes) [
    | inl found ↦
        inl (record { front = b ∷ found.front; back = found.back; no_lf = no_lf_cons b found.front ne found.no_lf; parts = ap (λ (l : List ℕ). b ∷ l) found.parts })
    | inr none ↦ inr (no_lf_cons b bytes ne none)
  ]
]

-- ---- pieces

piece-onto : (b : ℕ) (bytes : List ℕ) → b ≢ 10 → pieces (b ∷ bytes) ≡ onto b (pieces bytes)
piece-onto b bytes ne = grind (arith, nat_tests)

pub pieces-one : (bytes : List ℕ) → HasNoLf bytes → pieces bytes ≡ bytes ∷ []
pieces-one [] none = refl
pieces-one (b ∷ bytes) none = let parts = no_lf-parts b bytes none in piece-onto b bytes parts.0 ∙ ap (onto b) (pieces-one bytes parts.1)

pub pieces-cut : (front back : List ℕ) → HasNoLf front → pieces (front ++ 10 ∷ back) ≡ front ∷ pieces back
pieces-cut [] back none = refl
pieces-cut (b ∷ front) back none =
    let parts = no_lf-parts b front none in piece-onto b (front ++ 10 ∷ back) parts.0 ∙ ap (onto b) (pieces-cut front back parts.1)

-- bytes have a first piece
record HasPiece (bytes : List ℕ) : Type 0 where
  piece : List ℕ
  more : List (List ℕ)
  are : pieces bytes ≡ piece ∷ more

first-piece : (bytes : List ℕ) → HasPiece bytes
first-piece bytes = elim (cases-lf bytes) [
  | inl found ↦ record { piece = found.front; more = pieces found.back; are = ap pieces found.parts ∙ pieces-cut found.front found.back found.no_lf }
  | inr none ↦ record { piece = bytes; more = []; are = pieces-one bytes none }
]

-- ---- line by line

-- bytes without an LF
last-held : (header : List ℕ) (p : JournalProgress) (bytes : List ℕ) → HasNoLf bytes → length bytes < long_from → line_by_line header p (pieces bytes) ≡ held_at_end p bytes
last-held header p bytes none few =
    let short : nat_le long_from (length bytes) ≡ false = grind (arith, nat_tests) in
    ap (line_by_line header p) (pieces-one bytes none) ∙ rw short refl

last-refused : (header : List ℕ) (p : JournalProgress) (bytes : List ℕ) → HasNoLf bytes → long_from ≤ length bytes → line_by_line header p (pieces bytes) ≡ line_refused p
last-refused header p bytes none many =
    let long : nat_le long_from (length bytes) ≡ true = grind (arith, nat_tests) in
    ap (line_by_line header p) (pieces-one bytes none) ∙ rw long refl

-- bytes with one
cut-taken : (header : List ℕ) (p : JournalProgress) (front back : List ℕ) → HasNoLf front → length front < long_from
    → line_by_line header p (pieces (front ++ 10 ∷ back))
    ≡ goes_on (line_taken header (front ++ 10 ∷ []) p) (line_taken header (front ++ 10 ∷ []) p).refusal (line_by_line header (line_taken header (front ++ 10 ∷ []) p) (pieces back))
cut-taken header p front back none few =
    let q : JournalProgress = line_taken header (front ++ 10 ∷ []) p in
    let short : nat_le long_from (length front) ≡ false = grind (arith, nat_tests) in
    let next = first-piece back in
    ap (line_by_line header p) (pieces-cut front back none ∙ ap (λ (l : List (List ℕ)). front ∷ l) next.are)
    ∙ rw short refl
    ∙ ap (λ (l : List (List ℕ)). goes_on q q.refusal (line_by_line header q l)) (sym next.are)

cut-refused : (header : List ℕ) (p : JournalProgress) (front back : List ℕ) → HasNoLf front → long_from ≤ length front
    → line_by_line header p (pieces (front ++ 10 ∷ back)) ≡ line_refused p
cut-refused header p front back none many =
    let long : nat_le long_from (length front) ≡ true = grind (arith, nat_tests) in
    let next = first-piece back in
    ap (line_by_line header p) (pieces-cut front back none ∙ ap (λ (l : List (List ℕ)). front ∷ l) next.are) ∙ rw long refl

-- behind a line that was taken, or was refused
goes-on : (header : List ℕ) (q next : JournalProgress) (back : List ℕ) (o : Option JournalRefusal) → q.refusal ≡ o → (o ≡ None → after_bytes header q back ≡ next)
    → after_bytes header q back ≡ goes_on q o next
goes-on header q next back (Some why) is later = refused-stays header q why back is
goes-on header q next back None is later = later refl

lines-within : (n : ℕ) (header : List ℕ) (p : JournalProgress) (bytes : List ℕ) → length bytes < n → p.refusal ≡ None → p.held ≡ []
    → after_bytes header p bytes ≡ line_by_line header p (pieces bytes)
lines-within zero header p bytes lt none empty = absurd (omega arith)
lines-within (suc n) header p bytes lt none empty =
    let nothing : length p.held ≡ 0 = ap length empty in
    elim (cases-lf bytes) [
      | inl found ↦
          let front : List ℕ = found.front in
          let back : List ℕ = found.back in
          let q : JournalProgress = line_taken header (front ++ 10 ∷ []) p in
          let count : length (front ++ 10 ∷ back) ≡ length bytes = ap length (sym found.parts) in
          ap (after_bytes header p) found.parts
          ∙ elim (cases_lt (length front) long_from) [
            | inl few ↦
                line-read header p front back none found.no_lf (omega arith)
                ∙ ap (λ (l : List ℕ). after_bytes header (line_taken header ((l ++ front) ++ 10 ∷ []) p) back) empty
                ∙ goes-on header q (line_by_line header q (pieces back)) back q.refusal refl
                (λ (same : q.refusal ≡ None). lines-within n header q back (omega (arith, length-append front (10 ∷ back))) same (line_taken-held header (front ++ 10 ∷ []) p))
                ∙ sym (cut-taken header p front back found.no_lf few)
            | inr many ↦ bytes-too-long header p front (10 ∷ back) none found.no_lf (omega arith) (omega arith) ∙ sym (cut-refused header p front back found.no_lf many)
          ]
          ∙ ap (λ (l : List ℕ). line_by_line header p (pieces l)) (sym found.parts)
      | inr no_lf ↦ elim (cases_lt (length bytes) long_from) [
        | inl few ↦
            bytes-held header p bytes none no_lf (omega arith) ∙ ap (λ (l : List ℕ). held_at_end p (l ++ bytes)) empty ∙ sym (last-held header p bytes no_lf few)
        | inr many ↦
            ap (after_bytes header p) (sym (append-nil bytes)) ∙ bytes-too-long header p bytes [] none no_lf (omega arith) (omega arith) ∙ sym (last-refused header p bytes no_lf many)
      ]
    ]

pub lines-read : (header : List ℕ) (p : JournalProgress) (bytes : List ℕ) → p.refusal ≡ None → p.held ≡ [] → after_bytes header p bytes ≡ line_by_line header p (pieces bytes)
lines-read header p bytes none empty = lines-within (suc (length bytes)) header p bytes (omega arith) none empty
