-- The row of an event, written field by field.
use Rattle.std.proofs.Common.{◌≡◌, ℕ, ◌+◌, List, [], ◌∷◌, ◌++◌, length, sym, ◌∙◌, ap, arith, append_assoc, length-append}
use Rattle.std.proofs.lemmas.List.{append-nil}
use Rattle.csv.specs.Writing.{default_writer, row_body, next_sep, field_text, end_text, is_blank}
use Rattle.csv.proofs.WriteFacts.{row-more}
use Rattle.delay_report.specs.Table.{row}

-- so many fields of a row are written after the bytes `start`: these
pub record IsWithin (start : List ℕ) (fs : List (List ℕ)) (k : ℕ) (bs : List ℕ) : Type 0 where
  pub count : k ≡ length fs
  pub bytes : bs ≡ start ++ row_body default_writer fs

pub none-yet : (start : List ℕ) (count : ℕ) → count ≡ 0 → IsWithin start [] count start
none-yet start count e = record { count = e; bytes = sym (append-nil start) }

-- one field more
pub one-more : (start : List ℕ) (fs : List (List ℕ)) (f : List ℕ) (count count' : ℕ) (bytes bytes' : List ℕ) → IsWithin start fs count bytes
    → count' ≡ count + 1 → bytes' ≡ bytes ++ (next_sep default_writer count ++ field_text default_writer f) → IsWithin start (fs ++ f ∷ []) count' bytes'
one-more start fs f count count' bytes bytes' h more e =
    record {
      count = omega (arith, h.count, more, length-append fs (f ∷ []));
      bytes =
          e
          ∙ ap (λ (xs : List ℕ). xs ++ (next_sep default_writer count ++ field_text default_writer f)) h.bytes
          ∙ append_assoc start (row_body default_writer fs) (next_sep default_writer count ++ field_text default_writer f)
          ∙ ap (λ (k : ℕ). start ++ (row_body default_writer fs ++ (next_sep default_writer k ++ field_text default_writer f))) h.count
          ∙ ap (λ (xs : List ℕ). start ++ xs) (sym (row-more default_writer fs f));
    }

-- a row of two fields at least is ended
pub row-ended : (start : List ℕ) (f g : List ℕ) (fs : List (List ℕ)) (count : ℕ) (bytes bytes' : List ℕ)
    → IsWithin start (f ∷ g ∷ fs) count bytes → bytes' ≡ bytes ++ end_text default_writer.terminator → bytes' ≡ start ++ row (f ∷ g ∷ fs)
unfolding is_blank
row-ended start f g fs count bytes bytes' h e =
    e
    ∙ ap (λ (xs : List ℕ). xs ++ end_text default_writer.terminator) h.bytes
    ∙ append_assoc start (row_body default_writer (f ∷ g ∷ fs)) (end_text default_writer.terminator)
