-- The last line of an input.
use Rattle.std.proofs.Common.{◌≡◌, ◌<◌, ◌≤◌, ◌++◌, ◌-◌, ◌∷◌, ◌∙◌, ℕ, List, [], length, drop, slice_range, Bool, true, arith, ap, sym, inl, inr, length-take, length-drop}
use Rattle.std.proofs.lemmas.Bool.{cases_Bool}
use Rattle.mt_io.specs.Lines.{short, lines_past}
use Rattle.mt_io.specs.Steps.{HasNoLf}
use Rattle.mt_io.proofs.LineFacts.{last_line, none_past}
use Rattle.mt_io.proofs.Slices.{empty_range}

pub finish_line : (xs : List ℕ) (start end : ℕ) (inside : Bool)
    → HasNoLf (slice_range xs start end) → length (slice_range xs start end) < 65536 → (inside ≡ true → slice_range xs start end ≡ [])
    → start < end → end ≤ length xs
    → lines_past inside true (slice_range xs start end ++ []) ≡ short (slice_range xs start end) ∷ lines_past inside true (slice_range xs end end ++ [])
finish_line xs start end inside none small passed some room =
    elim (cases_Bool inside) [
      | inl on ↦ let bad : length (slice_range xs start end) ≡ 0 = ap length (passed on) in absurd (omega (arith, wide, bad))
      | inr off ↦ (λ k. lines_past (off k) true (slice_range xs start end ++ [])) ∙ last_line (slice_range xs start end) none (omega (arith, wide)) small ∙ (λ k. short (slice_range xs start end) ∷ sym (none_past inside true) k)
    ]
    ∙ (λ k. short (slice_range xs start end) ∷ lines_past inside true (sym (empty_range xs end) k ++ []))
  where
    wide : 0 < length (slice_range xs start end)
    wide = omega (arith, length-take (end - start) (drop start xs), length-drop start xs)
