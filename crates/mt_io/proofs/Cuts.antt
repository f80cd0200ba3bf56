-- The lines of a part of a buffer, and of what comes after it.
use Rattle.std.proofs.Common.{◌≡◌, ◌<◌, ◌≤◌, ℕ, ◌+◌, ◌-◌, ◌++◌, ◌∷◌, List, Bool, length, take, drop, slice_range, arith, ◌∙◌, ap, sym, false, true, append_assoc, length-take, length-drop}
use Rattle.std.proofs.lemmas.List.{drop-append-le}
use Rattle.mt_io.specs.Lines.{short, long, lines_past}
use Rattle.mt_io.specs.Steps.{HasNoLf}
use Rattle.mt_io.proofs.LineFacts.{cut_line, cut_long}
use Rattle.mt_io.proofs.Slices.{first_range, later_range, range_split}

pub cut_in : (ended : Bool) (xs : List ℕ) (start limit end i : ℕ) (rest : List ℕ) → start ≤ limit → limit ≤ end → limit ≤ start + 65536
    → i < length (slice_range xs start limit)
    → HasNoLf (take i (slice_range xs start limit))
    → slice_range xs start limit ≡ take i (slice_range xs start limit) ++ 10 ∷ drop (i + 1) (slice_range xs start limit)
    → lines_past false ended (slice_range xs start end ++ rest) ≡ short (slice_range xs start (start + i)) ∷ lines_past false ended (slice_range xs (start + (i + 1)) end ++ rest)
cut_in ended xs start limit end i rest order within small lt none split =
    cut_line ended (slice_range xs start end) (take i (slice_range xs start limit)) (drop (i + 1) (slice_range xs start limit) ++ slice_range xs limit end) (slice_range xs (start + (i + 1)) end) rest none few
    (whole ∙ ap (λ (l : List ℕ). l ++ slice_range xs limit end) split ∙ append_assoc (take i (slice_range xs start limit)) (10 ∷ drop (i + 1) (slice_range xs start limit)) (slice_range xs limit end))
    (later_range xs start (i + 1) end ∙ ap (drop (i + 1)) whole ∙ drop-append-le (i + 1) (slice_range xs start limit) (slice_range xs limit end) (omega arith))
    ∙ ap (λ (l : List ℕ). short l ∷ lines_past false ended (slice_range xs (start + (i + 1)) end ++ rest)) (sym (first_range xs start i limit (omega (arith, count))))
  where
    whole : slice_range xs start end ≡ slice_range xs start limit ++ slice_range xs limit end
    whole = range_split xs start limit end order within

    count : length (slice_range xs start limit) ≤ limit - start
    count = omega (arith, length-take (limit - start) (drop start xs))

    few : length (take i (slice_range xs start limit)) < 65536
    few = omega (arith, count, lt, length-take i (slice_range xs start limit))

pub long_in : (ended : Bool) (xs : List ℕ) (start limit end : ℕ) (rest : List ℕ) → start ≤ limit → limit ≤ end → limit - start ≡ 65536 → end ≤ length xs
    → HasNoLf (slice_range xs start limit)
    → lines_past false ended (slice_range xs start end ++ rest) ≡ long ∷ lines_past true ended (slice_range xs limit end ++ rest)
long_in ended xs start limit end rest order within is room none =
    cut_long ended (slice_range xs start end) (slice_range xs start limit) (slice_range xs limit end) rest none
    (omega (arith, length-take (limit - start) (drop start xs), length-drop start xs)) (range_split xs start limit end order within)
