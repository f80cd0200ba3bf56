-- The input as its lines.
use Rattle.std.proofs.Common.{◌≡◌, ◌<◌, ◌≤◌, ℕ, zero, suc, ◌+◌, ◌-◌, ◌*◌, Bool, true, false, cond, List, [], ◌∷◌, ◌++◌, length, drop, take, min, map, codes, arith, ap, sym, ◌∙◌, subst, append_assoc, length-append}
use Rattle.std.proofs.lemmas.Grind.{flat_map-append}
use Rattle.std.proofs.lemmas.List.{drop_all}
use Rattle.mt_io.specs.Lines.{lines_of}
use Rattle.mt_io.proofs.LineFacts.{lines_cut, none_of_none, short_is}
use Rattle.feed_gen.specs.Laws.{InputIsItsLines, InputIsShort, line_read}
use Rattle.feed_gen.specs.Lines.{InputLine, bytes_left, ends_group, flush, forecast, joined, lines, lines_from, lines_with, query, text_of}
use Rattle.feed_gen.proofs.LineBytes.{IsKnown, plain}

-- ---- the lines of one train more

-- the lines of the next train, and then those of the later ones
pub next-lines : (trains next : ℕ) → next < trains → lines_from trains next (trains - next) ≡ lines_with trains next ++ lines_from trains (next + 1) (trains - (next + 1))
unfolding lines_from
next-lines trains next more = let e : trains - next ≡ suc (trains - (next + 1)) = omega arith in ap (lines_from trains next) e

-- no train is left
pub no-lines : (trains next : ℕ) → trains ≤ next → lines_from trains next (trains - next) ≡ []
unfolding lines_from
no-lines trains next none = let e : trains - next ≡ zero = omega arith in ap (lines_from trains next) e

pub joined-append : (xs ys : List InputLine) → joined (xs ++ ys) ≡ joined xs ++ joined ys
joined-append xs ys = flat_map-append (λ x. text_of x ++ codes "\n") xs ys

-- where all that was held is given, the lines of the next train take its place
pub refilled : (held new : List ℕ) (at trains next : ℕ) → length held ≤ at → next < trains → new ≡ joined (lines_with trains next) → bytes_left new 0 trains (next + 1) ≡ bytes_left held at trains next
refilled held new at trains next given more is =
    ap (λ (l : List ℕ). l ++ joined (lines_from trains (next + 1) (trains - (next + 1)))) is
    ∙ sym (joined-append (lines_with trains next) (lines_from trains (next + 1) (trains - (next + 1))))
    ∙ ap joined (sym (next-lines trains next more))
    ∙ ap (λ (l : List ℕ). l ++ joined (lines_from trains next (trains - next))) (sym (drop_all at held given))

-- so many bytes of what is left are given; none only where none is left or can be taken
pub given : (left held bytes buf : List ℕ) (at n len room trains next : ℕ) → left ≡ bytes_left held at trains next → bytes ≡ held → length bytes ≡ len → at ≤ len → (at ≡ len → next ≡ trains) → n ≡ min (length bytes - at) room → length buf ≡ room → drop at bytes ≡ take n buf ++ drop (at + n) bytes
    → (left ≡ take n buf ++ bytes_left held (at + n) trains next) × (n ≡ 0 → 0 < length buf → bytes_left held (at + n) trains next ≡ [])
given left held bytes buf at n len room trains next is same all within last count wide moved =
    let rest : List ℕ = joined (lines_from trains next (trains - next)) in
    let moved-held : drop at held ≡ take n buf ++ drop (at + n) held = subst (λ (l : List ℕ). drop at l ≡ take n buf ++ drop (at + n) l) same moved in
    let held-len : length held ≡ len = subst (λ (l : List ℕ). length l ≡ len) same all in (
      is ∙ ap (λ (l : List ℕ). l ++ rest) moved-held ∙ append_assoc (take n buf) (drop (at + n) held) rest,
      λ none some.
          let end : at ≡ len = omega (arith, count, wide, all, within) in
          let gone : drop (at + n) held ≡ [] = drop_all (at + n) held (omega (arith, held-len, end)) in
          let over : lines_from trains next (trains - next) ≡ [] = no-lines trains next (omega (arith, last end)) in
          (λ k. gone k ++ joined (over k)),
    )

-- ---- lines that are read

abbrev AreKnown : List InputLine → Type 0
AreKnown [] = Unit {0}
AreKnown (x ∷ xs) = IsKnown x × AreKnown xs

known-append : (xs ys : List InputLine) → AreKnown xs → AreKnown ys → AreKnown (xs ++ ys)
known-append [] ys h k = k
known-append (x ∷ xs) ys h k = (h.0, known-append xs ys h.1 k)

known-choice : (b : Bool) (train : ℕ) → train < 100000 → AreKnown (cond b (forecast train ∷ flush ∷ query train ∷ flush ∷ []) (forecast train ∷ []))
known-choice true train small = (small, (tt, (small, (tt, tt))))
known-choice false train small = (small, tt)

known-from : (trains train count : ℕ) → train + count ≤ 100000 → AreKnown (lines_from trains train count)
unfolding lines_from
known-from trains train zero few = tt
known-from trains train (suc count) few =
    known-append (lines_with trains train) (lines_from trains (train + 1) count) (known-choice (ends_group trains train) train (omega arith)) (known-from trains (train + 1) count (omega arith))

known : (trains : ℕ) → trains ≤ 100000 → AreKnown (lines trains)
known trains few = known-from trains 0 trains (omega arith)

-- lines that are joined are cut again where they were joined
cut-again : (xs : List InputLine) → AreKnown xs → lines_of true (joined xs) ≡ map line_read xs
cut-again [] h = none_of_none true
cut-again (x ∷ xs) h =
    let is = plain x h.0 in
    ap (lines_of true) (append_assoc (text_of x) (10 ∷ []) (joined xs))
    ∙ lines_cut true (text_of x) (joined xs) is.no_lf
    ∙ (λ k. short_is (text_of x) (omega (arith, is.short)) k ∷ cut-again xs h.1 k)

pub input-lines : InputIsItsLines
input-lines trains few = cut-again (lines trains) (known trains few)

-- ---- how many bytes

length-joined : (xs : List InputLine) → AreKnown xs → length (joined xs) ≤ 201 * length xs
length-joined [] h = omega arith
length-joined (x ∷ xs) h =
    let is = plain x h.0 in
    omega (arith, length-append (text_of x ++ codes "\n") (joined xs), length-append (text_of x) (codes "\n"), is.short, length-joined xs h.1)

length-choice : (b : Bool) (xs ys : List InputLine) → length xs ≤ 4 → length ys ≤ 4 → length (cond b xs ys) ≤ 4
length-choice true xs ys p q = p
length-choice false xs ys p q = q

length-from : (trains train count : ℕ) → length (lines_from trains train count) ≤ 4 * count
unfolding lines_from
length-from trains train zero = omega arith
length-from trains train (suc count) =
    omega (arith, length-append (lines_with trains train) (lines_from trains (train + 1) count), length-choice (ends_group trains train) (forecast train ∷ flush ∷ query train ∷ flush ∷ []) (forecast train ∷ []) (omega arith) (omega arith), length-from trains (train + 1) count)

pub input-short : InputIsShort
input-short trains few = omega (arith, length-joined (lines trains) (known trains few), length-from trains 0 trains)
