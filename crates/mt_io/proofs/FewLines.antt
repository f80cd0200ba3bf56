-- An input has no more lines than bytes.
use Rattle.std.proofs.Common.{◌≡◌, ◌≤◌, ◌++◌, ◌∷◌, ◌∙◌, inl, inr, ℕ, suc, List, [], length, Bool, true, false, cond, arith, ap, sym, refl}
use Rattle.std.proofs.lemmas.Bool.{cases_eq}
use Rattle.std.proofs.lemmas.Bool.Decides.{nat_tests}
use Rattle.std.proofs.lemmas.List.{append-nil, length-append}
use Rattle.mt_io.specs.Lines.{Line, line_of, lines_among, lines_of, last_counts, onto, pieces}
use Rattle.mt_io.specs.Reader.{Reader, ahead}
use Rattle.mt_io.specs.Runs.{HasAnswered}

one-last : (counts : Bool) (piece : List ℕ) → length (cond counts (line_of piece ∷ []) []) ≤ 1
one-last true piece = omega arith
one-last false piece = omega arith

none-there : (ended : Bool) → lines_among ended ([] ∷ []) ≡ []
none-there true = refl
none-there false = refl

-- one byte more makes at most one line more
few-onto : (ended : Bool) (x : ℕ) (ps : List (List ℕ)) → length (lines_among ended (onto x ps)) ≤ suc (length (lines_among ended ps))
few-onto ended x [] = omega (arith, one-last (last_counts ended (x ∷ [])) (x ∷ []))
few-onto ended x (p ∷ []) = omega (arith, one-last (last_counts ended (x ∷ p)) (x ∷ p))
few-onto ended x (p ∷ q ∷ qs) = omega arith

few-cons : (ended : Bool) (ps : List (List ℕ)) → length (lines_among ended ([] ∷ ps)) ≤ suc (length (lines_among ended ps))
few-cons ended [] = omega (arith, ap length (none-there ended))
few-cons ended (q ∷ qs) = omega arith

few-byte : (ended : Bool) (x : ℕ) (xs : List ℕ) → length (lines_among ended (pieces (x ∷ xs))) ≤ suc (length (lines_among ended (pieces xs)))
few-byte ended x xs = elim (cases_eq x 10) [
  | inl is ↦ (let e : pieces (x ∷ xs) ≡ [] ∷ pieces xs = grind (arith, nat_tests) in omega (arith, ap (λ (ps : List (List ℕ)). length (lines_among ended ps)) e, few-cons ended (pieces xs)))
  | inr ne ↦ (let e : pieces (x ∷ xs) ≡ onto x (pieces xs) = grind (arith, nat_tests) in omega (arith, ap (λ (ps : List (List ℕ)). length (lines_among ended ps)) e, few-onto ended x (pieces xs)))
]

few-lines : (ended : Bool) (xs : List ℕ) → length (lines_of ended xs) ≤ length xs
unfolding lines_of
few-lines ended [] = omega (arith, ap length (none-there ended))
few-lines ended (x ∷ xs) = omega (arith, few-byte ended x xs, few-lines ended xs)

-- of bytes that were taken no more lines were answered than they are many
pub few_answered : (r : Reader) (bytes : List ℕ) (lines : List Line) → HasAnswered bytes lines r → length lines ≤ r.taken
few_answered r bytes lines answered =
    let all : lines_of true bytes ≡ lines ++ ahead r [] true = ap (lines_of true) (sym (append-nil bytes)) ∙ answered.lines_ahead [] true (λ is. (refl, refl)) in
    omega (arith, answered.taken, ap length all, length-append lines (ahead r [] true), few-lines true bytes)
