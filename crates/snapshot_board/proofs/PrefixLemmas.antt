-- Beginnings of one list.
use Rattle.std.proofs.Common.{◌≡◌, ℕ, ◌≤◌, List, [], ◌∷◌, ◌++◌, length, refl, ap, sym, ◌∙◌, arith, length-append, Bool, true, false, MatchBool, ◌==◌, ◌≢◌}
use Rattle.std.proofs.lemmas.List.{append_assoc, append-nil}
use Rattle.std.proofs.lemmas.Bool.Decides.{nat_tests}
use Rattle.snapshot_board.specs.Histories.{IsLonger}
use mathlib.Core.List.{IsPrefix}
use lib.Dec.{leb}

-- of two beginnings of one list the shorter begins the longer
pub prefix_shorter : {A : Type 0} (xs ys zs : List A) → IsPrefix xs zs → IsPrefix ys zs → length xs ≤ length ys → IsPrefix xs ys
prefix_shorter [] ys zs p q le = (ys, refl)
prefix_shorter (x ∷ xs) [] zs p q le = absurd (omega arith)
prefix_shorter (x ∷ xs) (y ∷ ys) [] p q le = absurd (cc (p.1))
prefix_shorter (x ∷ xs) (y ∷ ys) (z ∷ zs) p q le =
    let heads : x ≡ y = cc (p.1, q.1) in
    let rest = prefix_shorter xs ys zs (p.0, cc (p.1)) (q.0, cc (q.1)) (omega arith) in
    (rest.0, cc (heads, rest.1))

-- a beginning as long as the whole is the whole
pub prefix_whole : {A : Type 0} (xs ys : List A) → IsPrefix xs ys → length ys ≤ length xs → xs ≡ ys
prefix_whole [] [] p le = refl
prefix_whole [] (y ∷ ys) p le = absurd (omega arith)
prefix_whole (x ∷ xs) [] p le = absurd (cc (p.1))
prefix_whole (x ∷ xs) (y ∷ ys) p le =
    let rest = prefix_whole xs ys (p.0, cc (p.1)) (omega arith) in cc (p.1, rest)

pub prefix_length : {A : Type 0} (xs ys : List A) → IsPrefix xs ys → length xs ≤ length ys
prefix_length xs ys p = omega (arith, sym (ap length p.1) ∙ length-append xs p.0)

-- a beginning of a list is one of each list that goes on
pub prefix_more : {A : Type 0} (xs ys zs : List A) → IsPrefix xs ys → IsPrefix xs (ys ++ zs)
prefix_more xs ys zs p = (p.0 ++ zs, sym (append_assoc xs p.0 zs) ∙ ap (λ l. l ++ zs) p.1)

pub prefix_self : {A : Type 0} (xs : List A) → IsPrefix xs xs
prefix_self xs = ([], append-nil xs)

-- of two beginnings of one list, a test on their lengths tells which begins which
pub prefix_which : {A : Type 0} (xs ys zs : List A) (n k : ℕ) → n ≡ length xs → k ≡ length ys → IsPrefix xs zs → IsPrefix ys zs
    → (b : Bool) → leb n k ≡ b → MatchBool b (IsPrefix xs ys) (IsLonger ys xs)
prefix_which xs ys zs n k a b p q true is = prefix_shorter xs ys zs p q (grind (arith, nat_tests, a, b, is))
prefix_which xs ys zs n k a b p q false is = (prefix_shorter ys xs zs q p (grind (arith, nat_tests, a, b, is)), grind (arith, nat_tests, a, b, is))

-- two beginnings of one list that are as long are one list
pub prefix_same : {A : Type 0} (xs ys zs : List A) (n k : ℕ) → n ≡ length xs → k ≡ length ys → IsPrefix xs zs → IsPrefix ys zs
    → (b : Bool) → (n == k) ≡ b → MatchBool b (xs ≡ ys) (length xs ≢ length ys)
prefix_same xs ys zs n k a b p q true is =
    let e : length xs ≡ length ys = grind (arith, nat_tests, a, b, is) in
    prefix_whole xs ys (prefix_shorter xs ys zs p q (omega (arith, e))) (omega (arith, e))
prefix_same xs ys zs n k a b p q false is = grind (arith, nat_tests, a, b, is)
