-- Texts of plain bytes: they need no quotes in `csv`, and they stand for themselves in JSON.
use Rattle.feed_gen_laws.proofs.Words.{Bool, List, [], arith, clock, decimal, false, nat_tests, refl, suc, true, zero, ℕ, ◌%◌, ◌++◌, ◌+◌, ◌/◌, ◌<◌, ◌∷◌, ◌≡◌}
use Rattle.std.proofs.Common.{lt-ltb, nat_le, not, ◌&&◌, ◌==◌}
use Rattle.std.proofs.lemmas.Bool.{cond_both}
use Rattle.std.proofs.lemmas.List.Folds.{list_all-append}
use Rattle.std.proofs.lemmas.Str.Ascii.{IsAscii-cons, IsAscii-nil}
use Rattle.std.specs.Fmt.{digit_glyph, digits, digits_onto}
use Rattle.std.specs.List.{list_all}
use Rattle.std.specs.Prelude.{nat_lt}
use Rattle.std.specs.Str.{IsAscii}
use Rattle.json.specs.Print.{escape, escape_byte}
use Rattle.json.proofs.Printed.Strings.{escape_byte_plain}

-- an ASCII byte from `0` on other than `\`, such as a letter, a digit, `:` and `_`
abbrev pub is_plain : ℕ → Bool
is_plain b = nat_le 48 b && nat_lt b 128 && not (b == 92)

-- each byte of the text is such a byte
abbrev pub IsPlain : List ℕ → Type 0
IsPlain xs = list_all is_plain xs ≡ true

pub plain-append : (xs ys : List ℕ) → IsPlain xs → IsPlain ys → IsPlain (xs ++ ys)
plain-append xs ys p q = grind (arith, list_all-append is_plain xs ys)

-- ---- numbers and times of day

plain-glyph : (n : ℕ) (xs : List ℕ) → IsPlain xs → IsPlain (digit_glyph false (n % 10) ∷ xs)
plain-glyph n xs h = let small : n % 10 < 10 = omega arith in rw (lt-ltb (n % 10) 10 small) (grind (arith, nat_tests))

plain-digits : (k n : ℕ) (xs : List ℕ) → IsPlain xs → IsPlain (digits_onto k 10 false n xs)
plain-digits zero n xs h = h
plain-digits (suc k) n xs h =
    let next = plain-glyph n xs h in
    cond_both (n / 10 == 0) (digit_glyph false (n % 10) ∷ xs) (digits_onto k 10 false (n / 10) (digit_glyph false (n % 10) ∷ xs)) IsPlain (λ _. next) (λ _. plain-digits k (n / 10) (digit_glyph false (n % 10) ∷ xs) next)

pub plain-decimal : (n : ℕ) → IsPlain (decimal n)
unfolding digits
plain-decimal n = plain-digits 64 n [] refl

-- two digits, and what follows
plain-two : (n : ℕ) (rest : List ℕ) → IsPlain rest → IsPlain ((48 + n / 10 % 10) ∷ (48 + n % 10) ∷ rest)
plain-two n rest h = grind (arith, nat_tests)

pub plain-clock : (seconds : ℕ) → IsPlain (clock seconds)
unfolding clock
plain-clock seconds =
    let last : List ℕ = (48 + seconds % 60 / 10 % 10) ∷ (48 + seconds % 60 % 10) ∷ [] in
    let middle : List ℕ = (48 + seconds / 60 % 60 / 10 % 10) ∷ (48 + seconds / 60 % 60 % 10) ∷ 58 ∷ last in
    plain-two (seconds / 3600) (58 ∷ middle) (plain-two (seconds / 60 % 60) (58 ∷ last) (plain-two (seconds % 60) [] refl))

-- ---- what holds of plain texts

pub plain-ascii : (xs : List ℕ) → IsPlain xs → IsAscii xs
plain-ascii [] h = IsAscii-nil
plain-ascii (x ∷ xs) h = IsAscii-cons x xs (grind (arith, nat_tests)) (plain-ascii xs (grind arith))

-- nothing is escaped
byte-plain : (b : ℕ) → is_plain b ≡ true → escape_byte b ≡ b ∷ []
byte-plain b h = escape_byte_plain b (λ e. grind (arith, nat_tests)) (λ e. grind (arith, nat_tests)) (grind (arith, nat_tests))

pub escape-plain : (xs : List ℕ) → IsPlain xs → escape xs ≡ xs
escape-plain [] h = refl
escape-plain (x ∷ xs) h = λ i. byte-plain x (grind arith) i ++ escape-plain xs (grind arith) i
