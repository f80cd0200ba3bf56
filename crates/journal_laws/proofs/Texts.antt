-- The strings of a text in UTF-8 are in UTF-8 as well.
use Rattle.std.proofs.Common.{◌≡◌, ℕ, ◌+◌, ◌<◌, true, false, ◌&&◌, ◌==◌, nat_lt, List, [], ◌∷◌, ◌++◌, length, drop, get_or, Option, Some, None}
use Rattle.std.proofs.Common.{option_and_then, option_map}
use Rattle.std.proofs.Common.{IsUtf8, refl, sym, ap, ◌∙◌, subst, append_assoc, append-nil, arith}
use Rattle.std.proofs.lemmas.Bool.{and_parts, cond_both, eqb-true}
use Rattle.std.proofs.lemmas.Bool.Decides.{nat_tests}
use Rattle.std.proofs.lemmas.List.{drop_at, get_or_at, length-append, take_at}
use Rattle.std.proofs.lemmas.Str.{IsCharBoundary-after_ascii, IsCharBoundary-before_ascii, IsUtf8-append, IsUtf8-drop, IsUtf8-encode, IsUtf8-take, encode_ascii}
use Rattle.std.specs.Char.{digit_value, encode_utf8, is_digit, IsScalar}
use Rattle.std.specs.Prelude.{⊤}
use Rattle.json.specs.Text.{code_unit, content, short_escape, is_high_surrogate, is_low_surrogate, surrogate_pair, prepend, Within, plain, after_backslash, after_u, after_high}

-- it holds of what is there
abbrev pub If : {A : Type 0} → (A → Type 0) → Option A → Type 0
If P None = ⊤
If P (Some a) = P a

pub chained : {A B : Type 0} (P : A → Type 0) (Q : B → Type 0) (f : A → Option B) → ((a : A) → P a → If Q (f a)) → (o : Option A) → If P o → If Q (option_and_then f o)
chained P Q f k None h = tt
chained P Q f k (Some a) h = k a h

pub made-by : {A B : Type 0} (P : A → Type 0) (Q : B → Type 0) (f : A → B) → ((a : A) → P a → Q (f a)) → (o : Option A) → If P o → If Q (option_map f o)
made-by P Q f k None h = tt
made-by P Q f k (Some a) h = k a h

pub looser : {A : Type 0} (P Q : A → Type 0) → ((a : A) → P a → Q a) → (o : Option A) → If P o → If Q o
looser P Q k None h = tt
looser P Q k (Some a) h = k a h

pub any : {A : Type 0} (o : Option A) → If (λ _. ⊤) o
any None = tt
any (Some a) = tt

-- ---- where a text may be cut

before-ascii : (front xs : List ℕ) (x : ℕ) → IsUtf8 (front ++ x ∷ xs) → x < 128 → IsUtf8 front
before-ascii front xs x text low =
    let bs : List ℕ = front ++ x ∷ xs in
    let there : get_or bs (length front) 0 ≡ x = get_or_at front x xs 0 (length front) refl in
    let within : length front < length bs = omega (arith, length-append front (x ∷ xs)) in
    let cut = IsCharBoundary-before_ascii bs (length front) within (omega arith) in
    subst IsUtf8 (take_at front (x ∷ xs) (length front) refl) (IsUtf8-take bs (length front) text cut)

after-ascii : (front xs : List ℕ) (x : ℕ) → IsUtf8 (front ++ x ∷ xs) → x < 128 → IsUtf8 xs
after-ascii front xs x text low =
    let bs : List ℕ = front ++ x ∷ xs in
    let there : get_or bs (length front) 0 ≡ x = get_or_at front x xs 0 (length front) refl in
    let within : length front < length bs = omega (arith, length-append front (x ∷ xs)) in
    let cut = IsCharBoundary-after_ascii bs (length front) text within (omega arith) in
    let long : length (front ++ x ∷ []) ≡ length front + 1 = omega (arith, length-append front (x ∷ [])) in
    let rest : drop (length front + 1) bs ≡ xs = ap (drop (length front + 1)) (sym (append_assoc front (x ∷ []) xs)) ∙ drop_at (front ++ x ∷ []) xs (length front + 1) long in
    subst IsUtf8 rest (IsUtf8-drop bs (length front + 1) text cut)

scalar-ascii : (c : ℕ) → c < 128 → IsScalar c
scalar-ascii c low = grind (arith, nat_tests)

ascii : (c : ℕ) → c < 128 → IsUtf8 (c ∷ [])
ascii c low = subst IsUtf8 (encode_ascii c low) (IsUtf8-encode c (scalar-ascii c low))

-- ---- escapes

short-ascii : (x : ℕ) → If (λ c. (x < 128) × (c < 128)) (short_escape x)
unfolding short_escape
short-ascii x = grind (arith, nat_tests)

hex : (a : ℕ) → is_digit a 16 ≡ true → (digit_value a < 16) × (a < 128)
hex a is = grind (arith, nat_tests)

-- the four digits of a code unit are ASCII
record IsUnit (a b c d u : ℕ) : Type 0 where
  first : a < 128
  second : b < 128
  third : c < 128
  fourth : d < 128
  below : u < 65536

unit-is : (a b c d : ℕ) → If (IsUnit a b c d) (code_unit a b c d)
unfolding code_unit
unit-is a b c d =
    cond_both (is_digit a 16 && is_digit b 16 && is_digit c 16 && is_digit d 16) _ _ (If (IsUnit a b c d)) (λ all.
    let p = and_parts (is_digit a 16 && is_digit b 16 && is_digit c 16) (is_digit d 16) all in
    let q = and_parts (is_digit a 16 && is_digit b 16) (is_digit c 16) p.0 in
    let r = and_parts (is_digit a 16) (is_digit b 16) q.0 in
    record { first = (hex a r.0).1; second = (hex b r.1).1; third = (hex c q.1).1; fourth = (hex d p.1).1; below = omega (arith, hex a r.0, hex b r.1, hex c q.1, hex d p.1) }) (λ none. tt)

after-unit : (a b c d u : ℕ) (xs : List ℕ) → IsUnit a b c d u → IsUtf8 (a ∷ b ∷ c ∷ d ∷ xs) → IsUtf8 xs
after-unit a b c d u xs is text =
    let two = after-ascii [] (c ∷ d ∷ xs) b (after-ascii [] (b ∷ c ∷ d ∷ xs) a text is.first) is.second in
    after-ascii [] xs d (after-ascii [] (d ∷ xs) c two is.third) is.fourth

unit-scalar : (u : ℕ) → u < 65536 → is_high_surrogate u ≡ false → is_low_surrogate u ≡ false → IsScalar u
unit-scalar u below high low = grind (arith, nat_tests)

pair-scalar : (h l : ℕ) → is_high_surrogate h ≡ true → is_low_surrogate l ≡ true → IsScalar (surrogate_pair h l)
pair-scalar h l high low = grind (arith, nat_tests)

-- ---- what a string holds

prefixed : (front bytes : List ℕ) (o : Option (List ℕ)) → If (λ s. IsUtf8 ((front ++ bytes) ++ s)) o → If (λ s. IsUtf8 (front ++ s)) (prepend bytes o)
prefixed front bytes None h = tt
prefixed front bytes (Some s) h = subst IsUtf8 (append_assoc front bytes s) h

joined : (front bytes : List ℕ) (o : Option (List ℕ)) → IsUtf8 front → IsUtf8 bytes → If IsUtf8 o → If (λ s. IsUtf8 (front ++ s)) (prepend bytes o)
joined front bytes None f b h = tt
joined front bytes (Some s) f b h = IsUtf8-append front (bytes ++ s) f (IsUtf8-append bytes s b h)

-- what is known behind the bytes that stand for themselves: a text goes on, or an escape stands between two texts
abbrev GoesOn : Within → List ℕ → List ℕ → Type 0
GoesOn plain front xs = IsUtf8 (front ++ xs)
GoesOn after_backslash front xs = IsUtf8 front × IsUtf8 xs
GoesOn after_u front xs = IsUtf8 front × IsUtf8 xs
GoesOn (after_high h) front xs = IsUtf8 front × IsUtf8 xs × (is_high_surrogate h ≡ true)

content-text : (w : Within) (front xs : List ℕ) → GoesOn w front xs → If (λ s. IsUtf8 (front ++ s)) (content w xs)
unfolding content
content-text plain front [] text = tt
content-text plain front (x ∷ xs) text =
    let P : Option (List ℕ) → Type 0 = If (λ s. IsUtf8 (front ++ s)) in
    cond_both (x == 34) _ _ P (λ q. subst IsUtf8 (sym (append-nil front)) (before-ascii front xs x text (omega (arith, eqb-true x 34 q)))) (λ q.
    cond_both (x == 92) _ _ P (λ b.
    let low : x < 128 = omega (arith, eqb-true x 92 b) in
    content-text after_backslash front xs (before-ascii front xs x text low, after-ascii front xs x text low)) (λ b.
    cond_both (nat_lt x 32) _ _ P (λ l. tt) (λ l.
    prefixed front (x ∷ []) (content plain xs) (content-text plain (front ++ x ∷ []) xs (subst IsUtf8 (sym (append_assoc front (x ∷ []) xs)) text)))))
content-text after_backslash front [] text = tt
content-text after_backslash front (x ∷ xs) text =
    let Q : List ℕ → Type 0 = λ s. IsUtf8 (front ++ s) in
    cond_both (x == 117) _ _ (If Q) (λ u. content-text after_u front xs (text.0, after-ascii [] xs x text.1 (omega (arith, eqb-true x 117 u)))) (λ u.
    chained (λ c. (x < 128) × (c < 128)) Q _ (λ c low.
    joined front (c ∷ []) (content plain xs) text.0 (ascii c low.1) (content-text plain [] xs (after-ascii [] xs x text.1 low.0))) (short_escape x) (short-ascii x))
content-text after_u front [] text = tt
content-text after_u front (a ∷ []) text = tt
content-text after_u front (a ∷ b ∷ []) text = tt
content-text after_u front (a ∷ b ∷ c ∷ []) text = tt
content-text after_u front (a ∷ b ∷ c ∷ d ∷ xs) text =
    let Q : List ℕ → Type 0 = λ s. IsUtf8 (front ++ s) in
    chained (IsUnit a b c d) Q _ (λ u is.
    let rest = after-unit a b c d u xs is text.1 in
    cond_both (is_high_surrogate u) _ _ (If Q) (λ h. content-text (after_high u) front xs (text.0, rest, h)) (λ h.
    cond_both (is_low_surrogate u) _ _ (If Q) (λ l. tt) (λ l.
    joined front (encode_utf8 u) (content plain xs) text.0 (IsUtf8-encode u (unit-scalar u is.below h l)) (content-text plain [] xs rest)))) (code_unit a b c d) (unit-is a b c d)
content-text (after_high h) front [] text = tt
content-text (after_high h) front (s ∷ []) text = tt
content-text (after_high h) front (s ∷ u ∷ []) text = tt
content-text (after_high h) front (s ∷ u ∷ a ∷ []) text = tt
content-text (after_high h) front (s ∷ u ∷ a ∷ b ∷ []) text = tt
content-text (after_high h) front (s ∷ u ∷ a ∷ b ∷ c ∷ []) text = tt
content-text (after_high h) front (s ∷ u ∷ a ∷ b ∷ c ∷ d ∷ xs) text =
    let Q : List ℕ → Type 0 = λ s. IsUtf8 (front ++ s) in
    cond_both ((s == 92) && (u == 117)) _ _ (If Q) (λ e.
    let p = and_parts (s == 92) (u == 117) e in
    let behind_s = after-ascii [] (u ∷ a ∷ b ∷ c ∷ d ∷ xs) s text.1 (omega (arith, eqb-true s 92 p.0)) in
    let behind = after-ascii [] (a ∷ b ∷ c ∷ d ∷ xs) u behind_s (omega (arith, eqb-true u 117 p.1)) in
    chained (IsUnit a b c d) Q _ (λ l is.
    cond_both (is_low_surrogate l) _ _ (If Q)
    (λ y. joined front (encode_utf8 (surrogate_pair h l)) (content plain xs) text.0 (IsUtf8-encode (surrogate_pair h l) (pair-scalar h l text.2 y))
    (content-text plain [] xs (after-unit a b c d l xs is behind)))
    (λ y. tt)) (code_unit a b c d) (unit-is a b c d)) (λ e. tt)

-- what a string in a text holds is a text
pub string-text : (front xs : List ℕ) → IsUtf8 (front ++ 34 ∷ xs) → If IsUtf8 (content plain xs)
string-text front xs text = content-text plain [] xs (after-ascii front xs 34 text (omega arith))
