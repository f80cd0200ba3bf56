-- Lines by the first LF.
use Rattle.std.proofs.Common.{◌≡◌, ◌≢◌, ◌⊎◌, inl, inr, ℕ, ◌+◌, ◌-◌, length-drop, Option, Some, None, take, drop, ◌<◌, ◌≤◌, List, [], ◌∷◌, ◌++◌, length, Bool, true, false, cond, refl, sym, ◌∙◌, ap, arith, append_assoc}
use Rattle.std.specs.Prelude.{MatchOption, is_some}
use Rattle.std.proofs.lemmas.Bool.{cases_eq, cases_lt}
use Rattle.std.proofs.lemmas.Bool.Decides.{nat_tests}
use Rattle.std.proofs.lemmas.List.{append-nil, length-append, take_all}
use Rattle.mt_io.specs.Lines.{Line, short, long, line_of, lines_of, lines_among, lines_past, last_counts, pieces, onto, before_lf, after_lf}
use Rattle.mt_io.specs.Steps.{HasNoLf}

lf_here : (x : ℕ) (xs : List ℕ) → x ≡ 10 → before_lf (x ∷ xs) ≡ []
lf_here x xs is = grind (arith, nat_tests)

no_lf_here : (x : ℕ) (xs : List ℕ) → x ≢ 10 → before_lf (x ∷ xs) ≡ x ∷ before_lf xs
no_lf_here x xs ne = grind (arith, nat_tests)

after_there : (x : ℕ) (xs : List ℕ) → x ≢ 10 → after_lf (x ∷ xs) ≡ after_lf xs
after_there x xs ne = grind (arith, nat_tests)

pieces_there : (x : ℕ) (xs : List ℕ) → x ≢ 10 → pieces (x ∷ xs) ≡ onto x (pieces xs)
pieces_there x xs ne = grind (arith, nat_tests)

-- a list with no LF begins with no LF, and goes on with none
uncons : (x : ℕ) (xs : List ℕ) → HasNoLf (x ∷ xs) → (x ≢ 10) × HasNoLf xs
uncons x xs none = elim (cases_eq x 10) [
  | inl is ↦ let bad : [] ≡ x ∷ xs = sym (lf_here x xs is) ∙ none in cc
  | inr ne ↦ let e : x ∷ before_lf xs ≡ x ∷ xs = sym (no_lf_here x xs ne) ∙ none in (ne, cc)
]

pub no_lf_cons : (x : ℕ) (xs : List ℕ) → x ≢ 10 → HasNoLf xs → HasNoLf (x ∷ xs)
no_lf_cons x xs ne none = no_lf_here x xs ne ∙ ap (λ (l : List ℕ). x ∷ l) none

pub no_lf_append : (xs ys : List ℕ) → HasNoLf xs → HasNoLf ys → HasNoLf (xs ++ ys)
no_lf_append [] ys none more = more
no_lf_append (x ∷ xs) ys none more = let parts = uncons x xs none in no_lf_cons x (xs ++ ys) parts.0 (no_lf_append xs ys parts.1 more)

pub no_lf_front : (xs ys : List ℕ) → HasNoLf (xs ++ ys) → HasNoLf xs
no_lf_front [] ys none = refl
no_lf_front (x ∷ xs) ys none = let parts = uncons x (xs ++ ys) none in no_lf_cons x xs parts.0 (no_lf_front xs ys parts.1)

pub after_append : (xs rest : List ℕ) → HasNoLf xs → after_lf (xs ++ rest) ≡ after_lf rest
after_append [] rest none = refl
after_append (x ∷ xs) rest none = let parts = uncons x xs none in after_there x (xs ++ rest) parts.0 ∙ after_append xs rest parts.1

-- the pieces of bytes with an LF behind a front without one
pieces_cut : (front back : List ℕ) → HasNoLf front → pieces (front ++ 10 ∷ back) ≡ front ∷ pieces back
pieces_cut [] back none = refl
pieces_cut (x ∷ xs) back none = let parts = uncons x xs none in pieces_there x (xs ++ 10 ∷ back) parts.0 ∙ ap (onto x) (pieces_cut xs back parts.1)

pieces_one : (xs : List ℕ) → HasNoLf xs → pieces xs ≡ xs ∷ []
pieces_one [] none = refl
pieces_one (x ∷ xs) none = let parts = uncons x xs none in pieces_there x xs parts.0 ∙ ap (onto x) (pieces_one xs parts.1)

-- bytes have a first piece
first_piece : (xs : List ℕ) → (piece : List ℕ) × (more : List (List ℕ)) × (pieces xs ≡ piece ∷ more)
first_piece [] = ([], [], refl)
first_piece (x ∷ xs) = elim (cases_eq x 10) [
  | inl is ↦ ([], pieces xs, grind (arith, nat_tests))
  | inr ne ↦ let next = first_piece xs in (x ∷ next.0, next.1, pieces_there x xs ne ∙ ap (onto x) next.2)
]

-- the line before the first LF, and then the lines behind it
pub lines_cut : (ended : Bool) (front back : List ℕ) → HasNoLf front → lines_of ended (front ++ 10 ∷ back) ≡ line_of front ∷ lines_of ended back
unfolding lines_of
lines_cut ended front back none =
    let next = first_piece back in
    ap (lines_among ended) (pieces_cut front back none ∙ ap (λ (l : List (List ℕ)). front ∷ l) next.2) ∙ ap (λ (l : List (List ℕ)). line_of front ∷ lines_among ended l) (sym next.2)

-- bytes with no LF are a line or none
pub lines_one : (ended : Bool) (xs : List ℕ) → HasNoLf xs → lines_of ended xs ≡ cond (last_counts ended xs) (line_of xs ∷ []) []
unfolding lines_of
lines_one ended xs none = ap (lines_among ended) (pieces_one xs none)

pub short_is : (piece : List ℕ) → length piece < 65536 → line_of piece ≡ short piece
short_is piece lt = grind (arith, nat_tests)

long_is : (piece : List ℕ) → 65536 ≤ length piece → line_of piece ≡ long
long_is piece le = grind (arith, nat_tests)

pub none_of_none : (ended : Bool) → lines_of ended [] ≡ []
unfolding lines_of
none_of_none true = refl
none_of_none false = refl

pub none_past : (inside ended : Bool) → lines_past inside ended [] ≡ []
none_past true ended = none_of_none ended
none_past false ended = none_of_none ended

long_counts : (ended : Bool) (piece : List ℕ) → 65536 ≤ length piece → last_counts ended piece ≡ true
long_counts true piece le = grind (arith, nat_tests)
long_counts false piece le = grind (arith, nat_tests)

-- short bytes at a place where the end was not read
short_counts : (piece : List ℕ) → length piece < 65536 → last_counts false piece ≡ false
short_counts piece lt = grind (arith, nat_tests)

last_line_counts : (piece : List ℕ) → 0 < length piece → last_counts true piece ≡ true
last_line_counts piece lt = grind (arith, nat_tests)

-- bytes have an LF behind a front without one, or have none
split_lf : (xs : List ℕ) → ((front : List ℕ) × (back : List ℕ) × HasNoLf front × (xs ≡ front ++ 10 ∷ back)) ⊎ HasNoLf xs
split_lf [] = inr refl
split_lf (x ∷ xs) = elim (cases_eq x 10) [
  | inl is ↦ inl ([], xs, refl, ap (λ (y : ℕ). y ∷ xs) is)
  | inr ne ↦ elim (split_lf xs) [
    | inl found ↦ inl (x ∷ found.0, found.1, no_lf_cons x found.0 ne found.2, ap (λ (l : List ℕ). x ∷ l) found.3)
    | inr none ↦ inr (no_lf_cons x xs ne none)
  ]
]

-- a line of which 65,536 bytes without an LF are there
pub lines_long : (ended : Bool) (front rest : List ℕ) → HasNoLf front → 65536 ≤ length front → lines_of ended (front ++ rest) ≡ long ∷ lines_past true ended rest
lines_long ended front rest none le = elim (split_lf rest) [
  | inl found ↦
      let mid : List ℕ = found.0 in
      let back : List ℕ = found.1 in
      let wide : 65536 ≤ length (front ++ mid) = omega (arith, length-append front mid) in
      ap (λ (l : List ℕ). lines_of ended (front ++ l)) found.3
      ∙ ap (lines_of ended) (sym (append_assoc front mid (10 ∷ back)))
      ∙ lines_cut ended (front ++ mid) back (no_lf_append front mid none found.2)
      ∙ (λ k. long_is (front ++ mid) wide k ∷ lines_of ended (sym (after_append mid (10 ∷ back) found.2) k))
      ∙ ap (λ (l : List ℕ). long ∷ lines_of ended (after_lf l)) (sym found.3)
  | inr more ↦
      let wide : 65536 ≤ length (front ++ rest) = omega (arith, length-append front rest) in
      let after : after_lf rest ≡ [] = ap after_lf (sym (append-nil rest)) ∙ after_append rest [] more in
      lines_one ended (front ++ rest) (no_lf_append front rest none more)
      ∙ (λ k. cond (long_counts ended (front ++ rest) wide k) (long_is (front ++ rest) wide k ∷ []) [])
      ∙ ap (λ (l : List Line). long ∷ l) (sym (ap (lines_of ended) after ∙ none_of_none ended))
]

-- where bytes with no LF stand in front, the lines past the first LF are those of the rest
pub pass_none : (ended : Bool) (held new rest : List ℕ) → HasNoLf held → new ≡ [] → lines_past true ended (held ++ rest) ≡ lines_past true ended (new ++ rest)
pass_none ended held new rest none is = ap (lines_of ended) (after_append held rest none) ∙ ap (λ (l : List ℕ). lines_past true ended (l ++ rest)) (sym is)

-- the bytes up to an LF are passed over
pub pass_some : (ended : Bool) (held front back new rest : List ℕ) → HasNoLf front → held ≡ front ++ 10 ∷ back → new ≡ back → lines_past true ended (held ++ rest) ≡ lines_past false ended (new ++ rest)
pass_some ended held front back new rest none split is =
    ap (λ (l : List ℕ). lines_past true ended (l ++ rest)) split
    ∙ ap (λ (l : List ℕ). lines_of ended (after_lf l)) (append_assoc front (10 ∷ back) rest)
    ∙ ap (lines_of ended) (after_append front (10 ∷ back ++ rest) none)
    ∙ ap (λ (l : List ℕ). lines_of ended (l ++ rest)) (sym is)

-- a line that ends with an LF
pub cut_line : (ended : Bool) (held front back new rest : List ℕ) → HasNoLf front → length front < 65536 → held ≡ front ++ 10 ∷ back → new ≡ back
    → lines_past false ended (held ++ rest) ≡ short front ∷ lines_past false ended (new ++ rest)
cut_line ended held front back new rest none small split is =
    ap (lines_of ended) (ap (λ (l : List ℕ). l ++ rest) split ∙ append_assoc front (10 ∷ back) rest)
    ∙ lines_cut ended front (back ++ rest) none
    ∙ (λ k. short_is front small k ∷ lines_of ended (sym is k ++ rest))

-- a line of which 65,536 bytes are there, which are passed over
pub cut_long : (ended : Bool) (held front back rest : List ℕ) → HasNoLf front → 65536 ≤ length front → held ≡ front ++ back
    → lines_past false ended (held ++ rest) ≡ long ∷ lines_past true ended (back ++ rest)
cut_long ended held front back rest none le split =
    ap (lines_of ended) (ap (λ (l : List ℕ). l ++ rest) split ∙ append_assoc front back rest) ∙ lines_long ended front (back ++ rest) none le

-- the last bytes
pub last_line : (held : List ℕ) → HasNoLf held → 0 < length held → length held < 65536 → lines_past false true (held ++ []) ≡ short held ∷ []
last_line held none some small =
    ap (lines_of true) (append-nil held) ∙ lines_one true held none
    ∙ (λ k. cond (last_line_counts held some k) (short_is held small k ∷ []) [])

-- few bytes with no LF are no line, as long as the end was not read
pub no_line : (held : List ℕ) → HasNoLf held → length held < 65536 → lines_of false held ≡ []
no_line held none small = lines_one false held none ∙ ap (λ (b : Bool). cond b (line_of held ∷ []) []) (short_counts held small)

-- bytes with an LF begin with a line, and so do 65,536 of them
pub lf_is_line : (ended : Bool) (xs front back : List ℕ) → HasNoLf front → xs ≡ front ++ 10 ∷ back → ¬ (lines_of ended xs ≡ [])
lf_is_line ended xs front back none split is =
    let bad : [] ≡ line_of front ∷ lines_of ended back = sym is ∙ ap (lines_of ended) split ∙ lines_cut ended front back none in
    absurd (omega (arith, ap length bad))

pub many_are_line : (ended : Bool) (xs rest : List ℕ) → 65536 ≤ length xs → ¬ (lines_of ended (xs ++ rest) ≡ [])
many_are_line ended xs rest many is = elim (split_lf xs) [
  | inl found ↦ lf_is_line ended (xs ++ rest) found.0 (found.1 ++ rest) found.2 (ap (λ (l : List ℕ). l ++ rest) found.3 ∙ append_assoc found.0 (10 ∷ found.1) rest) is
  | inr none ↦
      let bad : [] ≡ long ∷ lines_past true ended rest = sym is ∙ lines_long ended xs rest none many in
      absurd (omega (arith, ap length bad))
]

-- where bytes begin with no line, neither does a front of them
front_no_line : (ended : Bool) (xs rest : List ℕ) → lines_of ended (xs ++ rest) ≡ [] → lines_of false xs ≡ []
front_no_line ended xs rest is = elim (split_lf xs) [
  | inl found ↦ absurd (lf_is_line ended (xs ++ rest) found.0 (found.1 ++ rest) found.2 (ap (λ (l : List ℕ). l ++ rest) found.3 ∙ append_assoc found.0 (10 ∷ found.1) rest) is)
  | inr none ↦ elim (cases_lt (length xs) 65536) [
    | inl small ↦ no_line xs none small
    | inr many ↦ absurd (many_are_line ended xs rest many is)
  ]
]

-- by where a search found the first LF, if at all
pub found_is_line : (o : Option ℕ) (xs : List ℕ) → MatchOption o (HasNoLf xs) (λ i. (i < length xs) × HasNoLf (take i xs) × (xs ≡ take i xs ++ 10 ∷ drop (i + 1) xs))
    → is_some o ≡ true → ¬ (lines_of false xs ≡ [])
found_is_line None xs none is = absurd cc
found_is_line (Some i) xs found is = lf_is_line false xs (take i xs) (drop (i + 1) xs) found.1 found.2

pub none_is_no_line : (o : Option ℕ) (xs : List ℕ) → MatchOption o (HasNoLf xs) (λ i. (i < length xs) × HasNoLf (take i xs) × (xs ≡ take i xs ++ 10 ∷ drop (i + 1) xs))
    → is_some o ≡ false → length xs < 65536 → lines_of false xs ≡ []
none_is_no_line None xs none is small = no_line xs none small
none_is_no_line (Some i) xs found is small = absurd cc

-- behind a long line, by where its LF was found
pub past_lf : (xs front back : List ℕ) → HasNoLf front → xs ≡ front ++ 10 ∷ back → lines_past true false xs ≡ lines_of false back
past_lf xs front back none split = ap (λ (l : List ℕ). lines_of false (after_lf l)) split ∙ ap (lines_of false) (after_append front (10 ∷ back) none)

pub past_found : (xs : List ℕ) (i : ℕ) → HasNoLf (take i xs) → xs ≡ take i xs ++ 10 ∷ drop (i + 1) xs → lines_past true false xs ≡ lines_of false (take (length xs - (i + 1)) (drop (i + 1) xs))
past_found xs i none split =
    past_lf xs (take i xs) (drop (i + 1) xs) none split ∙ ap (lines_of false) (sym (take_all (length xs - (i + 1)) (drop (i + 1) xs) (omega (arith, length-drop (i + 1) xs))))

pub past_no_lf : (xs : List ℕ) → HasNoLf xs → lines_past true false xs ≡ []
past_no_lf xs none = ap (lines_of false) (ap after_lf (sym (append-nil xs)) ∙ after_append xs [] none) ∙ none_of_none false

pub front_none_past : (inside ended : Bool) (xs rest : List ℕ) → lines_past inside ended (xs ++ rest) ≡ [] → lines_past inside false xs ≡ []
front_none_past false ended xs rest is = front_no_line ended xs rest is
front_none_past true ended xs rest is = elim (split_lf xs) [
  | inl found ↦
      let front : List ℕ = found.0 in
      let back : List ℕ = found.1 in
      past_lf xs front back found.2 found.3
      ∙ front_no_line ended back rest
      (sym (ap (λ (l : List ℕ). lines_of ended (after_lf (l ++ rest))) found.3 ∙ ap (λ (l : List ℕ). lines_of ended (after_lf l)) (append_assoc front (10 ∷ back) rest)
      ∙ ap (lines_of ended) (after_append front (10 ∷ back ++ rest) found.2)) ∙ is)
  | inr none ↦ past_no_lf xs none
]
