-- The text of a value holds no byte below the blank, so no LF.
use Rattle.std.proofs.Common.{◌≡◌, ◌⊎◌, ℕ, zero, suc, ◌/◌, ◌%◌, ◌<◌, ◌≤◌, Bool, true, false, nat_eq, nat_le, List, [], ◌∷◌, ◌++◌, All, decimal, pos, negsuc}
use Rattle.std.proofs.Common.{inl, inr, refl, sym, subst, arith}
use Rattle.std.specs.List.{AllByRecursion, list_all}
use Rattle.std.specs.Fmt.{digits, digits_onto, digit_glyph}
use Rattle.std.proofs.lemmas.Bool.{and_from, cases_Bool, cases_eq, cases_lt}
use Rattle.std.proofs.lemmas.Bool.Decides.{nat_tests}
use Rattle.std.proofs.lemmas.List.Elements.{All-from_recursion}
use Rattle.std.proofs.lemmas.List.Folds.{list_all-append}
use Rattle.json.specs.Print.{escape, escape_byte, quoted}
use Rattle.json.proofs.Printed.Strings.{escape_byte_plain}
use Rattle.serde_json.specs.Data.{Data, Items, Members, unsigned, negative, float, null, boolean, number, string, array, object, no_items, item, no_members, member}
use Rattle.serde_json.specs.Written.{comma_if, compact_text, items_text, members_text}

-- no byte of the text is below the blank
abbrev pub IsClear : List ℕ → Type 0
IsClear xs = list_all (nat_le 32) xs ≡ true

clear-append : (xs ys : List ℕ) → IsClear xs → IsClear ys → IsClear (xs ++ ys)
clear-append xs ys p q = grind (arith, list_all-append (nat_le 32) xs ys)

pub clear-all : (xs : List ℕ) → IsClear xs → All (λ b. 32 ≤ b) xs
clear-all xs h = All-from_recursion (λ (b : ℕ). 32 ≤ b) xs (go xs h)
  where
    go : (ys : List ℕ) → IsClear ys → AllByRecursion (λ b. 32 ≤ b) ys
    go [] h = tt
    go (y ∷ ys) h = (grind (arith, nat_tests), go ys (grind (arith, nat_tests)))

-- ---- strings

abbrev Each : (ℕ → Type 0) → ℕ → Type 0
Each P zero = Unit {0}
Each P (suc n) = P n × Each P n

each-sound : (P : ℕ → Type 0) (n : ℕ) → Each P n → (x : ℕ) → x < n → P x
each-sound P zero h x lt = absurd (omega arith)
each-sound P (suc n) h x lt = go (each-sound P n h.1 x) (cases_eq x n)
  where
    go : (x < n → P x) → (x ≡ n) ⊎ (x ≡ n → ⊥) → P x
    go below (inl e) = subst P (sym e) h.0
    go below (inr ne) = below (omega arith)

abbrev IsByteClear : ℕ → Type 0
IsByteClear x = IsClear (escape_byte x)

controls : Each IsByteClear 32
unfolding escape_byte
controls = (
  refl,
  (
    refl,
    (
      refl,
      (
        refl,
        (
          refl,
          (
            refl,
            (
              refl,
              (
                refl,
                (
                  refl,
                  (
                    refl,
                    (refl, (refl, (refl, (refl, (refl, (refl, (refl, (refl, (refl, (refl, (refl, (refl, (refl, (refl, (refl, (refl, (refl, (refl, (refl, (refl, (refl, (refl, tt)))))))))))))))))))))),
                  ),
                ),
              ),
            ),
          ),
        ),
      ),
    ),
  ),
)

byte-clear : (x : ℕ) → IsByteClear x
unfolding escape_byte
byte-clear x = go (cases_eq x 34) (cases_eq x 92) (cases_lt x 32)
  where
    go : (x ≡ 34) ⊎ (x ≡ 34 → ⊥) → (x ≡ 92) ⊎ (x ≡ 92 → ⊥) → (x < 32) ⊎ (32 ≤ x) → IsByteClear x
    go (inl e) b c = subst IsByteClear (sym e) refl
    go (inr q) (inl e) c = subst IsByteClear (sym e) refl
    go (inr q) (inr b) (inl c) = each-sound IsByteClear 32 controls x c
    go (inr q) (inr b) (inr l) = rw (escape_byte_plain x q b l) (grind (arith, nat_tests))

escape-clear : (s : List ℕ) → IsClear (escape s)
escape-clear [] = refl
escape-clear (x ∷ s) = clear-append (escape_byte x) (escape s) (byte-clear x) (escape-clear s)

quoted-clear : (s : List ℕ) → IsClear (quoted s)
quoted-clear s = clear-append (escape s) (34 ∷ []) (escape-clear s) refl

-- ---- numbers

glyph-clear : (d : ℕ) (acc : List ℕ) → IsClear acc → IsClear (digit_glyph false d ∷ acc)
glyph-clear d acc h = and_from _ _ (grind (arith, nat_tests)) h

digits-clear : (k n : ℕ) (acc : List ℕ) → IsClear acc → IsClear (digits_onto k 10 false n acc)
digits-clear zero n acc h = h
digits-clear (suc k) n acc h = elim (cases_Bool (nat_eq (n / 10) 0)) [
  | inl last ↦ rw last (glyph-clear (n % 10) acc h)
  | inr more ↦ rw more (digits-clear k (n / 10) (digit_glyph false (n % 10) ∷ acc) (glyph-clear (n % 10) acc h))
]

decimal-clear : (n : ℕ) → IsClear (decimal n)
unfolding digits
decimal-clear n = digits-clear 64 n [] refl

-- ---- values

comma-clear : (later : Bool) → IsClear (comma_if later)
comma-clear true = refl
comma-clear false = refl

mutual
  pub text-clear : (d : Data) → IsClear (compact_text d)
  text-clear null = refl
  text-clear (boolean true) = refl
  text-clear (boolean false) = refl
  text-clear (number (unsigned n)) = decimal-clear n
  text-clear (number (negative (pos n))) = decimal-clear n
  text-clear (number (negative (negsuc n))) = decimal-clear (suc n)
  text-clear (number (float x)) = refl
  text-clear (string s) = quoted-clear s
  text-clear (array ds) = items-clear false ds
  text-clear (object ms) = members-clear false ms

  items-clear : (later : Bool) (ds : Items) → IsClear (items_text later ds)
  items-clear later no_items = refl
  items-clear later (item d ds) =
      clear-append (comma_if later) (compact_text d ++ items_text true ds) (comma-clear later) (clear-append (compact_text d) (items_text true ds) (text-clear d) (items-clear true ds))

  members-clear : (later : Bool) (ms : Members) → IsClear (members_text later ms)
  members-clear later no_members = refl
  members-clear later (member k d ms) =
      let behind = clear-append (compact_text d) (members_text true ms) (text-clear d) (members-clear true ms) in
      clear-append (comma_if later) (quoted k ++ 58 ∷ (compact_text d ++ members_text true ms)) (comma-clear later)
      (clear-append (quoted k) (58 ∷ (compact_text d ++ members_text true ms)) (quoted-clear k) behind)
