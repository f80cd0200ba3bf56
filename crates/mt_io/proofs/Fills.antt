-- A buffer after its held bytes were moved and bytes were read behind them.
use Rattle.std.proofs.Common.{◌≡◌, ◌<◌, ◌≤◌, ◌+◌, ◌-◌, ◌++◌, ◌∙◌, ℕ, List, length, take, drop, slice_range, arith, ap, sym, subst, length-take, length-drop, true, false, nat_eq, [], ◌∷◌, refl}
use Rattle.std.proofs.lemmas.Bool.Decides.{nat_tests}
use Rattle.mt_io.specs.Steps.{Buffer, HasNoLf}
use Rattle.mt_io.proofs.Slices.{kept_range, range_split}

pub held_after : (old made new : List ℕ) (s e i at : ℕ) → slice_range made i at ≡ slice_range old s e → take at new ≡ take at made → slice_range new i at ≡ slice_range old s e
held_after old made new s e i at moved front = kept_range made new i at front ∙ moved

pub buffer_after : (old made new : List ℕ) (s e i at j : ℕ) → slice_range made i at ≡ slice_range old s e → take at new ≡ take at made
    → HasNoLf (slice_range old s e) → i ≤ at → at ≤ j → j ≤ 131072 → at ≤ i + 65536 → Buffer new i at j
buffer_after old made new s e i at j moved front lf begins goes_on within few = record {
  begins = begins;
  goes_on = goes_on;
  within = within;
  few = few;
  lf = subst HasNoLf (sym (held_after old made new s e i at moved front)) lf;
}

pub held_more : (old made new : List ℕ) (s e i at j : ℕ) → slice_range made i at ≡ slice_range old s e → take at new ≡ take at made → i ≤ at → at ≤ j
    → slice_range new i j ≡ slice_range old s e ++ slice_range new at j
held_more old made new s e i at j moved front begins goes_on =
    range_split new i at j begins goes_on ∙ ap (λ (l : List ℕ). l ++ slice_range new at j) (held_after old made new s e i at moved front)

pub range_length : (xs : List ℕ) (i j : ℕ) → j ≤ length xs → length (slice_range xs i j) ≡ j - i
range_length xs i j room = omega (arith, length-take (j - i) (drop i xs), length-drop i xs)

pub some_read : (n : ℕ) → nat_eq n 0 ≡ false → 0 < n
some_read n not_none = grind (arith, nat_tests)

pub none_read : (n : ℕ) → nat_eq n 0 ≡ true → n ≡ 0
none_read n none = grind (arith, nat_tests)

pub empty_of_length : (xs : List ℕ) → length xs ≡ 0 → xs ≡ []
empty_of_length [] is = refl
empty_of_length (x ∷ xs) is = absurd (omega arith)
