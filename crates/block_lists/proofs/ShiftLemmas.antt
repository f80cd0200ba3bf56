-- Elements of a part of a list that move on or back by one.
use Rattle.block_lists.proofs.Words.{◌≡◌, ◌≢◌, ℕ, ◌+◌, ◌-◌, ◌<◌, ◌≤◌, List, length, get_or, drop, sym, ◌∙◌, ap, arith, inl, inr, cases_eq, set, nat_tests}
use Rattle.block_lists.proofs.Words.{get_or-set_other, get_or-set_same, get_or_default, length-set, length-take-le, length-drop, IsShiftedBack, followed, moved_on, put_mid, mid_of, RotatedLeft}
use borrow.Rule.Slice.PartMut.{same_len_mid}
use Rattle.block_lists.proofs.PlaceLemmas.{part-above, part-below, part-inside, part-was}

module _ {X : Type 0} (before : ℕ → X → X) (at : ℕ) (item x d : X) (k : ℕ) where
  pub moved-first : k ≡ at → x ≡ item → x ≡ moved_on before at item k d
  moved-first e h = grind (arith, nat_tests, e, h)

  pub moved-later : k ≢ at → x ≡ before (k - 1) d → x ≡ moved_on before at item k d
  moved-later e h = grind (arith, nat_tests, e, h)

  pub followed-last : k ≡ at → x ≡ item → x ≡ followed before at item k d
  followed-last e h = grind (arith, nat_tests, e, h)

  pub followed-before : k ≢ at → x ≡ before k d → x ≡ followed before at item k d
  followed-before e h = grind (arith, nat_tests, e, h)

module _ {X : Type 0} (before : ℕ → X → X) (at : ℕ) (item d : X) (k : ℕ) where
  pub moved-here : k ≡ at → moved_on before at item k d ≡ item
  moved-here e = grind (arith, nat_tests, e)

  pub moved-other : k ≢ at → moved_on before at item k d ≡ before (k - 1) d
  moved-other e = grind (arith, nat_tests, e)

  pub followed-is : k ≡ at → followed before at item k d ≡ item
  followed-is e = grind (arith, nat_tests, e)

  pub followed-other : k ≢ at → followed before at item k d ≡ before k d
  followed-other e = grind (arith, nat_tests, e)

part-length : {X : Type 0} (a n : ℕ) (xs ys : List X) → a + n ≤ length xs → length ys ≡ n → length (put_mid a n xs ys) ≡ length xs
part-length a n xs ys fits long = same_len_mid a n xs ys (long ∙ sym (length-take-le n (drop a xs) (omega (arith, length-drop a xs))))

pub shifted-back : {X : Type 0} (old ys : List X) (from end : ℕ) (item taken : X) → from < end → end ≤ length old → length ys ≡ end - from → RotatedLeft (mid_of from (end - from) (set old from item)) ys (end - from) 1 → taken ≡ get_or old from taken → IsShiftedBack old (put_mid from (end - from) (set old from item) ys) from end item taken
shifted-back old ys from end item taken order within long rotated read =
    let n = end - from in
    let mid = set old from item in
    let count = length-set old from item in
    let fits : from + n ≤ length mid = omega (arith, count) in
    record {
      same_length = part-length from n mid ys fits long ∙ count;
      below = λ k d l. part-below from n mid ys fits long k d l ∙ get_or-set_other old from k item d (λ e. omega (arith, e, l));
      moved = λ k d l m. elim (cases_eq (k + 1) end) [
        | inl e ↦ followed-last (get_or old) end item _ d (k + 1) e (
            part-inside from n mid ys fits long k d l (omega arith)
            ∙ rotated.1 (k - from) d (omega (arith, e)) (omega (arith, e))
            ∙ part-was from n mid ys fits long (k - from + 1 - n) d (omega (arith, e))
            ∙ ap (λ j. get_or mid j d) (omega (arith, e))
            ∙ get_or-set_same old from item d (omega arith))
        | inr e ↦ followed-before (get_or old) end item _ d (k + 1) e (
            part-inside from n mid ys fits long k d l (omega arith)
            ∙ rotated.0 (k - from) d (omega (arith, e))
            ∙ part-was from n mid ys fits long (k - from + 1) d (omega (arith, e))
            ∙ ap (λ j. get_or mid j d) (omega (arith, e))
            ∙ get_or-set_other old from (k + 1) item d (λ f. omega (arith, f, l)))
      ];
      above = λ k d l. part-above from n mid ys fits long k d (omega (arith, l)) ∙ get_or-set_other old from k item d (λ e. omega (arith, e, l));
      taken_is = λ d. followed-before (get_or old) end item _ d from (λ e. omega (arith, e)) (read ∙ get_or_default old from taken d (omega arith));
    }
