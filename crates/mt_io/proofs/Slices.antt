-- Parts of a list.
use Rattle.std.proofs.Common.{◌≡◌, ◌≤◌, ℕ, ◌+◌, ◌-◌, ◌++◌, [], List, length, take, drop, slice_range, arith, ◌∙◌, ap, sym}
use Rattle.std.proofs.lemmas.List.{drop-drop, drop_all, length-take, take-take, take-append-drop, take_at}
use Rattle.std.proofs.lemmas.Slice.{between_is}

pub empty_range : (xs : List ℕ) (i : ℕ) → slice_range xs i i ≡ []
empty_range xs i = between_is xs i i ∙ drop_all i (take i xs) (omega (arith, length-take i xs))

pub later_range : (xs : List ℕ) (i n j : ℕ) → slice_range xs (i + n) j ≡ drop n (slice_range xs i j)
later_range xs i n j = between_is xs (i + n) j ∙ sym (drop-drop n i (take j xs)) ∙ ap (drop n) (sym (between_is xs i j))

pub first_range : (xs : List ℕ) (i n j : ℕ) → i + n ≤ j → slice_range xs i (i + n) ≡ take n (slice_range xs i j)
first_range xs i n j le = (λ k. take (same k) (drop i xs)) ∙ sym (take-take n (j - i) (drop i xs) (omega arith))
  where
    same : i + n - i ≡ n
    same = omega arith

pub range_split : (xs : List ℕ) (i m j : ℕ) → i ≤ m → m ≤ j → slice_range xs i j ≡ slice_range xs i m ++ slice_range xs m j
range_split xs i m j low high =
    sym (take-append-drop (m - i) (slice_range xs i j))
    ∙ (λ k. sym (first_range xs i (m - i) j (omega arith)) k ++ sym (later_range xs i (m - i) j) k)
    ∙ (λ k. slice_range xs i (same k) ++ slice_range xs (same k) j)
  where
    same : i + (m - i) ≡ m
    same = omega arith

-- where a front is kept, so are its parts
pub kept_range : (xs ys : List ℕ) (i j : ℕ) → take j ys ≡ take j xs → slice_range ys i j ≡ slice_range xs i j
kept_range xs ys i j same = between_is ys i j ∙ ap (drop i) same ∙ sym (between_is xs i j)

-- what a read of n bytes at a place leaves
pub read_from : (bytes buf got : List ℕ) (at n : ℕ) → length got ≡ n → got ≡ take (at + n - at) (drop at bytes) → drop at bytes ≡ take n (got ++ drop n buf) ++ drop (at + n) bytes
read_from bytes buf got at n len copied =
    sym (take-append-drop n (drop at bytes)) ∙ (λ k. sym front k ++ drop-drop n at bytes k)
  where
    count : at + n - at ≡ n
    count = omega arith

    front : take n (got ++ drop n buf) ≡ take n (drop at bytes)
    front = take_at got (drop n buf) n len ∙ copied ∙ (λ k. take (count k) (drop at bytes))
