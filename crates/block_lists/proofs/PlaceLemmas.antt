-- Where elements are stored.
use Rattle.block_lists.proofs.Words.{◌≡◌, ℕ, zero, suc, ◌+◌, ◌-◌, ◌*◌, ◌/◌, ◌%◌, ◌<◌, ◌≤◌, List, [], ◌∷◌, length, get_or, take, drop, refl, sym, ◌∙◌, ap, subst, arith, min, inl, inr, ◌≢◌, cases_eq, cases_lt, set}
use Rattle.block_lists.proofs.Words.{get_or-append_right, get_or-drop, get_or-set_other, get_or-set_same, get_or-take, get_or_append_left, get_or_default, length-set, length-take, length-take-le}
use Rattle.block_lists.proofs.Words.{AreBlocks, AreSame, element, elements, listed, stored_at, put_mid, mid_of, RotatedLeft}

-- each element is stored among the others
pub inside : (starts : List ℕ) (count place : ℕ) → AreBlocks starts count → place < count → stored_at starts place < count
inside starts count place h l =
    elim (cases_lt (place / 256) (count / 256)) [
      | inl full ↦ omega arith
      | inr part ↦ (let none = h.last (place / 256) (omega arith) in omega (arith, none))
    ]

-- and in the last block in order
pub in-last : (starts : List ℕ) (count place : ℕ) → AreBlocks starts count → count / 256 * 256 ≤ place → stored_at starts place ≡ place
in-last starts count place h l = let none = h.last (place / 256) (omega arith) in omega (arith, none)

listed-element : {X : Type 0} (starts : List ℕ) (stored : List X) (place : ℕ) (xs : List X) (k i : ℕ) (d : X) → i ≡ place + k → k < length xs → stored_at starts i < length stored → get_or (listed starts stored place xs) k d ≡ element starts stored i d
listed-element starts stored place [] k i d e l m = absurd (omega arith)
listed-element starts stored place (x ∷ xs) zero i d e l m =
    let same : i ≡ place = omega arith in
    subst (λ p. element starts stored p x ≡ element starts stored i d) same (get_or_default stored (stored_at starts i) x d m)
listed-element starts stored place (x ∷ xs) (suc k) i d e l m = listed-element starts stored (suc place) xs k i d (omega arith) (omega arith) m

length-listed : {X : Type 0} (starts : List ℕ) (stored : List X) (place : ℕ) (xs : List X) → length (listed starts stored place xs) ≡ length xs
length-listed starts stored place [] = refl
length-listed starts stored place (x ∷ xs) = ap suc (length-listed starts stored (suc place) xs)

-- there are as many as are stored
pub length-elements : {X : Type 0} (starts : List ℕ) (stored : List X) → length (elements starts stored) ≡ length stored
length-elements starts stored = length-listed starts stored 0 stored

-- the element of a place
pub get-element : {X : Type 0} (starts : List ℕ) (stored : List X) (place : ℕ) (d : X) → AreBlocks starts (length stored) → place < length stored → get_or (elements starts stored) place d ≡ element starts stored place d
get-element starts stored place d h l = listed-element starts stored 0 stored place place d (omega arith) l (inside starts (length stored) place h l)

-- a part of a list that was written
module _ {X : Type 0} (a n : ℕ) (xs ys : List X) (fits : a + n ≤ length xs) (long : length ys ≡ n) where
  pub part-below : (k : ℕ) (d : X) → k < a → get_or (put_mid a n xs ys) k d ≡ get_or xs k d
  part-below k d l =
      get_or_append_left (take a xs) _ d k (omega (arith, length-take a xs)) ∙ get_or-take a xs k d l

  pub part-inside : (k : ℕ) (d : X) → a ≤ k → k < a + n → get_or (put_mid a n xs ys) k d ≡ get_or ys (k - a) d
  part-inside k d l m =
      get_or-append_right (take a xs) _ a k d (length-take-le a xs (omega arith)) l ∙ get_or_append_left ys _ d (k - a) (omega arith)

  pub part-above : (k : ℕ) (d : X) → a + n ≤ k → get_or (put_mid a n xs ys) k d ≡ get_or xs k d
  part-above k d l =
      get_or-append_right (take a xs) _ a k d (length-take-le a xs (omega arith)) (omega arith)
      ∙ get_or-append_right ys _ n (k - a) d long (omega arith)
      ∙ get_or-drop n (drop a xs) (k - a - n) d
      ∙ get_or-drop a xs (n + (k - a - n)) d
      ∙ ap (λ i. get_or xs i d) (omega arith)

  pub part-was : (k : ℕ) (d : X) → k < n → get_or (mid_of a n xs) k d ≡ get_or xs (a + k) d
  part-was k d l = get_or-take n (drop a xs) k d l ∙ get_or-drop a xs k d

-- the places at which blocks begin, with one of them changed
pub begins-there : (starts : List ℕ) (block v b : ℕ) → block < length starts → b ≡ block → get_or (set starts block v) b 0 ≡ v
begins-there starts block v b l e = rw e (get_or-set_same starts block v 0 l)

pub begins-elsewhere : (starts : List ℕ) (block v b : ℕ) → b ≢ block → get_or (set starts block v) b 0 ≡ get_or starts b 0
begins-elsewhere starts block v b n = get_or-set_other starts block b v 0 n

pub blocks-turned : (starts : List ℕ) (count block v : ℕ) → AreBlocks starts count → block < length starts → v < 256 → (count / 256 ≤ block → v ≡ 0) → AreBlocks (set starts block v) count
blocks-turned starts count block v h l small zero_last =
    record {
      turned = λ b. elim (cases_eq b block) [
        | inl e ↦ rw (begins-there starts block v b l e) small
        | inr n ↦ rw (begins-elsewhere starts block v b n) (h.turned b)
      ];
      last = λ b m. elim (cases_eq b block) [
        | inl e ↦ begins-there starts block v b l e ∙ zero_last (omega arith)
        | inr n ↦ begins-elsewhere starts block v b n ∙ h.last b m
      ];
      known = rw (length-set starts block v) h.known;
    }

-- an element and the place at which its block begins were changed
module _ {X : Type 0} (starts : List ℕ) (stored : List X) (block v i : ℕ) (c : X) (known : block < length starts) (low : block * 256 ≤ i) (high : i < block * 256 + 256) (within : i < length stored) where
  pub other-block : (k : ℕ) (d : X) → k / 256 ≢ block → element (set starts block v) (set stored i c) k d ≡ element starts stored k d
  other-block k d n =
      let begin = begins-elsewhere starts block v (k / 256) n in
      let at : stored_at (set starts block v) k ≡ stored_at starts k = ap (λ s. k / 256 * 256 + (s + k % 256) % 256) begin in
      let apart : stored_at starts k ≢ i = λ e. n (omega (arith, e)) in
      ap (λ j. get_or (set stored i c) j d) at ∙ get_or-set_other stored i (stored_at starts k) c d apart

  pub own-block : (k : ℕ) → k / 256 ≡ block → stored_at (set starts block v) k ≡ block * 256 + (v + k % 256) % 256
  own-block k e =
      let begin = begins-there starts block v (k / 256) known e in
      ap (λ s. k / 256 * 256 + (s + k % 256) % 256) begin ∙ ap (λ b. b * 256 + (v + k % 256) % 256) e

  pub at-changed : (k : ℕ) (d : X) → k / 256 ≡ block → block * 256 + (v + k % 256) % 256 ≡ i → element (set starts block v) (set stored i c) k d ≡ c
  at-changed k d e is =
      ap (λ j. get_or (set stored i c) j d) (own-block k e ∙ is) ∙ get_or-set_same stored i c d within

  pub at-moved : (k j : ℕ) (d : X) → k / 256 ≡ block → block * 256 + (v + k % 256) % 256 ≡ stored_at starts j → (stored_at starts j ≡ i → ⊥) → element (set starts block v) (set stored i c) k d ≡ element starts stored j d
  at-moved k j d e is apart =
      ap (λ j. get_or (set stored i c) j d) (own-block k e ∙ is) ∙ get_or-set_other stored i (stored_at starts j) c d apart

-- a block that was put in order
pub settled : {X : Type 0} (starts : List ℕ) (stored ys : List X) (block n s : ℕ) → AreBlocks starts (length stored) → block ≤ length stored / 256 → n ≡ min (length stored - block * 256) 256 → length ys ≡ n → s ≡ get_or starts block 0 → RotatedLeft (mid_of (block * 256) n stored) ys n s → AreSame (set starts block 0) (put_mid (block * 256) n stored ys) starts stored
settled starts stored ys block n s h within few long is rotated place d l =
    let first = block * 256 in
    let fits : first + n ≤ length stored = omega arith in
    let turned = h.turned block in
    let known : block < length starts = omega (arith, h.known) in
    elim (cases_eq (place / 256) block) [
      | inl own ↦
          (let begin = begins-there starts block 0 (place / 256) known own in
          let now : stored_at (set starts block 0) place ≡ place = omega (arith, begin) in
          let r = place - first in
          let inside : r < n = omega (arith, own) in
          let same : get_or starts (place / 256) 0 ≡ s = ap (λ b. get_or starts b 0) own ∙ sym is in
          let part = part-inside first n stored ys fits long place d (omega (arith, own)) (omega (arith, own)) in
          ap (λ j. get_or (put_mid first n stored ys) j d) now ∙ part ∙ elim (cases_lt (r + s) n) [
            | inl front ↦
                (let at : first + (r + s) ≡ stored_at starts place = omega (arith, own, same, front) in
                rotated.0 r d front ∙ part-was first n stored ys fits long (r + s) d front ∙ ap (λ j. get_or stored j d) at)
            | inr back ↦
                elim (cases_lt block (length stored / 256)) [
                  | inl full ↦
                      (let all : n ≡ 256 = omega (arith, full) in
                      let at : first + (r + s - n) ≡ stored_at starts place = omega (arith, own, same, back, all, turned, is) in
                      rotated.1 r d back inside ∙ part-was first n stored ys fits long (r + s - n) d (omega (arith, turned, is, inside)) ∙ ap (λ j. get_or stored j d) at)
                  | inr part_full ↦ absurd (let none = h.last block part_full in omega (arith, none, is, inside, back))
                ]
          ])
      | inr other ↦
          (let begin = begins-elsewhere starts block 0 (place / 256) other in
          let at : stored_at (set starts block 0) place ≡ stored_at starts place = ap (λ s. place / 256 * 256 + (s + place % 256) % 256) begin in
          ap (λ j. get_or (put_mid first n stored ys) j d) at ∙ elim (cases_lt place first) [
            | inl below ↦ part-below first n stored ys fits long (stored_at starts place) d (omega (arith, below))
            | inr above ↦ (let past : first + n ≤ stored_at starts place = omega (arith, above, other) in part-above first n stored ys fits long (stored_at starts place) d past)
          ])
    ]
