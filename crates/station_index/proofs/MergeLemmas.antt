-- Two lists of entries as one.
use Rattle.station_index.proofs.Words.{◌≡◌, List, [], ◌∷◌, Bool, true, false, cond, refl, sym, ◌∙◌, ap, arith, inl, inr, All, filter, cases_Bool, All-cons, All-nil, All-head, All-tail, All-filter, All-weaker, All-permutation, IsPermutation-sym, Entry, is_before_entry, before_entry-trans, before_entry-itself, AreInOrder, with_entry, comes_first, merged}
use Rattle.mt_base.proofs.KeyLemmas.{before_entry-asymmetric}
use Rattle.station_index.proofs.EntryLemmas.{IsBefore, before_entry-connected}
use Rattle.station_index.proofs.OrderLemmas.{AreInOrder-cons, AreInOrder-after, AreInOrder-tail, AreInOrder-nil, with-moves, with-all}

-- an entry that does not stand before another
abbrev pub IsNotBefore : Entry → Entry → Type 0
IsNotBefore e x = is_before_entry x e ≡ false

with-back : (P : Entry → Type 0) (e : Entry) (es : List Entry) → All P (with_entry e es) → All P (e ∷ es)
with-back P e es all = All-permutation P (with_entry e es) (e ∷ es) (IsPermutation-sym _ _ (with-moves e es)) all

pub merged-all : (P : Entry → Type 0) (es fs : List Entry) → All P es → All P fs → All P (merged es fs)
merged-all P es [] h k = h
merged-all P es (x ∷ xs) h k = with-all P x (merged es xs) (All-head P x xs k) (merged-all P es xs h (All-tail P x xs k))

-- what holds of each entry of both holds of those of the second
pub merged-second : (P : Entry → Type 0) (es fs : List Entry) → All P (merged es fs) → All P fs
merged-second P es [] h = All-nil P
merged-second P es (x ∷ xs) h =
    let back = with-back P x (merged es xs) h in
    All-cons P x xs (All-head P x (merged es xs) back) (merged-second P es xs (All-tail P x (merged es xs) back))

with-ordered-back : (e : Entry) (es : List Entry) → AreInOrder (with_entry e es) → AreInOrder es
with-ordered-back e [] up = AreInOrder-nil
with-ordered-back e (x ∷ xs) up =
    elim (cases_Bool (is_before_entry x e)) [
      | inl later ↦
          (let here = rw later at up in
          AreInOrder-cons x xs (All-tail (IsBefore x) e xs (with-back (IsBefore x) e xs (AreInOrder-after x (with_entry e xs) here))) (with-ordered-back e xs (AreInOrder-tail x (with_entry e xs) here)))
      | inr sooner ↦ (let here = rw sooner at up in AreInOrder-tail e (x ∷ xs) here)
    ]

-- an entry behind which all others stand
pub with-first : (e : Entry) (es : List Entry) → All (IsNotBefore e) es → with_entry e es ≡ e ∷ es
with-first e [] h = refl
with-first e (x ∷ xs) h = rw (h 0 x (omega arith)) refl

-- what does not stand before an entry, nor does what stands behind it
not-before-after : (e x y : Entry) → IsNotBefore e x → IsBefore x y → IsNotBefore e y
not-before-after e x y h k =
    elim (cases_Bool (is_before_entry y e)) [
      | inl sooner ↦ (let both = before_entry-trans x y e k sooner in cc)
      | inr later ↦ later
    ]

pub none-before : (e x : Entry) (xs : List Entry) → AreInOrder (x ∷ xs) → IsNotBefore e x → All (IsNotBefore e) (x ∷ xs)
none-before e x xs up h =
    All-cons (IsNotBefore e) x xs h (All-weaker (IsBefore x) (IsNotBefore e) (λ y. not-before-after e x y h) xs (AreInOrder-after x xs up))

-- two entries more, in either order: where the first stands before the second
with-lower : (a b : Entry) (es : List Entry) → IsBefore a b → with_entry a (with_entry b es) ≡ with_entry b (with_entry a es)
with-lower a b [] h = rw (h, before_entry-asymmetric a b h) refl
with-lower a b (x ∷ xs) h =
    elim (cases_Bool (is_before_entry x a)) [
      | inl low ↦
          (let mid = before_entry-trans x a b low h in
          simp (low, mid) (ap (λ r. x ∷ r) (with-lower a b xs h)))
      | inr high ↦
          elim (cases_Bool (is_before_entry x b)) [
            | inl mid ↦ simp (high, mid, h) refl
            | inr top ↦ simp (high, top, before_entry-asymmetric a b h, h) refl
          ]
    ]

pub with-with : (a b : Entry) (es : List Entry) → with_entry a (with_entry b es) ≡ with_entry b (with_entry a es)
with-with a b es =
    elim (cases_Bool (is_before_entry a b)) [
      | inl lower ↦ with-lower a b es lower
      | inr other ↦
          elim (cases_Bool (is_before_entry b a)) [
            | inl higher ↦ sym (with-lower b a es higher)
            | inr same ↦ rw (before_entry-connected a b other same) refl
          ]
    ]

-- an entry more in the second list
pub merged-with : (e : Entry) (es fs : List Entry) → merged es (with_entry e fs) ≡ with_entry e (merged es fs)
merged-with e es [] = refl
merged-with e es (x ∷ xs) =
    elim (cases_Bool (is_before_entry x e)) [
      | inl later ↦ rw later (ap (with_entry x) (merged-with e es xs) ∙ with-with x e (merged es xs))
      | inr sooner ↦ rw sooner refl
    ]

-- those that pass a test, once an entry is put in
filter-with : (p : Entry → Bool) (e : Entry) (es : List Entry) → AreInOrder es → filter p (with_entry e es) ≡ cond (p e) (with_entry e (filter p es)) (filter p es)
filter-with p e [] up = refl
filter-with p e (x ∷ xs) up =
    elim (cases_Bool (is_before_entry x e)) [
      | inl later ↦
          (let rest = filter-with p e xs (AreInOrder-tail x xs up) in
          elim (cases_Bool (p x)) [
            | inl passes ↦
                elim (cases_Bool (p e)) [
                  | inl own ↦ simp (later, passes, own) (ap (λ r. x ∷ r) (rw own at rest))
                  | inr none ↦ simp (later, passes, none) (ap (λ r. x ∷ r) (rw none at rest))
                ]
            | inr fails ↦ simp (later, fails) rest
          ])
      | inr sooner ↦
          (let first = with-first e (filter p (x ∷ xs)) (All-filter p (IsNotBefore e) (x ∷ xs) (none-before e x xs up sooner)) in
          rw sooner (ap (λ r. cond (p e) r (filter p (x ∷ xs))) (sym first)))
    ]

-- those of both that pass a test
pub filter-merged : (p : Entry → Bool) (es fs : List Entry) → AreInOrder (merged es fs) → filter p (merged es fs) ≡ merged (filter p es) (filter p fs)
filter-merged p es [] up = refl
filter-merged p es (x ∷ xs) up =
    let before = with-ordered-back x (merged es xs) up in
    let rest = filter-merged p es xs before in
    filter-with p x (merged es xs) before
    ∙ elim (cases_Bool (p x)) [
      | inl passes ↦ simp passes (ap (with_entry x) rest)
      | inr fails ↦ simp fails rest
    ]

-- the first of the first list comes first of all
pub merged-first : (x : Entry) (xs fs : List Entry) → All (IsBefore x) fs → merged (x ∷ xs) fs ≡ x ∷ merged xs fs
merged-first x xs [] h = refl
merged-first x xs (y ∷ ys) h =
    ap (with_entry y) (merged-first x xs ys (All-tail (IsBefore x) y ys h)) ∙ (rw (All-head (IsBefore x) y ys h) refl)

-- an entry that comes first of a list in order stands before all of it
pub first-before-all : (x : Entry) (ys : List Entry) → AreInOrder ys → comes_first x ys ≡ true → All (IsBefore x) ys
first-before-all x [] up h = All-nil (IsBefore x)
first-before-all x (y ∷ ys) up h =
    All-cons (IsBefore x) y ys h (All-weaker (IsBefore y) (IsBefore x) (λ z. before_entry-trans x y z h) ys (AreInOrder-after y ys up))

-- the first of the second list comes first of all, where the first of the first does not
pub merged-other : (x y : Entry) (xs ys : List Entry) → AreInOrder (x ∷ xs) → AreInOrder (y ∷ ys) → is_before_entry x y ≡ false → merged (x ∷ xs) (y ∷ ys) ≡ y ∷ merged (x ∷ xs) ys
merged-other x y xs ys up high h =
    with-first y (merged (x ∷ xs) ys)
    (merged-all (IsNotBefore y) (x ∷ xs) ys (none-before y x xs up h) (All-tail (IsNotBefore y) y ys (none-before y y ys high (before_entry-itself y))))

-- and where the first list is empty
pub merged-only : (y : Entry) (ys : List Entry) → AreInOrder (y ∷ ys) → merged [] (y ∷ ys) ≡ y ∷ merged [] ys
merged-only y ys high =
    with-first y (merged [] ys)
    (merged-all (IsNotBefore y) [] ys (All-nil (IsNotBefore y)) (All-tail (IsNotBefore y) y ys (none-before y y ys high (before_entry-itself y))))
