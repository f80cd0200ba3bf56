-- Lists of entries in their order: places, and what an edit there does.
use Rattle.station_index.proofs.Words.{◌≡◌, ◌≢◌, ℕ, zero, suc, ◌+◌, ◌-◌, ◌<◌, ◌≤◌, List, [], ◌∷◌, Bool, true, false, not, ◌&&◌, length, get_or, take, drop, refl, sym, ◌∙◌, ap, arith, inl, inr, All, set, filter, HoldsAt, IsPartitionPoint, IsPartitionedBy, cases_lt, get_or-drop, get_or-take, length-drop, length-take, at_read, Entry, is_before_entry, before_entry-trans, AreInOrder, is_same_entry, is_in_range, with_entry, without_entry, kept, IsRangeAt, is_before_range, is_past_range}
use Rattle.std.specs.List.{insert, remove}
use Rattle.station_index.proofs.KeptLemmas.{kept-clear, kept-from, kept-up_to}
use Rattle.station_index.proofs.EntryLemmas.{IsBefore, before_entry-connected, before-differs, after-differs, same_entry-itself, before-range, past-range, in-range}

-- so many entries stand before an entry
abbrev pub IsPlace : Entry → List Entry → ℕ → Type 0
IsPlace e es i = IsPartitionPoint (λ x. is_before_entry x e ≡ true) (λ x. is_before_entry x e ≡ false) es i

-- in entries in order, those before an entry come first
pub parted : (e : Entry) (es : List Entry) → AreInOrder es → IsPartitionedBy (λ x. is_before_entry x e) es
parted e es up i j d le l h =
    elim (cases_lt i j) [
      | inl below ↦ before_entry-trans _ _ _ (up i j d below l) h
      | inr above ↦ (let same : i ≡ j = omega arith in rw same h)
    ]

-- and so do those before a range, and those not past it
pub range-parted : (stop : ℕ) (dep : Bool) (lo : ℕ) (es : List Entry) → AreInOrder es → IsPartitionedBy (is_before_range stop dep lo) es
range-parted stop dep lo es up i j d le l h =
    elim (cases_lt i j) [
      | inl below ↦ before-range stop dep lo _ _ (up i j d below l) h
      | inr above ↦ (let same : i ≡ j = omega arith in rw same h)
    ]

turn : (a b : Bool) → (a ≡ true → b ≡ true) → not b ≡ true → not a ≡ true
turn true b f h = absurd (let e = f refl in cc)
turn false b f h = refl

pub past-parted : (stop : ℕ) (dep : Bool) (hi : ℕ) (es : List Entry) → AreInOrder es → IsPartitionedBy (λ e. not (is_past_range stop dep hi e)) es
past-parted stop dep hi es up i j d le l h =
    elim (cases_lt i j) [
      | inl below ↦ turn _ _ (past-range stop dep hi _ _ (up i j d below l)) h
      | inr above ↦ (let same : i ≡ j = omega arith in rw same h)
    ]

-- an entry that is put in at its place
pub with-at : (e : Entry) (es : List Entry) (i : ℕ) → i ≤ length es → IsPlace e es i → insert es i e ≡ with_entry e es
with-at e [] zero l h = refl
with-at e [] (suc i) l h = absurd (omega arith)
with-at e (x ∷ xs) zero l h = rw (h.1 0 x (omega arith) (omega arith)) refl
with-at e (x ∷ xs) (suc i) l h =
    rw (h.0 0 x (omega arith) (omega arith)) (ap (λ r. x ∷ r) (with-at e xs i (omega arith) ((λ j d m n. h.0 (suc j) d (omega arith) (omega arith)), (λ j d m n. h.1 (suc j) d (omega arith) (omega arith)))))

module _ {X : Type 0} (p : X → Bool) where
  pub all-pass : (xs : List X) → All (λ x. p x ≡ true) xs → filter p xs ≡ xs
  all-pass [] h = refl
  all-pass (x ∷ xs) h = rw (h 0 x (omega arith)) (ap (λ r. x ∷ r) (all-pass xs (λ k d l. h (suc k) d (omega arith))))

  pub none-pass : (xs : List X) → All (λ x. p x ≡ false) xs → filter p xs ≡ []
  none-pass [] h = refl
  none-pass (x ∷ xs) h = rw (h 0 x (omega arith)) (none-pass xs (λ k d l. h (suc k) d (omega arith)))

  -- all but the one at a place pass
  pub remove-is : (xs : List X) (i : ℕ) → i < length xs → ((k : ℕ) (d : X) → k < length xs → k ≢ i → p (get_or xs k d) ≡ true) → HoldsAt (λ x. p x ≡ false) xs i → filter p xs ≡ remove xs i
  remove-is [] i l h n = absurd (omega arith)
  remove-is (x ∷ xs) zero l h n = rw (n x) (all-pass xs (λ k d m. h (suc k) d (omega arith) (λ e. absurd (omega arith))))
  remove-is (x ∷ xs) (suc i) l h n =
      rw (h 0 x (omega arith) (λ e. absurd (omega arith))) (ap (λ r. x ∷ r) (remove-is xs i (omega arith) (λ k d m o. h (suc k) d (omega arith) (λ e. o (omega arith))) (λ d. n d)))

  -- none passes at the front
  pub front-none : (n : ℕ) (xs : List X) → ((i : ℕ) (d : X) → i < n → i < length xs → p (get_or xs i d) ≡ false) → filter p (drop n xs) ≡ filter p xs
  front-none zero xs h = refl
  front-none (suc n) [] h = refl
  front-none (suc n) (x ∷ xs) h = rw (h 0 x (omega arith) (omega arith)) (front-none n xs (λ i d l m. h (suc i) d (omega (arith, l)) (omega (arith, m))))

  -- those at the front pass, and no other
  pub front-all : (n : ℕ) (xs : List X) → ((i : ℕ) (d : X) → i < n → i < length xs → p (get_or xs i d) ≡ true) → ((i : ℕ) (d : X) → n ≤ i → i < length xs → p (get_or xs i d) ≡ false) → take n xs ≡ filter p xs
  front-all zero [] h k = refl
  front-all (suc n) [] h k = refl
  front-all zero (x ∷ xs) h k = sym (none-pass (x ∷ xs) (λ i d l. k i d (omega arith) l))
  front-all (suc n) (x ∷ xs) h k =
      rw (h 0 x (omega arith) (omega arith)) (ap (λ r. x ∷ r) (front-all n xs (λ i d l m. h (suc i) d (omega (arith, l)) (omega (arith, m))) (λ i d l m. k (suc i) d (omega (arith, l)) (omega (arith, m)))))

-- an entry that is there is taken out at its place
pub without-there : (e : Entry) (es : List Entry) (i : ℕ) → AreInOrder es → i < length es → HoldsAt (λ x. x ≡ e) es i → without_entry e es ≡ remove es i
without-there e es i up l there =
    remove-is (λ x. not (is_same_entry x e)) es i l
    (λ k d m o. elim (cases_lt k i) [
      | inl below ↦ before-differs _ e (rw (there d) at (up k i d below l))
      | inr above ↦ (let later : i < k = omega arith in after-differs _ e (rw (there d) at (up i k d later m)))
    ])
    (λ d. rw (there d, same_entry-itself e) refl)

pub AreInOrder-drop : (n : ℕ) (es : List Entry) → AreInOrder es → AreInOrder (drop n es)
AreInOrder-drop n es up i j d l m =
    let before : n + i < n + j = omega arith in
    let within : n + j < length es = omega (arith, length-drop n es) in
    rw (get_or-drop n es i d, get_or-drop n es j d) (up (n + i) (n + j) d before within)

pub AreInOrder-take : (n : ℕ) (es : List Entry) → AreInOrder es → AreInOrder (take n es)
AreInOrder-take n es up i j d l m =
    let count = length-take n es in
    rw (get_or-take n es i d (omega (arith, l, m, count)), get_or-take n es j d (omega (arith, m, count))) (up i j d l (omega (arith, m, count)))

both-pass : (q a b : Bool) → q ≡ (a && b) → a ≡ true → b ≡ true → q ≡ true
both-pass q true true e h k = e
both-pass q true false e h k = cc
both-pass q false b e h k = cc

first-fails : (q a b : Bool) → q ≡ (a && b) → a ≡ false → q ≡ false
first-fails q false b e h = e
first-fails q true b e h = cc

second-fails : (q a b : Bool) → q ≡ (a && b) → b ≡ false → q ≡ false
second-fails q true false e h = e
second-fails q false false e h = e
second-fails q a true e h = cc

-- the entries of a range, from the two places that a search finds
pub range-at : (stop : ℕ) (dep : Bool) (lo hi : ℕ) (es : List Entry) (first last end : ℕ) → first ≤ end → last ≤ end → end ≤ length es → ((k : ℕ) → k < end → first ≤ k → k < last) → IsPartitionPoint (λ e. is_before_range stop dep lo e ≡ true) (λ e. is_before_range stop dep lo e ≡ false) es first → IsPartitionPoint (λ e. not (is_past_range stop dep hi e) ≡ true) (λ e. not (is_past_range stop dep hi e) ≡ false) es last → IsRangeAt (is_in_range stop dep lo hi) es first end
range-at stop dep lo hi es first last end from upto within inner low high =
    let test = in-range stop dep lo hi in
    record {
      order = from;
      within = within;
      before = λ k d l m. first-fails _ _ _ (test (get_or es k d)) (ap not (low.0 k d (omega arith) m));
      inside = λ k d l m. both-pass _ _ _ (test (get_or es k d)) (ap not (low.1 k d l (omega (arith, within, m)))) (high.0 k d (omega arith) (inner k m l));
      after = λ k d l m. second-fails _ _ _ (test (get_or es k d)) (high.1 k d (omega (arith, upto, l)) m);
    }

module _ (p : Entry → Bool) (es : List Entry) (first last : ℕ) (h : IsRangeAt p es first last) where
  -- they are those that pass the test
  pub range-is : take (last - first) (drop first es) ≡ filter p es
  range-is =
      let behind = length-drop first es in
      front-all p (last - first) (drop first es)
      (λ i d l m. rw (get_or-drop first es i d) (h.inside (first + i) d (omega arith) (omega (arith, h.order, l))))
      (λ i d l m. rw (get_or-drop first es i d) (h.after (first + i) d (omega (arith, h.order, l)) (omega (arith, behind, m))))
      ∙ front-none p first es (λ i d l m. h.before i d (omega arith) l)

  -- and so are those whose flags are set
  pub range-kept : (fs : List Bool) → kept (take (last - first) (drop first es)) (take (last - first) (drop first fs)) ≡ filter p (kept es fs)
  range-kept fs =
      let behind = length-drop first es in
      kept-up_to p (last - first) (drop first es) (drop first fs)
      (λ i d l m. rw (get_or-drop first es i d) (h.inside (first + i) d (omega arith) (omega (arith, h.order, l))))
      (λ i d l m. rw (get_or-drop first es i d) (h.after (first + i) d (omega (arith, h.order, l)) (omega (arith, behind, m))))
      ∙ kept-from p first es fs (λ i d l m. h.before i d (omega arith) l)

-- a test that tells an entry from all others
abbrev pub differs : Entry → Entry → Bool
differs e x = not (is_same_entry x e)

-- the flag of an entry that is there is cleared at its place
pub clear-there : (e : Entry) (es : List Entry) (fs : List Bool) (i : ℕ) → AreInOrder es → i < length es → HoldsAt (λ x. x ≡ e) es i → kept es (set fs i false) ≡ without_entry e (kept es fs)
clear-there e es fs i up l there =
    kept-clear (differs e) es fs i
    (λ k d m o. elim (cases_lt k i) [
      | inl below ↦ before-differs _ e (rw (there d) at (up k i d below l))
      | inr above ↦ (let later : i < k = omega arith in after-differs _ e (rw (there d) at (up i k d later m)))
    ])
    (λ d. rw (there d, same_entry-itself e) refl)

pub all-differ : (e : Entry) (es : List Entry) (i : ℕ) → AreInOrder es → IsPlace e es i → (i < length es → HoldsAt (λ x. IsBefore e x) es i) → All (λ x. differs e x ≡ true) es
all-differ e es i up h high k d l =
    elim (cases_lt k i) [
      | inl below ↦ before-differs _ e (h.0 k d (omega arith) below)
      | inr above ↦ elim (cases_lt i k) [
        | inl later ↦ (let m : i < length es = omega arith in after-differs _ e (before_entry-trans _ _ _ (high m d) (up i k d later l)))
        | inr at ↦ (let same : k ≡ i = omega arith in let m : i < length es = omega arith in after-differs _ e (rw same (high m d)))
      ]
    ]

-- what was read at the place of an entry, and is not behind it, is that entry
pub without-found : (e : Entry) (es : List Entry) (i : ℕ) (x : Entry) → AreInOrder es → IsPlace e es i → i < length es → x ≡ get_or es i x → is_before_entry e x ≡ false → without_entry e es ≡ remove es i
without-found e es i x up h l is behind =
    let low : is_before_entry x e ≡ false = ap (λ y. is_before_entry y e) is ∙ h.1 i x (omega arith) l in
    without-there e es i up l (at_read es (λ y. y ≡ e) i x l is (before_entry-connected x e low behind))

-- and if it is behind it, the entry is not there
pub without-missed : (e : Entry) (es : List Entry) (i : ℕ) (x : Entry) → AreInOrder es → IsPlace e es i → i < length es → x ≡ get_or es i x → is_before_entry e x ≡ true → without_entry e es ≡ es
without-missed e es i x up h l is later = all-pass (differs e) es (all-differ e es i up h (λ m. at_read es (λ y. IsBefore e y) i x l is later))

pub without-past : (e : Entry) (es : List Entry) (i : ℕ) → AreInOrder es → IsPlace e es i → length es ≤ i → without_entry e es ≡ es
without-past e es i up h l = all-pass (differs e) es (all-differ e es i up h (λ m. absurd (omega arith)))
