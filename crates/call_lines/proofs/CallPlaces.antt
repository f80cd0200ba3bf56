-- Places of calls by their labels, and what stands at, before and after a place.
use Rattle.call_lines.proofs.Words.{last_label, option_map, ◌∙◌, nat_tests, get-old, take-append-drop, ◌≡◌, ◌≢◌, ℕ, zero, suc, ◌+◌, ◌-◌, ◌<◌, ◌≤◌, List, [], ◌∷◌, Bool, true, false, length}
use Rattle.call_lines.proofs.Words.{get_or, take, drop, refl, sym, ap, subst, arith, Option, None, slice_get, find, map, is_some, All, list_any, length-map, get_or-map, All-drop, Call, before}
use Rattle.call_lines.proofs.Words.{after, up_to, is_call, calls_between, stands_before, HasDistinctLabels, IsFirst, AreInOrder}
use Rattle.delay_model.specs.Cuts as Cuts
use Rattle.std.proofs.lemmas.List.Folds.{list_any_none}

-- what the first place that passes a test says of a list
pub record IsCut {X : Type 0} (p : X → Bool) (k : ℕ) (xs : List X) : Type 0 where
  pub within : k < length xs
  pub found : find p xs ≡ slice_get xs k
  pub before_is : before p xs ≡ take k xs
  pub after_is : after p xs ≡ drop (suc k) xs
  pub from_is : Cuts.from p xs ≡ drop k xs
  pub up_to_is : up_to p xs ≡ take (suc k) xs
  pub some : list_any p xs ≡ true

pub first-cut : {X : Type 0} (p : X → Bool) (k : ℕ) (xs : List X) → IsFirst p k xs → IsCut p k xs
first-cut p k [] h = absurd h
first-cut p k (x ∷ xs) h = grind (arith, h, λ (j : ℕ). first-cut p j xs)

pub first-within : {X : Type 0} (p : X → Bool) (k : ℕ) (xs : List X) → IsFirst p k xs → k < length xs
first-within p k xs h = (first-cut p k xs h).within

pub first-from : {X : Type 0} (p : X → Bool) (k : ℕ) (xs : List X) → IsFirst p k xs → Cuts.from p xs ≡ drop k xs
first-from p k xs h = (first-cut p k xs h).from_is

pub first-up_to : {X : Type 0} (p : X → Bool) (k : ℕ) (xs : List X) → IsFirst p k xs → up_to p xs ≡ take (suc k) xs
first-up_to p k xs h = (first-cut p k xs h).up_to_is

-- the same place, counted from an earlier one
pub first-drop : {X : Type 0} (p : X → Bool) (j k m : ℕ) (xs : List X) → m ≡ j + k → IsFirst p m xs → IsFirst p k (drop j xs)
first-drop p (suc j) k (suc m) (x ∷ xs) e h = first-drop p j k m xs (omega arith) h.1
first-drop p j k m xs e h = grind (arith, e, h)

pub none-any : {X : Type 0} (p : X → Bool) (xs : List X) → find p xs ≡ None → list_any p xs ≡ false
none-any p [] h = refl
none-any p (x ∷ xs) h = grind (arith, none-any p xs)

-- a label is that of the call at one place
pub at-label : (cs : List Call) (j l : ℕ) (d : Call) → HasDistinctLabels cs → j < length cs → (get_or cs j d).label ≡ l → IsFirst (is_call l) j cs
at-label (c ∷ cs) (suc j) l d h m e = grind (arith, nat_tests, h.0 j d (omega arith), e, at-label cs j l d h.1)
at-label cs j l d h m e = grind (arith, nat_tests, e, m)

pub past-none : (cs : List Call) (j l m : ℕ) → HasDistinctLabels cs → IsFirst (is_call l) j cs → j < m → list_any (is_call l) (drop m cs) ≡ false
past-none (c ∷ cs) (suc j) l (suc m) d h k = past-none cs j l m d.1 h.1 (omega arith)
past-none (c ∷ cs) zero l (suc m) d h k = list_any_none (is_call l) (drop m cs) (λ i e n. grind (arith, nat_tests, h, All-drop (λ (x : Call). c.label ≢ x.label) m cs d.0 i e n))
past-none cs j l m d h k = absurd (grind (arith, h, k))

later-cut : (from to first last : ℕ) (cs : List Call) → AreInOrder from to first last cs → IsCut (is_call to) (last - suc first) (drop (suc first) cs)
later-cut from to first last cs w =
    first-cut (is_call to) _ _ (first-drop (is_call to) (suc first) (last - suc first) last cs (omega (arith, w.order)) w.end)

-- two calls in order stand so
pub stands : (from to first last : ℕ) (cs : List Call) → AreInOrder from to first last cs → stands_before from to cs ≡ true
stands from to first last cs w = grind (arith, first-cut (is_call from) first cs w.start, later-cut from to first last cs w)

pub stands-no-first : (from to : ℕ) (cs : List Call) → find (is_call from) cs ≡ None → stands_before from to cs ≡ false
stands-no-first from to cs h = rw (none-any (is_call from) cs h) refl

pub stands-no-last : (from to : ℕ) (cs : List Call) → find (is_call to) cs ≡ None → stands_before from to cs ≡ false
stands-no-last from to [] h = refl
stands-no-last from to (c ∷ cs) h = grind (arith, h, none-any (is_call to) cs, stands-no-last from to cs)

pub stands-not : (from to first last : ℕ) (cs : List Call) → HasDistinctLabels cs → IsFirst (is_call from) first cs → IsFirst (is_call to) last cs → last ≤ first → stands_before from to cs ≡ false
stands-not from to first last cs d h k l = grind (arith, first-cut (is_call from) first cs h, past-none cs last to (suc first) d k (omega arith))

-- the calls between two calls, by their places
pub between-at : (from to first last : ℕ) (cs : List Call) → AreInOrder from to first last cs → calls_between from to cs ≡ take (last - suc first) (drop (suc first) cs)
between-at from to first last cs w = grind (arith, first-cut (is_call from) first cs w.start, later-cut from to first last cs w)

abbrev pub label_of : Call → ℕ
label_of c = c.label

pub labels-length : (cs ds : List Call) → map label_of cs ≡ map label_of ds → length cs ≡ length ds
labels-length cs ds e = omega (arith, length-map cs label_of, ap length e, length-map ds label_of)

-- what holds of the labels of some calls, holds of those of others with the same labels
pub All-labels : (P : ℕ → Type 0) (cs ds : List Call) → map label_of cs ≡ map label_of ds → All (λ c. P c.label) cs → All (λ c. P c.label) ds
All-labels P cs ds e h = λ k d l.
    subst P (grind (arith, labels-length cs ds e, get_or-map label_of cs k d d.label, get_or-map label_of ds k d d.label l)) (h k d (omega (arith, labels-length cs ds e)))

pub distinct-labels : (cs ds : List Call) → map label_of cs ≡ map label_of ds → HasDistinctLabels cs → HasDistinctLabels ds
distinct-labels cs [] e h = tt
distinct-labels [] (d ∷ ds) e h = absurd (cc)
distinct-labels (c ∷ cs) (d ∷ ds) e h = grind (arith, e, h, distinct-labels cs ds (cc) h.1, All-labels (λ n. d.label ≢ n) cs ds (cc))

pub never : {X : Type 0} (o : Option X) → o ≡ None → is_some o ≡ true → ⊥
never o e h = absurd (cc)

-- the last label is that at the last place
pub last-at : (cs : List Call) → last_label cs ≡ option_map label_of (slice_get cs (length cs - 1))
last-at [] = refl
last-at (c ∷ cs) = grind (arith, last-at cs)

pub get-take : {X : Type 0} (n : ℕ) (xs : List X) (k : ℕ) → k < length (take n xs) → slice_get (take n xs) k ≡ slice_get xs k
get-take n xs k l = sym (get-old (take n xs) (drop n xs) k l) ∙ ap (λ ys. slice_get ys k) (take-append-drop n xs)

pub get-drop : {X : Type 0} (n : ℕ) (xs : List X) (j : ℕ) → slice_get (drop n xs) j ≡ slice_get xs (n + j)
get-drop (suc n) (x ∷ xs) j = grind (arith, get-drop n xs j)
get-drop n xs j = grind arith
