-- What is kept for numbers: what is read where one slot was set, and what a changed link is.
use Rattle.dep_order.proofs.Words.{◌≡◌, ◌≢◌, ◌<◌, ℕ, zero, suc, inl, inr, List, [], ◌∷◌, Some, refl, sym, ◌∙◌, ap, arith, length, map, slice_get, get_or, set, nat_eq, cases_Bool, nat_tests, get_or-set_same, length-set, slice_get-get_or}
use Rattle.dep_order.proofs.Words.{Departure, Lists, Slot, held, IsLinkSet, departure_in, fresh_slot, next_in, previous_in, no_departure, nobody, onward_in, slot_at, stored_in}

pub get-set_same : {X : Type 0} (xs : List X) (i : ℕ) (x : X) → i < length xs → slice_get (set xs i x) i ≡ Some x
get-set_same xs i x l =
    let len = length-set xs i x in
    slice_get-get_or (set xs i x) i x (omega arith) ∙ ap Some (get_or-set_same xs i x x l)

pub get-set_other : {X : Type 0} (xs : List X) (i j : ℕ) (x : X) → j ≢ i → slice_get (set xs i x) j ≡ slice_get xs j
get-set_other [] i j x n = refl
get-set_other (y ∷ ys) (suc i) (suc j) x n = get-set_other ys i j x (λ e. n (ap suc e))
get-set_other (y ∷ ys) i j x n = grind (arith, n)

-- what is read does not hang on what stands past the end
pub read-default : {X : Type 0} (xs : List X) (i : ℕ) (x y : X) → i < length xs → get_or xs i x ≡ get_or xs i y
read-default [] i x y l = absurd (omega arith)
read-default (z ∷ xs) zero x y l = refl
read-default (z ∷ xs) (suc i) x y l = read-default xs i x y (omega arith)

-- the departure of a number is that in its slot
pub held-slot : (ss : List Slot) (i : ℕ) → held (map departure_in ss) i ≡ departure_in (slot_at ss i)
held-slot [] i = refl
held-slot (s ∷ ss) zero = refl
held-slot (s ∷ ss) (suc i) = held-slot ss i

pub there-in-slot : (s : Slot) (d : Departure) → departure_in s ≡ Some d → (stored_in s ≡ d) × (s.before ≢ no_departure)
there-in-slot s d h =
    elim (cases_Bool (nat_eq s.before no_departure)) [
      | inl t ↦ (let k = rw t at h in absurd (cc))
      | inr f ↦ (let k = rw f at h in let e : stored_in s ≡ d = cc in (e, grind (arith, nat_tests)))
    ]

pub slot-there : (s : Slot) → s.before ≢ no_departure → departure_in s ≡ Some (stored_in s)
slot-there s n = grind (arith, nat_tests, n)

-- what is read of each slot, where one was set
pub map-kept : {Y : Type 0} (f : Slot → Y) (ss : List Slot) (n : ℕ) (t : Slot) → f t ≡ f (slot_at ss n) → map f (set ss n t) ≡ map f ss
map-kept f [] n t e = refl
map-kept f (s ∷ ss) zero t e = ap (λ y. y ∷ map f ss) e
map-kept f (s ∷ ss) (suc n) t e = ap (λ ys. f s ∷ ys) (map-kept f ss n t e)

pub slot-kept : {Y : Type 0} (f : Slot → Y) (ss : List Slot) (n : ℕ) (t : Slot) → f t ≡ f (slot_at ss n) → (j : ℕ) → f (slot_at (set ss n t) j) ≡ f (slot_at ss j)
slot-kept f [] n t e j = refl
slot-kept f (s ∷ ss) zero t e zero = e
slot-kept f (s ∷ ss) zero t e (suc j) = refl
slot-kept f (s ∷ ss) (suc n) t e zero = refl
slot-kept f (s ∷ ss) (suc n) t e (suc j) = slot-kept f ss n t e j

pub slot-same : (ss : List Slot) (n : ℕ) (t : Slot) → n < length ss → slot_at (set ss n t) n ≡ t
slot-same ss n t l = get_or-set_same ss n t (fresh_slot 0) l

pub slot-other : (ss : List Slot) (n j : ℕ) (t : Slot) → j ≢ n → slot_at (set ss n t) j ≡ slot_at ss j
slot-other [] n j t far = refl
slot-other (s ∷ ss) (suc n) (suc j) t far = slot-other ss n j t (λ e. far (ap suc e))
slot-other (s ∷ ss) n j t far = grind (arith, far)

module _ (l : Lists) (b n beside : ℕ) (r : List Slot) (some : n ≢ nobody) (within : n < length l.slots) where
  pub next-set : r ≡ set l.slots n (record (slot_at l.slots n) { after = beside }) → IsLinkSet next_in previous_in b n beside l (record l { slots = r })
  next-set e =
      let t : Slot = record (slot_at l.slots n) { after = beside } in
      rw e (record {
        entries = map-kept departure_in l.slots n t refl;
        onwards = map-kept onward_in l.slots n t refl;
        buckets = refl;
        is = grind (arith, nat_tests, some, slot-same l.slots n t within);
        others = λ c i h. grind (arith, nat_tests, slot-other l.slots n i t (λ e. some (sym e ∙ (h e).0)));
        same = λ c i. grind (arith, nat_tests, slot-kept (λ (x : Slot). x.before) l.slots n t refl i);
      })

  pub previous-set : (slot_at l.slots n).before ≢ no_departure → beside ≢ no_departure → r ≡ set l.slots n (record (slot_at l.slots n) { before = beside }) → IsLinkSet previous_in next_in b n beside l (record l { slots = r })
  previous-set was now e =
      let s = slot_at l.slots n in
      let t : Slot = record s { before = beside } in
      rw e (record {
        entries = map-kept departure_in l.slots n t (slot-there t now ∙ sym (slot-there s was));
        onwards = map-kept onward_in l.slots n t refl;
        buckets = refl;
        is = grind (arith, nat_tests, some, slot-same l.slots n t within);
        others = λ c i h. grind (arith, nat_tests, slot-other l.slots n i t (λ e. some (sym e ∙ (h e).0)));
        same = λ c i. grind (arith, nat_tests, slot-kept (λ (x : Slot). x.after) l.slots n t refl i);
      })
