-- Numbers by train and label, as they are stored by slot.
use Rattle.event_numbers.proofs.Words.{change_at, NumberedTrain, slot_of, slots_from, with_more}
use Rattle.event_numbers.proofs.ListLemmas.{change-get, get-append, same-gets, set-get}
use Rattle.event_numbers.proofs.SlotLemmas.{range-at}
use Rattle.std.specs.Prelude.{if◌then◌else◌}
use Rattle.std.proofs.lemmas.List.{length-append, map-append}
use Rattle.dep_order.proofs.Words.{◌≡◌, ◌≢◌, ◌<◌, ◌≤◌, ◌+◌, ◌-◌, ℕ, zero, suc, List, [], ◌∷◌, ◌++◌, None, Some, true, cond, inl, inr, ◌&&◌, nat_eq, nat_lt, refl, ◌∙◌, arith, length, map, get_or, set, replicate, slice_get, nat_tests, option_map, option_map_or, get_or-set_same, get_or-set_other, length-replicate, length-set, slice_get-map, slice_get-get_or, slice_get_cases}
use Rattle.dep_order.specs.declared.call_numbers.CallNumbers.TheInside.{Inside}
unfoldable use Rattle.dep_order.specs.CallNumbering.{number_at}
use Rattle.dep_order.specs.CallNumbering.{StoredNumbers, has_number, labels_of, no_number, with_label_numbers, with_number, with_train_numbers}
use Rattle.dep_order.specs.StoredCalls.{AreStored, seen, trains_at}

-- the number of a call
pub seen-number : (a : Inside) (t l : ℕ) → number_at (seen a) t l ≡ option_map (λ s. get_or a.numbers.items s no_number) (slot_of a.slots t l)
unfolding number_at
seen-number a t l = grind (arith, slice_get-map, slice_get_cases a.slots.trains t)

-- what functions that read a number need
pub ruleset calls = (seen-number, slice_get_cases, slice_get-get_or)

-- a number that is set is that of the call alone
abbrev pub IsSet : Inside → ℕ → ℕ → ℕ → Type 0
IsSet a t l i =
    (slot_of a.slots t l ≡ Some i) × (i < length a.numbers.items) × ((u m : ℕ) → slot_of a.slots u m ≡ Some i → (u ≡ t) × (m ≡ l))

row-set : (a : Inside) (t l i x u : ℕ) (r : NumberedTrain) → IsSet a t l i → slice_get a.slots.trains u ≡ Some r → map (λ s. get_or (set a.numbers.items i x) s no_number) r.slots ≡ cond (nat_eq t u) (set (map (λ s. get_or a.numbers.items s no_number) r.slots) l x) (map (λ s. get_or a.numbers.items s no_number) r.slots)
row-set a t l i x u r h at =
    same-gets _ _ (λ m. grind (arith, nat_tests, h.0, h.1, at, h.2 u m, slice_get-map, set-get, slice_get_cases r.slots m, get_or-set_same {A = ℕ}, get_or-set_other {A = ℕ}))

pub set-seen : (a : Inside) (t l i x : ℕ) → IsSet a t l i → trains_at (set a.numbers.items i x) a.slots.trains ≡ change_at t (λ ns. set ns l x) (trains_at a.numbers.items a.slots.trains)
set-seen a t l i x h =
    same-gets _ _ (λ u. elim (slice_get_cases a.slots.trains u).1 [
      | inl r ↦ grind (arith, nat_tests, slice_get-map, change-get, r.2, row-set a t l i x u r.0 h r.2)
      | inr past ↦ grind (arith, nat_tests, slice_get-map, change-get, past.1)
    ])

labels-at : (ts : List (List ℕ)) (t : ℕ) → get_or (map length ts) t 0 ≡ option_map_or length (slice_get ts t) 0
labels-at [] t = refl
labels-at (ns ∷ ts) zero = refl
labels-at (ns ∷ ts) (suc t) = labels-at ts t

replicate-get : (n x i : ℕ) → slice_get (replicate n x) i ≡ cond (nat_lt i n) (Some x) None
replicate-get (suc n) x (suc i) = grind (arith, nat_tests, replicate-get n x i)
replicate-get n x i = grind (arith, nat_tests)

-- where there is a place there is a number
pub has-place : (k : StoredNumbers) (t l : ℕ) → l < get_or (labels_of k) t 0 → has_number k t l ≡ true
unfolding number_at
has-place k t l h = grind (arith, nat_tests, h, slice_get_cases k.trains t, λ (ns : List ℕ). slice_get_cases ns l, labels-at k.trains t)

pub place-slot : (a : Inside) (t l : ℕ) → l < get_or (labels_of (seen a)) t 0 → slot_of a.slots t l ≡ None → ⊥
place-slot a t l h none = grind (arith, has-place (seen a) t l h, seen-number a t l, none)

pub set-law : (k : StoredNumbers) (t l u m x : ℕ) → has_number k t l ≡ true → number_at (with_number t l x k) u m ≡ (if nat_eq u t && nat_eq m l then Some x else number_at k u m)
unfolding number_at
set-law k t l u m x h = grind (arith, nat_tests, h, change-get, set-get)

-- numbers stay, with those of one more train, or of more labels
pub pushed-stays : (labels : ℕ) (k : StoredNumbers) (t l n : ℕ) → number_at k t l ≡ Some n → number_at (with_train_numbers labels k) t l ≡ Some n
unfolding number_at
pushed-stays labels k t l n h = grind (arith, nat_tests, h, get-append, slice_get_cases k.trains t)

pub added-stays : (u labels : ℕ) (k : StoredNumbers) (t l n : ℕ) → number_at k t l ≡ Some n → number_at (with_label_numbers u labels k) t l ≡ Some n
unfolding number_at
added-stays u labels k t l n h = grind (arith, nat_tests, h, change-get, get-append, λ (ns : List ℕ). slice_get_cases ns l)

pub blank-row : (a : Inside) (labels : ℕ) → AreStored a → map (λ s. get_or a.numbers.items s no_number) (slots_from a.slots.used labels) ≡ replicate labels no_number
blank-row a labels h = same-gets _ _ (λ i. grind (arith, nat_tests, slice_get-map, range-at, h.blank (a.slots.used + i), replicate-get labels no_number i))

pub pushed-seen : (a : Inside) (labels : ℕ) → AreStored a → map (λ (n : NumberedTrain). map (λ s. get_or a.numbers.items s no_number) n.slots) (a.slots.trains ++ record { loaded = labels; slots = slots_from a.slots.used labels } ∷ []) ≡ (with_train_numbers labels (seen a)).trains
pushed-seen a labels h = grind (arith, map-append, blank-row a labels h)

pub added-seen : (a : Inside) (t labels : ℕ) → AreStored a → trains_at a.numbers.items (with_more t labels a.slots).trains ≡ (with_label_numbers t labels (seen a)).trains
added-seen a t labels h =
    same-gets _ _ (λ u. grind (arith, nat_tests, slice_get-map, change-get, map-append, blank-row a labels h, slice_get_cases a.slots.trains u))

-- for how many labels there is a place
pub set-labels : (k : StoredNumbers) (t l x : ℕ) → labels_of (with_number t l x k) ≡ labels_of k
set-labels k t l x = same-gets _ _ (λ u. grind (arith, nat_tests, slice_get-map, change-get, length-set, slice_get_cases k.trains u))

pub added-labels : (t labels : ℕ) (k : StoredNumbers) → labels_of (with_label_numbers t labels k) ≡ change_at t (λ n. n + labels) (labels_of k)
added-labels t labels k = same-gets _ _ (λ u. grind (arith, nat_tests, slice_get-map, change-get, length-append, length-replicate labels no_number, slice_get_cases k.trains u))
