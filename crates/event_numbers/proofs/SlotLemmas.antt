-- Trains by their rows and the calls that were added, and slots by label.
use Rattle.event_numbers.proofs.Words.{◌≡◌, ℕ, zero, suc, ◌+◌, ◌-◌, ◌<◌, ◌⊎◌, inl, inr, List, [], ◌∷◌, ◌++◌, cond, nat_lt, length, refl, ap, arith, Some, None, slice_get, option_map, nat_tests}
use Rattle.event_numbers.proofs.Words.{length-append, slice_get_cases, slice_get-get_or, AddedCall, TrainSlots, slots_from, numbered_train, numbered_trains, AreStored, IsEntry, IsSlotRow}
use Rattle.event_numbers.specs.declared.slots.Slots.TheInside.{Inside}
use Rattle.event_numbers.proofs.ListLemmas.{get-append}

-- so many slots are so many
pub slots-from : (a n : ℕ) → length (slots_from a n) ≡ n
slots-from a zero = refl
slots-from a (suc n) = ap suc (slots-from (a + 1) n)

-- the slots from one on, by place
pub range-at : (a n i : ℕ) → slice_get (slots_from a n) i ≡ cond (nat_lt i n) (Some (a + i)) None
range-at a (suc n) (suc i) = grind (arith, nat_tests, range-at (a + 1) n i)
range-at a n i = grind (arith, nat_tests)

pub range-get : (a n i : ℕ) → i < n → slice_get (slots_from a n) i ≡ Some (a + i)
range-get a n i l = grind (arith, nat_tests, range-at a n i)

-- so many numbers, and one more behind them
pub range-more : (a m : ℕ) → slots_from a m ++ (a + m) ∷ [] ≡ slots_from a (suc m)
range-more a (suc m) = grind (arith, range-more (a + 1) m)
range-more a m = grind arith

pub numbered-length : (added : List AddedCall) (t : ℕ) (rs : List TrainSlots) → length (numbered_trains added t rs) ≡ length rs
numbered-length added t [] = refl
numbered-length added t (r ∷ rs) = ap suc (numbered-length added (suc t) rs)

pub numbered-get : (added : List AddedCall) (t : ℕ) (rs : List TrainSlots) (i : ℕ) → slice_get (numbered_trains added t rs) i ≡ option_map (numbered_train added (i + t)) (slice_get rs i)
numbered-get added t (r ∷ rs) (suc i) = grind (arith, numbered-get added (suc t) rs i)
numbered-get added t rs i = grind arith

-- the row of a train, if it is there, and its last entry, if there is one
pub row-at : (a : Inside) (t : ℕ) → AreStored a → (slice_get a.records.items t ≡ None) ⊎ ((r : TrainSlots) × (slice_get a.records.items t ≡ Some r) × IsSlotRow a.added.items a.used t r × ((r.added ≡ 0) ⊎ IsEntry a.added.items r.last t (r.added - 1)))
row-at a t h = elim (slice_get_cases a.records.items t).1 [
  | inl r ↦ inr (r.0, r.2, h.records t r.0 r.2, grind (arith, (h.records t r.0 r.2).last (r.0.added - 1)))
  | inr past ↦ inl past.1
]

-- what functions that read a row need
pub ruleset rows = (numbered-length, numbered-get, slice_get-get_or, slots-from, range-at, get-append, nat_tests, length-append, slice_get_cases, row-at)
