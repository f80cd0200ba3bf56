-- Times that are stored by slot, by event; after one is written, and after slots are given.
use Rattle.event_numbers.proofs.Words.{◌≡◌, ◌+◌, ℕ, suc, ◌*◌, ◌/◌, ◌%◌, ◌≤◌, List, [], ◌∷◌, ◌++◌, Bool, cond, length, map, replicate, get_or, refl, arith, Some}
use Rattle.event_numbers.proofs.Words.{slice_get, option_map, set, slice_get-get_or, slice_get_cases, get_or-set_same, get_or-set_other, nat_eq, nat_tests, Node, change_at, NumberedTrain, slot_of}
use Rattle.event_numbers.proofs.Words.{get_or-replicate, get_or_past, length-replicate, slice_get-map, map-append, slots_from, with_more, with_labels, place_of, time_of, no_time, blank_times}
use Rattle.event_numbers.specs.declared.times.NodeTimes.TheInside.{Inside}
use Rattle.event_numbers.specs.SlotTimes.{AreHeld, IsNumberOf, event_number, seen, times_at, trains_at}
use Rattle.event_numbers.proofs.ListLemmas.{change-get, same-gets, set-get}
use Rattle.event_numbers.proofs.TimeLemmas.{blank-get}
use Rattle.event_numbers.proofs.SlotLemmas.{range-at}

-- the time at a place of a train
times-get : (times ss : List ℕ) (l : ℕ) (d : Bool) → slice_get (times_at times ss) (event_number l d) ≡ option_map (λ s. get_or times (event_number s d) no_time) (slice_get ss l)
times-get times (s ∷ ss) (suc l) d = grind (arith, times-get times ss l d)
times-get times ss l d = grind arith

-- the time of an event
pub seen-time : (a : Inside) (n : Node) → time_of (seen a) n ≡ option_map (λ s. get_or a.times.items (event_number s n.dep) no_time) (slot_of a.slots n.train n.label)
unfolding time_of
seen-time a n = grind (arith, slice_get-map, times-get)

-- what functions that read the time of an event need
pub ruleset events = (seen-time, slice_get_cases, slice_get-get_or)

same-times : (xs ys : List ℕ) → ((l : ℕ) (d : Bool) → slice_get xs (event_number l d) ≡ slice_get ys (event_number l d)) → xs ≡ ys
same-times xs ys h = same-gets xs ys (λ p. grind (arith, nat_tests, h (p / 2) (nat_eq (p % 2) 1)))

-- a written time is that of the event alone
module _ {a : Inside} {n : Node} {i : ℕ} (h : AreHeld a) (is : IsNumberOf a.slots n i) (once : (t l u m s : ℕ) → slot_of a.slots t l ≡ Some s → slot_of a.slots u m ≡ Some s → (t ≡ u) × (l ≡ m)) (x : ℕ) where
  row-written : (u : ℕ) (r : NumberedTrain) → slice_get a.slots.trains u ≡ Some r → times_at (set a.times.items i x) r.slots ≡ cond (nat_eq n.train u) (set (times_at a.times.items r.slots) (place_of n) x) (times_at a.times.items r.slots)
  row-written u r at =
      same-times _ _ (λ m e. grind (arith, nat_tests, h, is, at, once u m n.train n.label is.slot, times-get, set-get, slice_get_cases r.slots m, get_or-set_same {A = ℕ}, get_or-set_other {A = ℕ}))

  pub written-seen : trains_at (set a.times.items i x) a.slots.trains ≡ change_at n.train (λ ts. set ts (place_of n) x) (trains_at a.times.items a.slots.trains)
  written-seen = same-gets _ _ (λ u. grind (arith, nat_tests, slice_get-map, change-get, slice_get_cases a.slots.trains u, row-written u))

times-append : (times ss us : List ℕ) → times_at times (ss ++ us) ≡ times_at times ss ++ times_at times us
times-append times [] us = refl
times-append times (s ∷ ss) us = rw (times-append times ss us) refl

-- the slots that no call has yet have no times
pub times-blank : (times : List ℕ) (first n : ℕ) → ((i : ℕ) → 2 * first ≤ i → get_or times i no_time ≡ no_time) → times_at times (slots_from first n) ≡ blank_times n
times-blank times first n h = same-times _ _ (λ l d. grind (arith, nat_tests, times-get, blank-get, range-at, h (event_number (first + l) d)))

pub labels-more : (a : Inside) (t labels : ℕ) → AreHeld a → trains_at a.times.items (with_more t labels a.slots).trains ≡ (with_labels t labels (seen a)).trains
labels-more a t labels h =
    same-gets _ _ (λ u. grind (arith, nat_tests, slice_get-map, change-get, times-append, times-blank a.times.items a.slots.used labels h.blank, slice_get_cases a.slots.trains u))

-- times that no event has, by slot
pub blank-seen : (count : ℕ) (times : List ℕ) (ns : List NumberedTrain) → times ≡ replicate count no_time → trains_at times ns ≡ map (λ (n : NumberedTrain). blank_times (length n.slots)) ns
blank-seen count times ns h =
    let blank = λ (n : NumberedTrain). same-times (times_at times n.slots) (blank_times (length n.slots)) (λ l d. grind (arith, nat_tests, h, times-get, blank-get, slice_get_cases n.slots l, get_or-replicate {A = ℕ}, get_or_past, length-replicate {A = ℕ})) in
    simp blank

-- what functions that give times to calls need
pub ruleset given = (times-blank, map-append, blank-seen)
