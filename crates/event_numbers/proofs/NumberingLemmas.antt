-- Slots by train and label, after a train or calls are added.
use Rattle.event_numbers.proofs.Words.{slice_get_cases, ◌≡◌, ℕ, suc, ◌+◌, ◌-◌, ◌<◌, ◌≤◌, ◌⊎◌, inl, inr, List, ◌∷◌, ◌++◌, length, append-nil, append_assoc, ap, arith, Some, slice_get, option_map, cases_lt, nat_tests, slice_get_past, change_at}
use Rattle.event_numbers.proofs.Words.{None, NumberedTrain, Numbering, slot_of, slots_from, with_numbered, with_more, IsNumbering}
use Rattle.event_numbers.proofs.ListLemmas.{change-get, get-append, same-gets}
use Rattle.event_numbers.proofs.SlotLemmas.{range-at, range-more}

-- a slot is that of the call with this number among so many new ones, which have the labels from one on
pub record IsMade (t from first calls u l s : ℕ) : Type 0 where
  pub place : ℕ
  pub within : place < calls
  pub train : u ≡ t
  pub label : l ≡ from + place
  pub slot : s ≡ first + place

-- old calls keep their slots, and so many more of one train, from this label on, have new ones
pub record IsGrown (t from calls : ℕ) (old new : Numbering) : Type 0 where
  pub stays : (u l s : ℕ) → slot_of old u l ≡ Some s → slot_of new u l ≡ Some s
  pub made : (i : ℕ) → i < calls → slot_of new t (from + i) ≡ Some (old.used + i)
  pub only : (u l s : ℕ) → slot_of new u l ≡ Some s → (slot_of old u l ≡ Some s) ⊎ IsMade t from old.used calls u l s
  pub used : new.used ≡ old.used + calls

pub grown-numbering : (t from calls : ℕ) (old new : Numbering) → IsGrown t from calls old new → IsNumbering old → IsNumbering new
grown-numbering t from calls old new g h =
    record {
      below = λ u l s is. grind (arith, g.only u l s is, h.below u l s, g.used);
      once = λ u l v m s p q. grind (arith, g.only u l s p, g.only v m s q, h.below u l s, h.below v m s, h.once u l v m s);
      taken = λ s l. grind (arith, cases_lt s old.used, h.taken s, λ (u l : ℕ). g.stays u l s, g.made (s - old.used), g.used);
    }

-- a train more
pub train-grown : (calls : ℕ) (n : Numbering) → IsGrown (length n.trains) 0 calls n (with_numbered calls n)
train-grown calls n = grind (arith, nat_tests, get-append, range-at, slice_get_cases n.trains)

-- calls more
pub calls-grown : (t calls : ℕ) (n : Numbering) (old : NumberedTrain) → slice_get n.trains t ≡ Some old → IsGrown t (length old.slots) calls n (with_more t calls n)
calls-grown t calls n old is = grind (arith, nat_tests, is, change-get, get-append, range-at, slice_get_past)

-- so many calls more, and one more, are all of them
pub calls-more : (t m : ℕ) (n : Numbering) → with_more t 1 (with_more t m n) ≡ with_more t (m + 1) n
calls-more t m n = grind (arith, same-gets (with_more t 1 (with_more t m n)).trains (with_more t (m + 1) n).trains (λ u. grind (arith, nat_tests, change-get, append_assoc {A = ℕ}, range-more n.used m, slice_get_cases n.trains u)))

pub calls-none : (t : ℕ) (n : Numbering) → with_more t 0 n ≡ n
calls-none t n = grind (arith, same-gets (with_more t 0 n).trains n.trains (λ u. grind (arith, nat_tests, change-get, append-nil {A = ℕ}, slice_get_cases n.trains u)))

length-change : (ts : List NumberedTrain) (f : NumberedTrain → NumberedTrain) (t : ℕ) → length (change_at t f ts) ≡ length ts
length-change (x ∷ ts) f (suc t) = ap suc (length-change ts f t)
length-change ts f t = grind arith

pub change-length : (t m : ℕ) (n : Numbering) → length (with_more t m n).trains ≡ length n.trains
change-length t m n = length-change n.trains (λ (t : NumberedTrain). record t { slots = t.slots ++ slots_from n.used m }) t

-- what a loop that adds calls needs
pub ruleset more = (calls-none, calls-more, change-length)

-- with how many calls a train was loaded
pub record IsLoadedBy (ns : List NumberedTrain) (t k : ℕ) : Type 0 where
  pub train : NumberedTrain
  pub there : slice_get ns t ≡ Some train
  pub loaded : train.loaded ≡ k
  pub some : 1 ≤ k
  pub within : k ≤ length train.slots

pub loaded-read : (ns : List NumberedTrain) (t k : ℕ) → ((t : ℕ) (n : NumberedTrain) → slice_get ns t ≡ Some n → (1 ≤ n.loaded) × (n.loaded ≤ length n.slots)) → option_map (λ (n : NumberedTrain). n.loaded) (slice_get ns t) ≡ Some k → IsLoadedBy ns t k
loaded-read ns t k law h = elim (slice_get_cases ns t).1 [
  | inl n ↦ grind (arith, n.2, h, law t n.0 n.2)
  | inr past ↦ grind (arith, past.1, h)
]

-- the slot of its last call
pub last-there : (nb : Numbering) (t k : ℕ) → IsLoadedBy nb.trains t k → slot_of nb t (k - 1) ≡ None → ⊥
last-there nb t k w h = grind (arith, slice_get_cases w.train.slots (k - 1), w.there, w.some, w.within, h)
