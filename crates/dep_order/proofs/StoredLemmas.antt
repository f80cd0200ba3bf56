-- What slots and buckets tell of the departures that are stored.
use Rattle.dep_order.proofs.Words.{◌≡◌, ◌≢◌, ◌<◌, ◌≤◌, ◌^◌, ℕ, inl, inr, List, Option, Some, None, Bool, IsSome, refl, sym, ◌∙◌, ap, arith, length, get_or, cases_lt, nat_tests, length-map, slice_get_past, Departure, Bucket, Lists, held, AreKept, IsNext, IsNextIn, IsPreviousIn, IsLinkEnd, bucket_at, bucket_count, bucket_of, departure_in, entries_of, next_in, previous_in, no_departure, nobody, slot_at, stored_in, HaveDistinctCalls, HaveDistinctKeys, IsNewCall, IsNewKey, Key}
use Rattle.dep_order.proofs.LinkLemmas.{some-or-none}
use Rattle.dep_order.proofs.SlotLemmas.{held-slot, read-default, there-in-slot}

pub some-of : {X : Type 0} (o : Option X) → IsSome o → (x : X) × (o ≡ Some x)
some-of None h = absurd (cc)
some-of (Some x) h = (x, refl)

-- departures of different calls have different keys
pub distinct-keys : (es : List (Option Departure)) → HaveDistinctCalls es → HaveDistinctKeys es
distinct-keys es h = λ i j d e at there same. h i j d e at there (ap (λ (k : Key). k.train) same) (ap (λ (k : Key). k.label) same)

pub new-key : (es : List (Option Departure)) (k : Key) → IsNewCall es k → IsNewKey es k
new-key es k h = λ i d at same. h i d at (ap (λ (k : Key). k.train) same) (ap (λ (k : Key). k.label) same)

-- a departure that is there has a slot
pub within : (l : Lists) (i : ℕ) (d : Departure) → held (entries_of l) i ≡ Some d → i < length l.slots
within l i d h =
    elim (cases_lt i (length l.slots)) [
      | inl low ↦ low
      | inr past ↦ (let gone = slice_get_past (entries_of l) i (omega (arith, length-map l.slots departure_in)) in let k = rw gone at h in absurd (cc))
    ]

-- what is read of its slot
pub record IsRead (l : Lists) (i : ℕ) (d : Departure) : Type 0 where
  pub departure : stored_in (slot_at l.slots i) ≡ d
  pub there : (slot_at l.slots i).before ≢ no_departure
  pub next : IsNextIn l (bucket_of (bucket_count l) d) (Some d) (slot_at l.slots i).after
  pub previous : IsPreviousIn l (bucket_of (bucket_count l) d) (Some d) (slot_at l.slots i).before
  pub next_is : (b : ℕ) → next_in l b i ≡ (slot_at l.slots i).after
  pub previous_is : (b : ℕ) → previous_in l b i ≡ (slot_at l.slots i).before

pub read : (l : Lists) (i : ℕ) (d : Departure) → AreKept l → held (entries_of l) i ≡ Some d → IsRead l i d
read l i d k h =
    let is = there-in-slot (slot_at l.slots i) d (sym (held-slot l.slots i) ∙ h) in
    let low = within l i d h in
    let few = k.few in
    let some : i ≢ nobody = λ e. omega arith in
    let next : (b : ℕ) → next_in l b i ≡ (slot_at l.slots i).after = λ b. grind (arith, nat_tests, some) in
    let previous : (b : ℕ) → previous_in l b i ≡ (slot_at l.slots i).before = λ b. grind (arith, nat_tests, some) in
    let b = bucket_of (bucket_count l) d in
    let low : b < bucket_count l = let some = k.some in omega arith in
    record {
      departure = is.0;
      there = is.1;
      next = rw (h, next b) at (k.nexts b i low (inr (d, h, refl)));
      previous = rw (h, previous b) at (k.previous b i low (inr (d, h, refl)));
      next_is = next;
      previous_is = previous;
    }

-- nobody has no departure
pub nobody-none : (l : Lists) → AreKept l → held (entries_of l) nobody ≡ None
nobody-none l k =
    let few = k.few in
    let none = slice_get_past (entries_of l) nobody (omega (arith, length-map l.slots departure_in)) in
    rw none refl

-- what is read of a bucket
pub record IsBucket (l : Lists) (b : ℕ) (a : Bucket) : Type 0 where
  pub first : IsNextIn l b None a.first
  pub last : IsPreviousIn l b None a.last

pub bucket : (l : Lists) (b : ℕ) (a : Bucket) → AreKept l → b < bucket_count l → a ≡ get_or l.buckets.items b a → IsBucket l b a
bucket l b a k low at =
    let is : bucket_at l b ≡ a = read-default l.buckets.items b (record { first = nobody; last = nobody }) a low ∙ sym at in
    let none = nobody-none l k in
    record {
      first = rw (none, is) at (k.nexts b nobody low (inl refl));
      last = rw (none, is) at (k.previous b nobody low (inl refl));
    }

-- to a departure
pub link-end : (lt : Departure → Departure → Bool) (by : Departure → ℕ) (l : Lists) (b n : ℕ) (o : Option Departure) → IsNext lt by (entries_of l) b o n → IsLinkEnd l n
link-end lt by l b n o x some =
    elim (some-or-none (held (entries_of l) n)) [ inl f ↦ rw f.1 refl | inr gone ↦ absurd (some (x.ends gone)) ]

-- so that it is no sign for a free number
pub end-there : (l : Lists) (n : ℕ) → length l.slots ≤ 2 ^ 22 → IsLinkEnd l n → n ≢ no_departure
end-there l n few is own =
    let f = some-of (held (entries_of l) n) (is (λ e. omega arith)) in
    let low = within l n f.0 f.1 in
    omega arith

pub end-within : (l : Lists) (n : ℕ) → IsLinkEnd l n → n ≢ nobody → n < length l.slots
end-within l n is some = let f = some-of (held (entries_of l) n) (is some) in within l n f.0 f.1

pub end-slot : (l : Lists) (n : ℕ) → IsLinkEnd l n → n ≢ nobody → (slot_at l.slots n).before ≢ no_departure
end-slot l n is some = let f = some-of (held (entries_of l) n) (is some) in (there-in-slot (slot_at l.slots n) f.0 (sym (held-slot l.slots n) ∙ f.1)).1

pub same-end : (l r : Lists) (n : ℕ) → entries_of r ≡ entries_of l → IsLinkEnd l n → IsLinkEnd r n
same-end l r n e is = rw e is
