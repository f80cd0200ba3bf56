-- Entries: their order, and where the entries of a range stand in it.
use Rattle.station_index.proofs.Words.{◌≡◌, ℕ, ◌≤◌, Bool, true, false, not, ◌&&◌, refl, sym, ◌∙◌, arith, Ordering, Equal, IsTotalOrder, nat_cmp, bool_cmp, ordering_then, is_lt, beq, Entry, is_before_entry, entries_total, exact_entries, before_entry-itself, is_same_entry, is_in_range, LoadedEvent, entry_of, slot_number, slot_of, is_before_range, is_past_range}
use Rattle.std.specs.declared.cmp.Ordering.TheVariants.{Less, Greater}
use Rattle.std.specs.Cmp.{bool_cmp_total}
use Rattle.std.specs.Ordering.{is_le, is_gt}
use Rattle.std.proofs.lemmas.Cmp.{then_total, on_total, nat_cmp_total}
use Rattle.mt_base.specs.Order.{node_cmp}
use Rattle.mt_base.proofs.KeyLemmas.{same_node-is, same_node-itself}
use Rattle.station_index.specs.Places.{range_cmp}

abbrev pub IsBefore : Entry → Entry → Type 0
IsBefore a b = is_before_entry a b ≡ true

module _ {X : Type 0} {R : X → X → Ordering} (o : IsTotalOrder R) where
  neither : (exact : (a b : X) → R a b ≡ Equal → a ≡ b) (a b : X) → is_lt (R a b) ≡ false → is_lt (R b a) ≡ false → a ≡ b
  neither exact a b h k = grind (arith, o.antisymm b a, exact a b)

  lower-lt : (a b k : X) → is_le (R a b) ≡ true → is_lt (R b k) ≡ true → is_lt (R a k) ≡ true
  lower-lt a b k h l = grind (arith, o.trans a b k, o.congr a b k)

  higher-gt : (a b k : X) → is_le (R a b) ≡ true → is_gt (R a k) ≡ true → is_gt (R b k) ≡ true
  higher-gt a b k h l = grind (arith, o.trans k a b, o.congr a b k, o.antisymm k a, o.antisymm a k, o.antisymm b k, o.antisymm k b)

-- of two entries one stands before the other, or they are one
pub before_entry-connected : (a b : Entry) → is_before_entry a b ≡ false → is_before_entry b a ≡ false → a ≡ b
unfolding is_before_entry
before_entry-connected a b h k = neither entries_total exact_entries a b h k

pub beq-true : (a b : Bool) → beq a b ≡ true → a ≡ b
beq-true true true h = refl
beq-true false false h = refl
beq-true true false h = cc
beq-true false true h = cc

pub beq-itself : (a : Bool) → beq a a ≡ true
beq-itself true = refl
beq-itself false = refl

-- entries that are the same are one
pub same_entry-is : (a b : Entry) → is_same_entry a b ≡ true → a ≡ b
unfolding is_same_entry
same_entry-is a b h = grind (arith, h, beq-true a.dep b.dep, same_node-is a.node b.node)

-- an entry is the same as itself
pub same_entry-itself : (a : Entry) → is_same_entry a a ≡ true
unfolding is_same_entry
same_entry-itself a = grind (arith, beq-itself a.dep, same_node-itself a.node)

from-not : (b : Bool) → (b ≡ true → false ≡ true) → not b ≡ true
from-not true h = h refl
from-not false h = refl

-- an entry that stands before another is not the same
pub before-differs : (a b : Entry) → IsBefore a b → not (is_same_entry a b) ≡ true
before-differs a b h = from-not _ (λ same. sym (before_entry-itself b) ∙ (rw (same_entry-is a b same) at h))

pub after-differs : (a b : Entry) → IsBefore b a → not (is_same_entry a b) ≡ true
after-differs a b h = from-not _ (λ same. sym (before_entry-itself b) ∙ (rw (same_entry-is a b same) at h))

-- entries by stop, kind and time alone
place_cmp : Entry → Entry → Ordering
place_cmp a b = ordering_then (nat_cmp a.stop b.stop) (ordering_then (bool_cmp a.dep b.dep) (nat_cmp a.time b.time))

places_total : IsTotalOrder place_cmp
unfolding place_cmp
places_total = then_total (on_total (λ e. e.stop) nat_cmp_total) (then_total (on_total (λ e. e.dep) bool_cmp_total) (on_total (λ e. e.time) nat_cmp_total))

some_entry : ℕ → Bool → ℕ → Entry
some_entry stop dep time = record { stop = stop; dep = dep; time = time; node = record { train = 0; label = 0; dep = dep } }

range-place : (stop : ℕ) (dep : Bool) (time : ℕ) (e : Entry) → range_cmp stop dep time e ≡ place_cmp e (some_entry stop dep time)
unfolding place_cmp some_entry
range-place stop dep time e = refl

first-three : (x y z w : Ordering) → is_lt (ordering_then x (ordering_then y (ordering_then z w))) ≡ true → is_le (ordering_then x (ordering_then y z)) ≡ true
first-three Less y z w h = refl
first-three Greater y z w h = h
first-three Equal Less z w h = refl
first-three Equal Greater z w h = h
first-three Equal Equal Less w h = refl
first-three Equal Equal Equal w h = refl
first-three Equal Equal Greater w h = h

before-places : (a b : Entry) → IsBefore a b → is_le (place_cmp a b) ≡ true
unfolding place_cmp is_before_entry
before-places a b h = first-three (nat_cmp a.stop b.stop) (bool_cmp a.dep b.dep) (nat_cmp a.time b.time) (node_cmp a.node b.node) h

-- what stands before an entry that is before a range is before it too
pub before-range : (stop : ℕ) (dep : Bool) (lo : ℕ) (a b : Entry) → IsBefore a b → is_before_range stop dep lo b ≡ true → is_before_range stop dep lo a ≡ true
before-range stop dep lo a b h k = rw range-place (lower-lt places_total a b _ (before-places a b h) (rw range-place at k))

-- what stands behind an entry that is past a range is past it too
pub past-range : (stop : ℕ) (dep : Bool) (hi : ℕ) (a b : Entry) → IsBefore a b → is_past_range stop dep hi a ≡ true → is_past_range stop dep hi b ≡ true
past-range stop dep hi a b h k = rw range-place (higher-gt places_total a b _ (before-places a b h) (rw range-place at k))

-- an entry is in a range where it is neither before it nor past it
pub in-range : (stop : ℕ) (dep : Bool) (lo hi : ℕ) (e : Entry) → is_in_range stop dep lo hi e ≡ (not (is_before_range stop dep lo e) && not (is_past_range stop dep hi e))
in-range stop dep lo hi e = grind arith

slots-rise : (s r : ℕ) (d e : Bool) (z : Ordering) → is_le (ordering_then (nat_cmp s r) (ordering_then (bool_cmp d e) z)) ≡ true → slot_number s d ≤ slot_number r e
slots-rise s r true true z h = grind arith
slots-rise s r true false z h = grind arith
slots-rise s r false true z h = grind arith
slots-rise s r false false z h = grind arith

-- an entry lies in no later part than one behind it
pub before-slots : (a b : Entry) → IsBefore a b → slot_of a ≤ slot_of b
unfolding place_cmp
before-slots a b h = slots-rise a.stop b.stop a.dep b.dep (nat_cmp a.time b.time) (before-places a b h)

times-by : (s t u : ℕ) (d : Bool) → is_le (ordering_then (nat_cmp s s) (ordering_then (bool_cmp d d) (nat_cmp t u))) ≡ true → t ≤ u
times-by s t u true h = grind arith
times-by s t u false h = grind arith

-- of loaded events of one stop and kind, an earlier one is scheduled no later
pub before-times : (stop : ℕ) (dep : Bool) (x y : LoadedEvent) → IsBefore (entry_of stop dep x) (entry_of stop dep y) → x.time ≤ y.time
unfolding place_cmp
before-times stop dep x y h = times-by stop x.time y.time dep (before-places (entry_of stop dep x) (entry_of stop dep y) h)
