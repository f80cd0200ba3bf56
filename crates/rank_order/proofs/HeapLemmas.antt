-- The keys in a heap, and its least.
use Rattle.std.proofs.Common.{All, ◌≡◌, ◌<◌, ◌||◌, [], ◌∷◌, true, false, List, Bool, refl, sym, ◌∙◌, ap, subst, arith, length, get_or, inl, inr, map}
use Rattle.std.specs.BinaryHeap.{IsUpperBound, heap_items, heap_len}
use Rattle.std.specs.List.Sorted.{IsPermutation}
use Rattle.std.specs.declared.alloc.Global.{Global}
use Rattle.std.specs.declared.cmp.Reverse.{Reverse}
use Rattle.std.specs.declared.collections.binary_heap.BinaryHeap.{BinaryHeap}
use Rattle.std.proofs.lemmas.Bool.{cases_Bool}
use Rattle.std.proofs.lemmas.List.Elements.{All-from_recursion, All-map, All-tail, All-weaker}
use Rattle.std.proofs.lemmas.List.Sorted.{All-permutation, IsPermutation-map, list_any-IsPermutation}
use Rattle.mt_base.specs.declared.keys.Key.{Key}
use Rattle.mt_base.specs.Order.{is_before, is_same}
use Rattle.mt_base.proofs.KeyLemmas.{before-trans, same-is, same-itself}
use Rattle.rank_order.specs.InOrder.{in_order, keys_in, later_cmp}
use Rattle.rank_order.specs.Marked.{has_key}
use Rattle.rank_order.proofs.InsertLemmas.{RisesTo, higher}
use Rattle.rank_order.proofs.OrderLemmas.{after-none, in_order-has, in_order-same, taken}

pub no-keys : (heap : BinaryHeap (Reverse Key) Global) → heap_len heap ≡ 0 → keys_in heap ≡ []
no-keys heap none = without (heap_items heap) (let ok = heap.data.ok in omega arith)
  where
    without : (rs : List (Reverse Key)) → length rs ≡ 0 → map (λ r. r.0) rs ≡ []
    without [] l = refl
    without (r ∷ rs) l = absurd (omega arith)

pub none-in : (heap : BinaryHeap (Reverse Key) Global) → heap_len heap ≡ 0 → in_order (keys_in heap) ≡ []
unfolding in_order
none-in heap none = ap in_order (no-keys heap none)

-- what the heap's order says of its top
pub none-sooner : (top : Reverse Key) (rs : List (Reverse Key)) → IsUpperBound later_cmp top rs → All (λ q. is_before q top.0 ≡ false) (map (λ r. r.0) rs)
unfolding is_before
none-sooner top rs bound = All-map (λ q. is_before q top.0 ≡ false) (λ r. r.0) rs (All-from_recursion (λ (r : Reverse Key). is_before r.0 top.0 ≡ false) rs bound)

-- a key that is before the least is before all
pub all-after : (k least : Key) (ks : List Key) → is_before k least ≡ true → All (λ q. is_before q least ≡ false) ks → All (RisesTo k) ks
all-after k least ks sooner none =
    All-weaker (λ q. is_before q least ≡ false) (RisesTo k)
    (λ q later. elim (cases_Bool (is_same q least)) [
      | inl same ↦ subst (RisesTo k) (sym (same-is q least same)) sooner
      | inr other ↦ before-trans k least q sooner (higher q least later other)
    ]) ks none

-- the first of a heap's elements
pub top-at : (rs : List (Reverse Key)) (top : Reverse Key) → 0 < length rs → top ≡ get_or rs 0 top → (P : Key → Type 0) → All P (map (λ r. r.0) rs) → P top.0
top-at [] top l e P h = absurd (omega arith)
top-at (r ∷ rs) top l e P h = subst (λ (a : Reverse Key). P a.0) (sym e) (h 0 r.0 (omega arith))

pub one-top : (rs : List (Reverse Key)) (a b : Reverse Key) → 0 < length rs → a ≡ get_or rs 0 a → b ≡ get_or rs 0 b → a ≡ b
one-top [] a b l e f = absurd (omega arith)
one-top (r ∷ rs) a b l e f = e ∙ sym f

pub pop-has : (rs ss : List (Reverse Key)) (r : Reverse Key) (q : Key) → IsPermutation rs (r ∷ ss) → has_key (map (λ a. a.0) rs) q ≡ (is_same r.0 q || has_key (map (λ a. a.0) ss) q)
pop-has rs ss r q moved = list_any-IsPermutation (λ a. is_same a q) (map (λ a. a.0) rs) (r.0 ∷ map (λ a. a.0) ss) (IsPermutation-map (λ (a : Reverse Key). a.0) rs (r ∷ ss) moved)

pub push-has : (rs ss : List (Reverse Key)) (r : Reverse Key) (q : Key) → IsPermutation (r ∷ rs) ss → has_key (map (λ a. a.0) ss) q ≡ (is_same r.0 q || has_key (map (λ a. a.0) rs) q)
push-has rs ss r q moved = sym (list_any-IsPermutation (λ a. is_same a q) (r.0 ∷ map (λ a. a.0) rs) (map (λ a. a.0) ss) (IsPermutation-map (λ (a : Reverse Key). a.0) (r ∷ rs) ss moved))

pub pop-all : (P : Key → Type 0) (rs ss : List (Reverse Key)) (r : Reverse Key) → IsPermutation rs (r ∷ ss) → All P (map (λ a. a.0) rs) → All P (map (λ a. a.0) ss)
pop-all P rs ss r moved h = All-tail P r.0 (map (λ a. a.0) ss) (All-permutation P (map (λ a. a.0) rs) (r.0 ∷ map (λ a. a.0) ss) (IsPermutation-map (λ (a : Reverse Key). a.0) rs (r ∷ ss) moved) h)

absorbs : (a b c : Bool) → b ≡ (a || c) → (a || c) ≡ (a || b)
absorbs true b c e = refl
absorbs false b c e = sym e

-- what is left beside a key, where that is taken off once
pub left-beside : (rs ss : List (Reverse Key)) (r : Reverse Key) (k q : Key) → is_same r.0 k ≡ true → IsPermutation rs (r ∷ ss) → (is_same k q || has_key (map (λ a. a.0) ss) q) ≡ (is_same k q || has_key (map (λ a. a.0) rs) q)
left-beside rs ss r k q same moved =
    let e = same-is r.0 k same in
    absorbs (is_same k q) (has_key (map (λ a. a.0) rs) q) (has_key (map (λ a. a.0) ss) q) (pop-has rs ss r q moved ∙ ap (λ a. is_same a q || has_key (map (λ a. a.0) ss) q) e)

-- the least taken off as often as it was there
pub least-off : (rs ss : List (Reverse Key)) (r : Reverse Key) (ls : List Key) → IsPermutation rs (r ∷ ss) → All (RisesTo r.0) ls
    → ((q : Key) → (is_same r.0 q || has_key ls q) ≡ (is_same r.0 q || has_key (map (λ a. a.0) ss) q)) → in_order (map (λ a. a.0) rs) ≡ r.0 ∷ in_order ls
least-off rs ss r ls moved after e = taken (map (λ a. a.0) rs) ls r.0 after (λ q. pop-has rs ss r q moved ∙ sym (e q))

-- a key before all keys is before the least
pub least-after : (rs : List (Reverse Key)) (top : Reverse Key) (k : Key) → 0 < length rs → top ≡ get_or rs 0 top → All (RisesTo k) (in_order (map (λ a. a.0) rs)) → is_before k top.0 ≡ true
least-after rs top k l e after =
    after-none k (in_order (map (λ a. a.0) rs)) after top.0 (in_order-has (map (λ a. a.0) rs) top.0 ∙ there rs l e)
  where
    same-is-own : (r : Reverse Key) → top ≡ r → is_same r.0 top.0 ≡ true
    same-is-own r e = subst (λ (a : Reverse Key). is_same a.0 top.0 ≡ true) e (same-itself top.0)

    own : (rs : List (Reverse Key)) (r : Reverse Key) → is_same r.0 top.0 ≡ true → (is_same r.0 top.0 || has_key (map (λ a. a.0) rs) top.0) ≡ true
    own rs r h = rw h refl

    there : (rs : List (Reverse Key)) → 0 < length rs → top ≡ get_or rs 0 top → has_key (map (λ a. a.0) rs) top.0 ≡ true
    there [] l e = absurd (omega arith)
    there (r ∷ rs) l e = own rs r (same-is-own r e)

-- the same keys in another order
pub moved-same : (rs ss : List (Reverse Key)) → IsPermutation rs ss → in_order (map (λ a. a.0) ss) ≡ in_order (map (λ a. a.0) rs)
moved-same rs ss moved =
    in_order-same (map (λ a. a.0) ss) (map (λ a. a.0) rs) (λ q. sym (list_any-IsPermutation (λ a. is_same a q) (map (λ a. a.0) rs) (map (λ a. a.0) ss) (IsPermutation-map (λ (a : Reverse Key). a.0) rs ss moved)))
