-- Keys in their order, each of them once, and keys in a heap.
use Rattle.std.specs.Prelude.{◌≡◌, ℕ, List, true, false, [], ◌∷◌, map, cond, All}
use Rattle.std.specs.BinaryHeap.{heap_items, IsHeap}
use Rattle.std.specs.List.Sorted.{IsPartitionPoint}
use Rattle.std.specs.declared.alloc.Global.{Global}
use Rattle.std.specs.declared.cmp.Ordering.{Ordering}
use Rattle.std.specs.declared.cmp.Reverse.{Reverse}
use Rattle.std.specs.declared.collections.binary_heap.BinaryHeap.{BinaryHeap}
use Rattle.mt_base.specs.declared.keys.Key.{Key}
use Rattle.mt_base.specs.Order.{is_before, is_same, key_cmp}

-- a key is put before the first of these that is not before it, unless that is the same
abbrev pub put : Key → List Key → List Key
put k [] = k ∷ []
put k (x ∷ xs) = cond (is_before x k) (x ∷ put k xs) (cond (is_same x k) (x ∷ xs) (k ∷ x ∷ xs))

-- these keys in their order, each of them once
unfoldable pub in_order : List Key → List Key
in_order [] = []
in_order (k ∷ ks) = put k (in_order ks)

-- the keys in a heap
abbrev pub keys_in : BinaryHeap (Reverse Key) Global → List Key
keys_in heap = map (λ r. r.0) (heap_items heap)

-- the order of a heap that has the least key at its top
abbrev pub later_cmp : Reverse Key → Reverse Key → Ordering
later_cmp a b = key_cmp b.0 a.0

-- a heap in which no key is before this one
pub record Heaped (k : Key) (heap : BinaryHeap (Reverse Key) Global) : Type 0 where
  pub heap_order : IsHeap later_cmp (heap_items heap)
  pub none_before : All (λ q. is_before q k ≡ false) (keys_in heap)

-- the keys below this place are before this one, and the others are not
abbrev pub IsPlace : Key → List Key → ℕ → Type 0
IsPlace k ks place =
    IsPartitionPoint (λ q. is_before q k ≡ true) (λ q. is_before q k ≡ false) ks place
