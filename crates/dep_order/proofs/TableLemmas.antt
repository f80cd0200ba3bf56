-- Slots in two parts, of which one is read or set.
use Rattle.dep_order.proofs.Words.{◌≡◌, ◌<◌, ℕ, zero, suc, List, [], ◌∷◌, refl, ap, ◌∙◌, arith, length, get_or, set, replicate, Slot, Hot, Cold, cold_part, fresh_slot, hot_part, slot_at}
use Rattle.dep_order.specs.Tables.{ArePaired, joined, seen, slot_of}
use Rattle.dep_order.specs.declared.slot_table.SlotTable.TheInside.{Inside}

pub length-joined : (hs : List Hot) (cs : List Cold) → length hs ≡ length cs → length (joined hs cs) ≡ length hs
length-joined [] cs e = refl
length-joined (h ∷ hs) [] e = absurd (omega arith)
length-joined (h ∷ hs) (c ∷ cs) e = ap suc (length-joined hs cs (omega arith))

pub hot-read : (hs : List Hot) (cs : List Cold) (n : ℕ) (h : Hot) → length hs ≡ length cs → n < length (joined hs cs) → h ≡ get_or hs n h → h ≡ hot_part (slot_at (joined hs cs) n)
hot-read [] cs n h e l at = absurd (omega arith)
hot-read (x ∷ hs) [] n h e l at = absurd (omega arith)
hot-read (x ∷ hs) (c ∷ cs) zero h e l at = at
hot-read (x ∷ hs) (c ∷ cs) (suc n) h e l at = hot-read hs cs n h (omega arith) (omega arith) at

pub cold-read : (hs : List Hot) (cs : List Cold) (n : ℕ) (c : Cold) → length hs ≡ length cs → n < length (joined hs cs) → c ≡ get_or cs n c → c ≡ cold_part (slot_at (joined hs cs) n)
cold-read [] cs n c e l at = absurd (omega arith)
cold-read (h ∷ hs) [] n c e l at = absurd (omega arith)
cold-read (h ∷ hs) (x ∷ cs) zero c e l at = at
cold-read (h ∷ hs) (x ∷ cs) (suc n) c e l at = cold-read hs cs n c (omega arith) (omega arith) at

pub hot-set : (hs : List Hot) (cs : List Cold) (n : ℕ) (h : Hot) → joined (set hs n h) cs ≡ set (joined hs cs) n (slot_of h (cold_part (slot_at (joined hs cs) n)))
hot-set [] cs n h = refl
hot-set (x ∷ hs) [] zero h = refl
hot-set (x ∷ hs) [] (suc n) h = refl
hot-set (x ∷ hs) (c ∷ cs) zero h = refl
hot-set (x ∷ hs) (c ∷ cs) (suc n) h = ap (λ ss. slot_of x c ∷ ss) (hot-set hs cs n h)

pub cold-set : (hs : List Hot) (cs : List Cold) (n : ℕ) (c : Cold) → joined hs (set cs n c) ≡ set (joined hs cs) n (slot_of (hot_part (slot_at (joined hs cs) n)) c)
cold-set [] cs n c = refl
cold-set (h ∷ hs) [] n c = refl
cold-set (h ∷ hs) (x ∷ cs) zero c = refl
cold-set (h ∷ hs) (x ∷ cs) (suc n) c = ap (λ ss. slot_of h x ∷ ss) (cold-set hs cs n c)

pub both-set : (hs : List Hot) (cs : List Cold) (n : ℕ) (h : Hot) (c : Cold) → joined (set hs n h) (set cs n c) ≡ set (joined hs cs) n (slot_of h c)
both-set [] cs n h c = refl
both-set (x ∷ hs) [] zero h c = refl
both-set (x ∷ hs) [] (suc n) h c = refl
both-set (x ∷ hs) (y ∷ cs) zero h c = refl
both-set (x ∷ hs) (y ∷ cs) (suc n) h c = ap (λ ss. slot_of x y ∷ ss) (both-set hs cs n h c)

-- one part, or both, are changed
module _ (hs : List Hot) (cs : List Cold) (n : ℕ) (e : length hs ≡ length cs) (l : n < length (joined hs cs)) where
  pub hot-change : (f : Hot → Hot) (h : Hot) → h ≡ get_or hs n h → joined (set hs n (f h)) cs ≡ set (joined hs cs) n (slot_of (f (hot_part (slot_at (joined hs cs) n))) (cold_part (slot_at (joined hs cs) n)))
  hot-change f h at =
      hot-set hs cs n (f h) ∙ ap (λ x. set (joined hs cs) n (slot_of (f x) (cold_part (slot_at (joined hs cs) n)))) (hot-read hs cs n h e l at)

  pub cold-change : (f : Cold → Cold) (c : Cold) → c ≡ get_or cs n c → joined hs (set cs n (f c)) ≡ set (joined hs cs) n (slot_of (hot_part (slot_at (joined hs cs) n)) (f (cold_part (slot_at (joined hs cs) n))))
  cold-change f c at =
      cold-set hs cs n (f c) ∙ ap (λ x. set (joined hs cs) n (slot_of (hot_part (slot_at (joined hs cs) n)) (f x))) (cold-read hs cs n c e l at)

  pub both-change : (f : Hot → Hot) (h : Hot) (c : Cold) → h ≡ get_or hs n h → joined (set hs n (f h)) (set cs n c) ≡ set (joined hs cs) n (slot_of (f (hot_part (slot_at (joined hs cs) n))) c)
  both-change f h c at =
      both-set hs cs n (f h) c ∙ ap (λ x. set (joined hs cs) n (slot_of (f x) c)) (hot-read hs cs n h e l at)

pub joined-alike : (n : ℕ) (h : Hot) (c : Cold) → joined (replicate n h) (replicate n c) ≡ replicate n (slot_of h c)
joined-alike zero h c = refl
joined-alike (suc n) h c = ap (λ ss. slot_of h c ∷ ss) (joined-alike n h c)

-- a number has either part
pub low-parts : (a : Inside) (n : ℕ) (now : List Slot) → ArePaired a → seen a ≡ now → n < length now → (n < length a.hot.items) × (n < length a.cold.items) × (n < length (seen a))
low-parts a n now e is l =
    let long = length-joined a.hot.items a.cold.items e in
    let same = ap length is in
    (omega arith, omega arith, omega arith)

pub fresh-joined : (hs : List Hot) (cs : List Cold) (room : ℕ) (h : Hot) (c : Cold) → hs ≡ replicate room h → cs ≡ replicate room c → h ≡ hot_part (fresh_slot room) → c ≡ cold_part (fresh_slot room) → joined hs cs ≡ replicate room (fresh_slot room)
fresh-joined hs cs room h c e f own its =
    rw (e, f, own, its) (joined-alike room (hot_part (fresh_slot room)) (cold_part (fresh_slot room)))
