-- Numbers under keys, and where the entries of each slot end.
use Rattle.std.proofs.Common.{All, List, [], arith, drop, false, get_or, inl, inr, length, nat_eq, suc, sym, take, true, zero, ℕ, ◌++◌, ◌+◌, ◌-◌, ◌*◌, ◌/◌, ◌<◌, ◌∙◌, ◌∷◌, ◌≡◌, ◌≤◌, ◌^◌, div-mul-le_self}
use Rattle.std.proofs.lemmas.Bool.{cases_lt}
use Rattle.std.proofs.lemmas.Bool.Decides.{nat_tests}
use Rattle.std.proofs.lemmas.List.{get_or-drop, get_or-take, get_or_append_left, get_or_default, get_or_past, get_or_push, length-drop, length-take-le, length_push, take-append-drop}
use Rattle.std.proofs.lemmas.Nat.{le-div, mul-le}
use Rattle.std.specs.List.Sorted.{IsNonDecreasingBy, IsPartitionPoint, IsPartitionedBy}
use Rattle.std.specs.Prelude.{nat_le}
use Rattle.schedule_build.specs.Buckets.{AreEnds, IsNear, end_of, key_of, slot_of, start_of}
use Rattle.schedule_build.specs.declared.buckets.Entry.{Entry}

-- slots rise with keys
pub slots-rise : (scale a b : ℕ) → a ≤ b → slot_of scale a ≤ slot_of scale b
unfolding slot_of
slots-rise scale a b h =
    let less = div-mul-le_self (a * scale) (2 ^ 32) in
    let more = mul-le a scale b scale h (omega arith) in
    le-div (a * scale / 2 ^ 32) (b * scale) (2 ^ 32) (omega arith) (omega (arith, less, more))

pub slots-parted : (scale k : ℕ) (es : List Entry) → IsNonDecreasingBy key_of es → IsPartitionedBy (λ e. nat_le (slot_of scale e.key) k) es
slots-parted scale k es up i j d le l h =
    let rise = slots-rise scale (get_or es i d).key (get_or es j d).key (up i j d le l) in
    grind (arith, nat_tests)

-- no slot is past that of the last entry
pub last-slot : (scale : ℕ) (es : List Entry) → IsNonDecreasingBy key_of es → 0 < length es → (e : Entry) → All (λ x. slot_of scale (key_of x) ≤ slot_of scale (get_or es (length es - 1) e).key) es
last-slot scale es up some e i d l =
    let rise = up i (length es - 1) d (omega arith) (omega arith) in
    rw (get_or_default es (length es - 1) e d (omega arith)) (slots-rise scale (get_or es i d).key (get_or es (length es - 1) d).key rise)

-- the ends of the first slots
pub record AreFilled (scale : ℕ) (es : List Entry) (ends : List ℕ) (k : ℕ) : Type 0 where
  pub count : length ends ≡ k
  pub bound : All (λ end. end ≤ length es) ends
  pub points : (i : ℕ) → i < k → IsPartitionPoint (λ e. nat_le (slot_of scale (key_of e)) i ≡ true) (λ e. nat_le (slot_of scale (key_of e)) i ≡ false) es (get_or ends i 0)

-- one more end
pub filled-more : (scale : ℕ) (es : List Entry) (ends : List ℕ) (k end : ℕ) → AreFilled scale es ends k → end ≤ length es → IsPartitionPoint (λ e. nat_le (slot_of scale (key_of e)) k ≡ true) (λ e. nat_le (slot_of scale (key_of e)) k ≡ false) es end → AreFilled scale es (ends ++ end ∷ []) (k + 1)
filled-more scale es ends k end h bound point =
    record {
      count = omega (arith, length_push ends end, h.count);
      bound = λ i d l.
          elim (cases_lt i (length ends)) [
            | inl below ↦ rw (get_or_append_left ends (end ∷ []) d i below) (h.bound i d below)
            | inr last ↦ (let at : length ends ≡ i = omega (arith, length_push ends end) in rw (get_or_push ends end d i at) bound)
          ];
      points = λ i l.
          elim (cases_lt i k) [
            | inl below ↦ (let within : i < length ends = omega (arith, h.count) in rw (get_or_append_left ends (end ∷ []) 0 i within) (h.points i below))
            | inr last ↦ (let at : length ends ≡ i = omega (arith, h.count) in let same : i ≡ k = omega arith in rw (get_or_push ends end 0 i at, same) point)
          ];
    }

-- all ends but the last
pub filled-all : (scale : ℕ) (es : List Entry) (ends : List ℕ) (k : ℕ) → AreFilled scale es ends k → All (λ e. slot_of scale (key_of e) ≤ k) es → AreEnds scale es ends
filled-all scale es ends k h last =
    record {
      bound = λ j.
          elim (cases_lt j (length ends)) [
            | inl within ↦ h.bound j (length es) within
            | inr past ↦ omega (arith, get_or_past ends j (length es) past)
          ];
      low = λ j i d l.
          elim (cases_lt j (length ends)) [
            | inl within ↦
                (let own = get_or_default ends j (length es) 0 within in
                let below = (h.points j (omega (arith, within, h.count))).0 i d (omega arith) (omega (arith, l, own)) in
                grind (arith, nat_tests))
            | inr past ↦ omega (arith, last i d (omega (arith, l, get_or_past ends j (length es) past)), h.count, past)
          ];
      high = λ j i d l m.
          elim (cases_lt j (length ends)) [
            | inl within ↦
                (let own = get_or_default ends j (length es) 0 within in
                let above = (h.points j (omega (arith, within, h.count))).1 i d (omega (arith, l, own)) m in
                grind (arith, nat_tests))
            | inr past ↦ absurd (omega (arith, l, m, get_or_past ends j (length es) past))
          ];
    }

-- ---- where the entries of a slot are

pub some-from : (n : ℕ) → nat_eq n 0 ≡ false → 0 < n
some-from zero h = cc
some-from (suc n) h = omega arith

module _ (scale : ℕ) (es : List Entry) (ends : List ℕ) (h : AreEnds scale es ends) where
  before-start : (slot i : ℕ) (d : Entry) → i < start_of ends slot (length es) → slot_of scale (get_or es i d).key < slot
  before-start zero i d l = absurd (omega (arith, l))
  before-start (suc k) i d l =
      let same : suc k - 1 ≡ k = omega arith in
      let below = h.low k i d (grind (arith, nat_tests)) in
      omega arith

  from-start : (slot i : ℕ) (d : Entry) → start_of ends slot (length es) ≤ i → i < length es → slot ≤ slot_of scale (get_or es i d).key
  from-start zero i d l m = omega arith
  from-start (suc k) i d l m =
      let same : suc k - 1 ≡ k = omega arith in
      let above = h.high k i d (grind (arith, nat_tests)) m in
      omega arith

  start-bound : (slot : ℕ) → start_of ends slot (length es) ≤ length es
  start-bound zero = omega arith
  start-bound (suc k) = let same : suc k - 1 ≡ k = omega arith in let bound = h.bound k in grind (arith, nat_tests)

  pub in-order : (slot : ℕ) (d : Entry) → start_of ends slot (length es) ≤ end_of ends slot (length es)
  in-order slot d =
      let end = end_of ends slot (length es) in
      elim (cases_lt end (start_of ends slot (length es))) [
        | inl crossed ↦
            (let within : end < length es = omega (arith, crossed, start-bound slot) in
            absurd (omega (arith, before-start slot end d crossed, h.high slot end d (omega arith) within)))
        | inr fine ↦ fine
      ]

  -- the entries of a key's slot
  pub near : (key start end : ℕ) → start ≡ start_of ends (slot_of scale key) (length es) → end ≡ end_of ends (slot_of scale key) (length es) → start ≤ end → end ≤ length es → IsNear key es (take (end - start) (drop start es))
  near key start end first last order within =
      let slot = slot_of scale key in
      let n = end - start in
      let rest = drop start es in
      record {
        before = take start es;
        after = drop n rest;
        whole = sym (rw (take-append-drop n rest) (take-append-drop start es));
        less = λ i d l.
            (let i-below : i < start = omega (arith, l, length-take-le start es (omega (arith, order, within))) in
            rw (get_or-take start es i d i-below) (falls (get_or es i d).key key (before-start slot i d (omega (arith, i-below, first)))));
        more = λ i d l.
            (let long = length-drop start es in
            let longer = length-drop n rest in
            let at : get_or (drop n rest) i d ≡ get_or es (start + (n + i)) d = get_or-drop n rest i d ∙ get_or-drop start es (n + i) d in
            rw at (falls key (get_or es (start + (n + i)) d).key (h.high slot (start + (n + i)) d (omega (arith, last, order)) (omega (arith, l, long, longer, order)))));
      }
    where
      falls : (a b : ℕ) → slot_of scale a < slot_of scale b → a < b
      falls a b l =
          elim (cases_lt a b) [
            | inl less ↦ less
            | inr more ↦ absurd (omega (arith, l, slots-rise scale b a more))
          ]
