-- The parts in which loaded entries lie.
use Rattle.station_index.proofs.Words.{◌≡◌, ◌≢◌, ℕ, zero, suc, ◌+◌, ◌-◌, ◌/◌, ◌%◌, ◌<◌, ◌≤◌, min, List, [], ◌∷◌, Bool, true, false, cond, nat_eq, nat_le, length, map, get_or, take, drop, refl, sym, ◌∙◌, ap, arith, inl, inr, All, IsPartitionPoint, IsPartitionedBy, and_parts, cases_Bool, cases_lt, eqb-true, eq-eqb, nat_tests, get_or_default, length-drop, length-take-le, Entry, LoadedEvent, AreInOrder, IsSlot, entry_of, event_in, is_at, slot_number, slot_of}
use Rattle.std.proofs.Common.{◌*◌, ◌++◌}
use Rattle.std.proofs.lemmas.List.{get_or_append_left, get_or_past, length_push}
use Rattle.std.proofs.lemmas.List.Elements.{All-push}
use Rattle.std.proofs.Math.Seq.{get_or-append_seam}
use Rattle.std.proofs.lemmas.List.Sums.{count_by-le-length, sum_by-append}
use Rattle.station_index.specs.Slots.{AreEnds, AreEndsOf, entry_in, rebuilt, slot_at, start_of}
use Rattle.station_index.proofs.EntryLemmas.{before-slots, beq-true}

-- the stop and the kind of a part
slot-parts : (stop : ℕ) (dep : Bool) → (slot_number stop dep / 2 ≡ stop) × (nat_eq (slot_number stop dep % 2) 1 ≡ dep)
slot-parts stop true = (omega arith, eq-eqb ((2 * stop + 1) % 2) 1 (omega arith))
slot-parts stop false = let none : (2 * stop + 0) % 2 ≡ 0 = omega arith in (omega arith, rw none refl)

pub entry_in-slot : (stop : ℕ) (dep : Bool) (x : LoadedEvent) → entry_in (slot_number stop dep) x ≡ entry_of stop dep x
entry_in-slot stop dep x = let p = slot-parts stop dep in rw (p.0, p.1) refl

odd-slot : (slot stop : ℕ) (dep : Bool) → slot / 2 ≡ stop → nat_eq (slot % 2) 1 ≡ dep → slot ≡ slot_number stop dep
odd-slot slot stop true h k = let odd = eqb-true _ _ k in omega arith
odd-slot slot stop false h k = grind (arith, nat_tests)

-- an entry of another part is not at the stop and of the kind
pub not-at : (stop : ℕ) (dep : Bool) (slot : ℕ) (x : LoadedEvent) → slot ≢ slot_number stop dep → is_at stop dep (entry_in slot x) ≡ false
not-at stop dep slot x other =
    elim (cases_Bool (is_at stop dep (entry_in slot x))) [
      | inl at ↦ (let parts = and_parts _ _ at in absurd (other (odd-slot slot stop dep (eqb-true _ _ parts.0) (beq-true _ _ parts.1))))
      | inr away ↦ away
    ]

pub length-rebuilt : (ends : List ℕ) (i : ℕ) (xs : List LoadedEvent) → length (rebuilt ends i xs) ≡ length xs
length-rebuilt ends i [] = refl
length-rebuilt ends i (x ∷ xs) = ap suc (length-rebuilt ends (suc i) xs)

pub rebuilt-drop : (ends : List ℕ) (n i j : ℕ) (xs : List LoadedEvent) → j ≡ i + n → drop n (rebuilt ends i xs) ≡ rebuilt ends j (drop n xs)
rebuilt-drop ends zero i j xs h = ap (λ k. rebuilt ends k xs) (omega arith)
rebuilt-drop ends (suc n) i j [] h = refl
rebuilt-drop ends (suc n) i j (x ∷ xs) h = rebuilt-drop ends n (suc i) j xs (omega arith)

pub rebuilt-take : (ends : List ℕ) (n i : ℕ) (xs : List LoadedEvent) → take n (rebuilt ends i xs) ≡ rebuilt ends i (take n xs)
rebuilt-take ends zero i xs = refl
rebuilt-take ends (suc n) i [] = refl
rebuilt-take ends (suc n) i (x ∷ xs) = ap (λ r. entry_in (slot_at ends i) x ∷ r) (rebuilt-take ends n (suc i) xs)

-- events of one part
pub rebuilt-slot : (ends : List ℕ) (stop : ℕ) (dep : Bool) (i : ℕ) (xs : List LoadedEvent) → ((j : ℕ) → i ≤ j → j < i + length xs → slot_at ends j ≡ slot_number stop dep) → map (entry_of stop dep) xs ≡ rebuilt ends i xs
rebuilt-slot ends stop dep i [] h = refl
rebuilt-slot ends stop dep i (x ∷ xs) h =
    rw (h i (omega arith) (omega arith), entry_in-slot stop dep x) (ap (λ r. entry_of stop dep x ∷ r) (rebuilt-slot ends stop dep (suc i) xs (λ j l m. h j (omega arith) (omega (arith, m)))))

pub rebuilt-at : (ends : List ℕ) (i : ℕ) (xs : List LoadedEvent) (k : ℕ) (d : Entry) → k < length xs → (x : LoadedEvent) × (get_or (rebuilt ends i xs) k d ≡ entry_in (slot_at ends (i + k)) x)
rebuilt-at ends i [] k d l = absurd (omega arith)
rebuilt-at ends i (x ∷ xs) zero d l = (x, ap (λ j. entry_in (slot_at ends j) x) (omega arith))
rebuilt-at ends i (x ∷ xs) (suc k) d l =
    let rest = rebuilt-at ends (suc i) xs k d (omega arith) in (rest.0, rest.1 ∙ ap (λ j. entry_in (slot_at ends j) rest.0) (omega arith))

entry_with : Entry → Bool → Entry
entry_with e b = record { stop = e.stop; dep = e.dep; time = e.time; node = record { train = e.node.train; label = e.node.label; dep = b } }

entry-again : (e : Entry) → e.dep ≡ e.node.dep → entry_of e.stop e.dep (event_in e) ≡ e
unfolding entry_with
entry-again e h = ap (entry_with e) h

-- entries whose parts are those of their places
pub rebuilt-is : (ends : List ℕ) (i : ℕ) (es : List Entry) → ((k : ℕ) (d : Entry) → k < length es → slot_at ends (i + k) ≡ slot_of (get_or es k d)) → All (λ e. e.dep ≡ e.node.dep) es → rebuilt ends i (map event_in es) ≡ es
rebuilt-is ends i [] h deps = refl
rebuilt-is ends i (e ∷ es) h deps =
    let here : slot_at ends i ≡ slot_of e = ap (slot_at ends) (omega arith) ∙ h 0 e (omega arith) in
    let same : entry_of e.stop e.dep (event_in e) ≡ e = entry-again e (deps 0 e (omega arith)) in
    rw (here, entry_in-slot e.stop e.dep (event_in e), same)
    (ap (λ r. e ∷ r) (rebuilt-is ends (suc i) es (λ k d l. ap (slot_at ends) (omega arith) ∙ h (suc k) d (omega arith)) (λ k d l. deps (suc k) d (omega arith))))

not-zero : (k : ℕ) → nat_eq (suc k) 0 ≡ false
not-zero k =
    elim (cases_Bool (nat_eq (suc k) 0)) [
      | inl zero-is ↦ (let e = eqb-true _ _ zero-is in absurd (omega arith))
      | inr fine ↦ fine
    ]

-- where a part begins and ends
module _ (ends : List ℕ) (n : ℕ) (h : AreEnds ends n) where
  end-low : (k i : ℕ) → i < get_or ends k n → i < n → slot_at ends i ≤ k
  end-low k i l m =
      elim (cases_lt k (length ends)) [
        | inl within ↦ h.low k i within (rw (get_or_default ends k n 0 within) at l)
        | inr past ↦ omega (arith, count_by-le-length (λ end. nat_le end i) ends)
      ]

  end-high : (k i : ℕ) → get_or ends k n ≤ i → i < n → k < slot_at ends i
  end-high k i l m =
      elim (cases_lt k (length ends)) [
        | inl within ↦ h.high k i within (rw (get_or_default ends k n 0 within) at l) m
        | inr past ↦ absurd (omega (arith, get_or_past ends k n past))
      ]

  pub end-bound : (k : ℕ) → get_or ends k n ≤ n
  end-bound k =
      elim (cases_lt k (length ends)) [
        | inl within ↦ h.bound k n within
        | inr past ↦ omega (arith, get_or_past ends k n past)
      ]

  pub record IsPartAt (slot start end : ℕ) : Type 0 where
    pub order : start ≤ end
    pub within : end ≤ n
    pub before : (i : ℕ) → i < start → slot_at ends i ≢ slot
    pub inside : (i : ℕ) → start ≤ i → i < end → slot_at ends i ≡ slot
    pub after : (i : ℕ) → end ≤ i → i < n → slot_at ends i ≢ slot

  part-at : (slot start end : ℕ) → start ≤ n → end ≡ get_or ends slot n → ((i : ℕ) → i < start → slot_at ends i < slot) → ((i : ℕ) → start ≤ i → i < n → slot ≤ slot_at ends i) → IsPartAt slot start end
  part-at slot start end bound is low high =
      let within : end ≤ n = omega (arith, end-bound slot) in
      record {
        order = elim (cases_lt end start) [ inl crossed ↦ (let m = low end crossed in absurd (omega (arith, m, end-high slot end (omega arith) (omega arith)))) | inr fine ↦ fine ];
        within = within;
        before = λ i l e. absurd (omega (arith, low i l, e));
        inside = λ i l m. omega (arith, high i l (omega (arith, m)), end-low slot i (omega (arith, m, is)) (omega (arith, m)));
        after = λ i l m e. absurd (omega (arith, end-high slot i (omega (arith, l, is)) m, e));
      }

  pub part-is : (slot : ℕ) → IsPartAt slot (start_of ends slot n) (get_or ends slot n)
  part-is zero = part-at 0 0 (get_or ends 0 n) (omega arith) refl (λ i l. absurd (omega (arith, l))) (λ i l m. omega arith)
  part-is (suc k) =
      let e : suc k - 1 ≡ k = omega arith in
      rw (not-zero k, e) (part-at (suc k) (get_or ends k n) (get_or ends (suc k) n) (end-bound k) refl
      (λ i l. omega (arith, end-low k i l (omega (arith, l, end-bound k)))) (λ i l m. omega (arith, end-high k i l m)))

-- in entries in order, the numbers of their parts rise
pub slots-parted : (es : List Entry) (k : ℕ) → AreInOrder es → IsPartitionedBy (λ e. nat_le (slot_of e) k) es
slots-parted es k up i j d le l h =
    elim (cases_lt i j) [
      | inl below ↦ (let rise = before-slots _ _ (up i j d below l) in grind (arith, nat_tests))
      | inr above ↦ (let same : i ≡ j = omega arith in rw same h)
    ]

some_entry : Entry
some_entry = record { stop = 0; dep = true; time = 0; node = record { train = 0; label = 0; dep = true } }

-- the ends of the first parts
pub record AreFilled (es : List Entry) (ends : List ℕ) (k : ℕ) : Type 0 where
  pub count : length ends ≡ k
  pub bound : All (λ end. end ≤ length es) ends
  pub points : (i : ℕ) → i < k → IsPartitionPoint (λ e. nat_le (slot_of e) i ≡ true) (λ e. nat_le (slot_of e) i ≡ false) es (get_or ends i 0)
  pub slots : (i : ℕ) (d : Entry) → i < length es → slot_at ends i ≡ min k (slot_of (get_or es i d))

pub filled-none : (es : List Entry) (k : ℕ) → k ≡ 0 → AreFilled es [] k
filled-none es k h =
    record {
      count = sym h;
      bound = λ i d l. absurd (omega arith);
      points = λ i l. absurd (omega (arith, l));
      slots = λ i d l. omega arith;
    }

-- one more end
pub filled-more : (es : List Entry) (ends : List ℕ) (k end : ℕ) → AreFilled es ends k → end ≤ length es → IsPartitionPoint (λ e. nat_le (slot_of e) k ≡ true) (λ e. nat_le (slot_of e) k ≡ false) es end → AreFilled es (ends ++ end ∷ []) (k + 1)
filled-more es ends k end h bound point =
    record {
      count = omega (arith, length_push ends end, h.count);
      bound = All-push (λ e. e ≤ length es) ends end h.bound bound;
      points = λ i l.
          elim (cases_lt i k) [
            | inl below ↦ (let within : i < length ends = omega (arith, h.count) in rw (get_or_append_left ends (end ∷ []) 0 i within) (h.points i below))
            | inr last ↦ (let at : i ≡ k = omega arith in let here : get_or (ends ++ end ∷ []) i 0 ≡ end = ap (λ j. get_or (ends ++ end ∷ []) j 0) (omega (arith, h.count)) ∙ get_or-append_seam ends end [] 0 in rw (here, at) point)
          ];
      slots = λ i d l.
          let more : slot_at (ends ++ end ∷ []) i ≡ slot_at ends i + slot_at (end ∷ []) i = sum_by-append (λ e. cond (nat_le e i) 1 0) ends (end ∷ []) in
          let own : slot_at (end ∷ []) i ≡ cond (nat_le end i) 1 0 = omega arith in
          let before = h.slots i d l in
          elim (cases_lt i end) [
            | inl inside ↦ (let low = point.0 i d (omega arith) inside in grind (arith, nat_tests))
            | inr past ↦ (let high = point.1 i d past l in grind (arith, nat_tests))
          ];
    }

-- all ends but the last
pub filled-all : (es : List Entry) (ends : List ℕ) (k : ℕ) → AreFilled es ends k → All (λ e. slot_of e ≤ k) es → AreEndsOf es ends
filled-all es ends k h last =
    let slots : (i : ℕ) (d : Entry) → i < length es → slot_at ends i ≡ slot_of (get_or es i d) = λ i d l. omega (arith, h.slots i d l, last i d l) in
    record {
      known = record {
        bound = h.bound;
        low = λ j i l m.
            let d = some_entry in
            let within : i < length es = omega (arith, m, h.bound j 0 l) in
            let below = (h.points j (omega (arith, l, h.count))).0 i d (omega arith) m in
            let same = slots i d within in grind (arith, nat_tests);
        high = λ j i l m within.
            let d = some_entry in
            let above = (h.points j (omega (arith, l, h.count))).1 i d m within in
            let same = slots i d within in grind (arith, nat_tests);
      };
      slots = slots;
    }

pub some-from : (n : ℕ) → nat_eq n 0 ≡ false → 0 < n
some-from zero h = cc
some-from (suc n) h = omega arith

-- the last entry lies in the last part
pub last-slot : (es : List Entry) (x : Entry) → AreInOrder es → 0 < length es → x ≡ get_or es (length es - 1) x → All (λ e. slot_of e ≤ slot_of x) es
last-slot es x up some is i d l =
    elim (cases_lt i (length es - 1)) [
      | inl below ↦ (let rise = before-slots _ _ (up i (length es - 1) x below (omega arith)) in let own = get_or_default es i d x l in omega (arith, rise, ap slot_of is, ap slot_of own))
      | inr last ↦ (let at : i ≡ length es - 1 = omega arith in let own = get_or_default es i d x l in omega (arith, ap slot_of is, ap slot_of own, ap (λ j. slot_of (get_or es j x)) at))
    ]

-- the events of one part
pub slot-found : (stop : ℕ) (dep : Bool) (ends : List ℕ) (xs : List LoadedEvent) (h : AreEnds ends (length xs)) (slot start end : ℕ) → slot ≡ slot_number stop dep → IsPartAt ends (length xs) h slot start end → IsSlot stop dep (rebuilt ends 0 xs) start (take (end - start) (drop start xs))
slot-found stop dep ends xs h slot start end same part =
    let p = rw same at part in
    let all = length-rebuilt ends 0 xs in
    let rest = length-drop start xs in
    let m = end - start in
    let count : length (take m (drop start xs)) ≡ m = length-take-le m (drop start xs) (omega (arith, p.order, p.within)) in
    let away : (i : ℕ) (d : Entry) → i < length xs → slot_at ends i ≢ slot_number stop dep → is_at stop dep (get_or (rebuilt ends 0 xs) i d) ≡ false = λ i d l other.
    (let at = rebuilt-at ends 0 xs i d l in let place : 0 + i ≡ i = omega arith in rw at.1 (not-at stop dep (slot_at ends (0 + i)) at.0 (rw place other))) in
    record {
      within = omega (arith, all, count, p.order, p.within);
      is = rw count (rebuilt-slot ends stop dep start (take m (drop start xs)) (λ j l k. p.inside j l (omega (arith, count, k, p.order))) ∙ sym (ap (take m) (rebuilt-drop ends start 0 start xs (omega arith)) ∙ rebuilt-take ends m start (drop start xs)));
      before = λ i d l k. away i d (omega (arith, k, p.order, p.within)) (p.before i k);
      after = λ i d l k. away i d (omega (arith, all, k)) (p.after i (omega (arith, count, l, p.order)) (omega (arith, all, k)));
    }

-- the entries back from what is stored of them
pub rebuilt-all : (es : List Entry) (ends : List ℕ) → AreEndsOf es ends → All (λ e. e.dep ≡ e.node.dep) es → rebuilt ends 0 (map event_in es) ≡ es
rebuilt-all es ends h deps = rebuilt-is ends 0 es (λ k d l. ap (slot_at ends) (omega arith) ∙ h.slots k d l) deps
