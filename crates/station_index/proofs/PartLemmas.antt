-- The loaded events of a range, among those of a stop and kind.
use Rattle.station_index.proofs.Words.{◌≡◌, ℕ, ◌+◌, ◌-◌, ◌<◌, ◌≤◌, List, Bool, true, false, ◌&&◌, nat_eq, nat_le, ltb, leb, length, map, get_or, take, drop, refl, sym, ◌∙◌, ap, arith, inl, inr, IsPartitionPoint, cases_lt, eq-eqb, nat_tests, drop-map, get_or-drop, get_or-map, get_or-take, get_or_default, length-drop, beq, Entry, LoadedEvent, AreInOrder, is_in_range, IsRangeAt, IsSlot, entry_of, is_at}
use Rattle.std.specs.List.Sorted.{IsNonDecreasingBy}
use Rattle.std.proofs.lemmas.List.{drop-drop, drop-take, take-map, take-take}
use Rattle.station_index.proofs.EntryLemmas.{IsBefore, before-times, beq-itself}

pub some_event : LoadedEvent
some_event = record { time = 0; train = 0; label = 0 }

and-again : (a b c : Bool) → (a && b) ≡ false → (a && (b && c)) ≡ false
and-again true true c h = cc
and-again true false c h = refl
and-again false b c h = refl

-- an entry elsewhere is not in the range
away-out : (stop : ℕ) (dep : Bool) (lo hi : ℕ) (e : Entry) → is_at stop dep e ≡ false → is_in_range stop dep lo hi e ≡ false
away-out stop dep lo hi e h = and-again (nat_eq e.stop stop) (beq e.dep dep) (nat_le lo e.time && nat_le e.time hi) h

-- one of the stop and kind is, by its time
in-by-time : (stop : ℕ) (dep : Bool) (lo hi : ℕ) (x : LoadedEvent) → is_in_range stop dep lo hi (entry_of stop dep x) ≡ (nat_le lo x.time && nat_le x.time hi)
in-by-time stop dep lo hi x = rw (eq-eqb stop stop refl, beq-itself dep) refl

module _ (stop : ℕ) (dep : Bool) (es : List Entry) (start : ℕ) (xs : List LoadedEvent) (h : IsSlot stop dep es start xs) where
  entry-at : (k : ℕ) (d : Entry) → k < length xs → get_or es (start + k) d ≡ entry_of stop dep (get_or xs k some_event)
  entry-at k d l =
      let f = entry_of stop dep in
      let e = f some_event in
      let within : start + k < length es = omega (arith, h.within) in
      get_or_default es (start + k) d e within ∙ sym (get_or-drop start es k e) ∙ sym (get_or-take (length xs) (drop start es) k e l)
      ∙ ap (λ ys. get_or ys k e) (sym h.is) ∙ get_or-map f xs k some_event e l

  -- times do not fall
  pub times-rise : AreInOrder es → IsNonDecreasingBy (λ x. x.time) xs
  times-rise up i j d le l =
      elim (cases_lt i j) [
        | inl below ↦
            (let e = entry_of stop dep d in
            let before : IsBefore (entry_of stop dep (get_or xs i some_event)) (entry_of stop dep (get_or xs j some_event)) = rw (← entry-at i e (omega arith), ← entry-at j e l) (up (start + i) (start + j) e (omega arith) (omega (arith, h.within))) in
            rw (get_or_default xs i d some_event (omega arith), get_or_default xs j d some_event l) (before-times stop dep (get_or xs i some_event) (get_or xs j some_event) before))
        | inr above ↦ (let same : i ≡ j = omega arith in rw same (omega arith))
      ]

  -- the range, from the two places that a search finds
  pub range-found : (lo hi first count : ℕ) → first ≤ length xs → count ≤ length (drop first xs) → IsPartitionPoint (λ x. ltb x.time lo ≡ true) (λ x. ltb x.time lo ≡ false) xs first → IsPartitionPoint (λ x. leb x.time hi ≡ true) (λ x. leb x.time hi ≡ false) (drop first xs) count → IsRangeAt (is_in_range stop dep lo hi) es (start + first) (start + first + count)
  range-found lo hi first count bound room low high =
      let rest = length-drop first xs in
      let test : (k : ℕ) (d : Entry) → start ≤ k → k < start + length xs → is_in_range stop dep lo hi (get_or es k d) ≡ (nat_le lo (get_or xs (k - start) some_event).time && nat_le (get_or xs (k - start) some_event).time hi) = λ k d l m.
      (let back : start + (k - start) ≡ k = omega (arith, l) in let own = entry-at (k - start) d (omega (arith, l, m)) in ap (λ i. is_in_range stop dep lo hi (get_or es i d)) (sym back) ∙ ap (is_in_range stop dep lo hi) own ∙ in-by-time stop dep lo hi (get_or xs (k - start) some_event)) in
      let behind : (k : ℕ) → start + first ≤ k → get_or (drop first xs) (k - (start + first)) some_event ≡ get_or xs (k - start) some_event = λ k l.
      get_or-drop first xs (k - (start + first)) some_event ∙ ap (λ i. get_or xs i some_event) (omega (arith, l)) in
      record {
        order = omega arith;
        within = omega (arith, rest, h.within, room);
        before = λ k d l m.
            elim (cases_lt k start) [
              | inl below ↦ away-out stop dep lo hi (get_or es k d) (h.before k d (omega arith) below)
              | inr above ↦ (let early = low.0 (k - start) some_event (omega arith) (omega (arith, m, above)) in test k d above (omega (arith, m, bound)) ∙ (grind (arith, nat_tests)))
            ];
        inside = λ k d l m.
            let late = low.1 (k - start) some_event (omega (arith, l)) (omega (arith, l, m, room, rest)) in
            let soon = rw (behind k l) at (high.0 (k - (start + first)) some_event (omega arith) (omega (arith, l, m))) in
            test k d (omega (arith, l)) (omega (arith, m, room, rest)) ∙ (grind (arith, nat_tests));
        after = λ k d l m.
            elim (cases_lt k (start + length xs)) [
              | inl below ↦ (let past = rw (behind k (omega (arith, l))) at (high.1 (k - (start + first)) some_event (omega (arith, l)) (omega (arith, l, below, rest))) in test k d (omega (arith, l)) below ∙ (grind (arith, nat_tests)))
              | inr above ↦ away-out stop dep lo hi (get_or es k d) (h.after k d above m)
            ];
      }

  -- their entries
  pub events-found : (first count : ℕ) → first ≤ length xs → count ≤ length (drop first xs) → map (entry_of stop dep) (take count (drop first xs)) ≡ take count (drop (start + first) es)
  events-found first count bound room =
      let f = entry_of stop dep in
      let rest = length-drop first xs in
      let n : first + (length xs - first) ≡ length xs = omega arith in
      sym (take-map f count (drop first xs)) ∙ ap (take count) (sym (drop-map f first xs) ∙ ap (drop first) (h.is ∙ ap (λ m. take m (drop start es)) (sym n)) ∙ drop-take first (length xs - first) (drop start es) ∙ ap (take (length xs - first)) (drop-drop first start es))
      ∙ take-take count (length xs - first) (drop (start + first) es) (omega (arith, room))
