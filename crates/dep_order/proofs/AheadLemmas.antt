-- The first departure from a bucket on, and what a walk to it keeps.
use Rattle.dep_order.proofs.Words.{◌≡◌, ◌≢◌, ◌+◌, ◌-◌, ◌/◌, ◌<◌, ◌≤◌, ℕ, Some, Bool, true, false, sym, ◌∙◌, ap, subst, arith, nat_le, nat_tests, inl, inr, cases_Bool, length, min, refl, Bucket, Departure, Hot, Lists, held, AreKept, IsAhead, IsFirst, IsFirstAt, IsFirstPlace, IsNextIn, IsReached, bucket_count, bucket_of, entries_of, hot_part, leaves_before, nobody, number_in, slot_at, stored_in}
use Rattle.std.specs.Ordering.{is_le, nat_cmp}
use Rattle.dep_order.proofs.OrderLemmas.{before-strict, before-time, bucket-before}
use Rattle.dep_order.proofs.ReachLemmas.{bucket-empty, first-ahead, first-found, first-later, left, left-falls, reach-first, reach-held, reach-next}
use Rattle.dep_order.proofs.StoredLemmas.{IsBucket, nobody-none, read, within}

pub late-is : (t u : ℕ) (b c : Bool) → b ≡ is_le (nat_cmp t u) → b ≡ c → nat_le t u ≡ c
late-is t u b c h e = grind (arith, nat_tests)

module _ (l : Lists) (k : AreKept l) where
  abbrev by : Departure → ℕ
  by = bucket_of (bucket_count l)

  abbrev AreFrom : ℕ → ℕ → Type 0
  AreFrom from b = (i : ℕ) (d : Departure) → held (entries_of l) i ≡ Some d → from ≤ by d → b ≤ by d

  -- a first departure as a place
  place-of : (passes : Departure → Bool) (n : ℕ) → n ≢ nobody → IsFirstAt (entries_of l) passes n → IsFirst (entries_of l) passes (number_in n)
  place-of passes n some f = let e : number_in n ≡ Some n = grind (arith, nat_tests, some) in rw e f

  pub first-here : (from b : ℕ) (x : Bucket) → IsBucket l b x → x.first ≢ nobody → from ≤ b → AreFrom from b → IsFirstPlace l (λ d. nat_le from (by d)) b x.first
  first-here from b x is some low rest =
      let passes : Departure → Bool = λ d. nat_le from (by d) in
      let reached = reach-first leaves_before before-strict by (entries_of l) b passes x.first is.first in
      let f = reach-held leaves_before before-strict by (entries_of l) b passes x.first reached some in
      let found = first-found by (entries_of l) (bucket-before (bucket_count l)) b passes x.first f.0 reached f.1 (rw f.2 (grind (arith, nat_tests))) (λ i e at h. rest i e at (grind (arith, nat_tests))) in
      record { first = place-of passes x.first some found; place = λ _. (f.0, f.1, f.2) }

  pub none-here : (from b : ℕ) (x : Bucket) → IsBucket l b x → x.first ≡ nobody → AreFrom from b → AreFrom from (b + 1)
  none-here from b x is end rest = λ i d at low.
      let most = rest i d at low in
      let far : by d ≢ b = λ own. bucket-empty leaves_before before-strict by (entries_of l) b (nobody-none l k) (rw end at is.first) i d at own in
      omega arith

  -- a walk along a bucket
  module _ (b : ℕ) (passes : Departure → Bool) (n : ℕ) (r : IsReached leaves_before by (entries_of l) b passes n) where
    pub walk-within : n ≢ nobody → n < length l.slots
    walk-within some = let f = reach-held leaves_before before-strict by (entries_of l) b passes n r some in within l n f.0 f.1

    pub walk-further : n ≢ nobody → passes (stored_in (slot_at l.slots n)) ≡ false → IsReached leaves_before by (entries_of l) b passes (slot_at l.slots n).after × (left leaves_before (entries_of l) (slot_at l.slots n).after < left leaves_before (entries_of l) n)
    walk-further some h =
        let s = slot_at l.slots n in
        let f = reach-held leaves_before before-strict by (entries_of l) b passes n r some in
        let x = read l n f.0 k f.1 in
        let next = subst (λ c. IsNextIn l c (Some f.0) s.after) f.2 x.next in
        (reach-next leaves_before before-strict by (entries_of l) b passes n s.after f.0 r f.1 (ap passes (sym x.departure) ∙ h) next, left-falls leaves_before before-strict by (entries_of l) b n s.after f.0 f.1 next)

    -- the same with what was read
    pub further-at : (h : Hot) → h ≡ hot_part (slot_at l.slots n) → n ≢ nobody → passes (stored_in (slot_at l.slots n)) ≡ false → IsReached leaves_before by (entries_of l) b passes h.after × (left leaves_before (entries_of l) h.after < left leaves_before (entries_of l) n)
    further-at h e some fails =
        let x = walk-further some fails in
        let after : (slot_at l.slots n).after ≡ h.after = ap (λ (h : Hot). h.after) (sym e) in
        (subst (λ m. IsReached leaves_before by (entries_of l) b passes m) after x.0, subst (λ m. left leaves_before (entries_of l) m < left leaves_before (entries_of l) n) after x.1)

    -- it ends at one that passes, or at the end of the bucket
    pub walk-passes : passes (stored_in (slot_at l.slots n)) ≡ true → (d : Departure) → held (entries_of l) n ≡ Some d → passes d ≡ true
    walk-passes h d is = ap passes (sym (read l n d k is).departure) ∙ h

    pub walk-none : n ≡ nobody → (d : Departure) → held (entries_of l) n ≡ Some d → passes d ≡ true
    walk-none end d is = let none = ap (held (entries_of l)) end ∙ nobody-none l k in absurd (cc)

  -- a walk for a time
  pub ahead-time : (t b n : ℕ) → b ≡ min (t / 8) (bucket_count l - 1) → IsReached leaves_before by (entries_of l) b (λ d. nat_le t d.time) n → ((d : Departure) → held (entries_of l) n ≡ Some d → nat_le t d.time ≡ true) → IsAhead by (entries_of l) b (λ d. nat_le t d.time) n
  ahead-time t b n is r h =
      record {
        reached = r;
        passes_is = h;
        low = λ i d at p. let late : t ≤ d.time = grind (arith, nat_tests) in omega arith;
        high = λ i d at m. let late : t ≤ d.time = omega arith in grind (arith, nat_tests);
      }

  -- what comes after a departure
  pub ahead-next : (i : ℕ) (d : Departure) → held (entries_of l) i ≡ Some d → IsAhead by (entries_of l) (by d) (leaves_before d) (slot_at l.slots i).after
  ahead-next i d is =
      let x = read l i d k is in
      let u : IsNextIn l (by d) (Some d) (slot_at l.slots i).after = x.next in
      record {
        reached = record { ends = u.ends; mine = λ e h. (u.there e h).0; rest = u.rest };
        passes_is = λ e h. (u.there e h).1;
        low = λ j e h p. let late = before-time d e p in omega arith;
        high = λ j e h m. bucket-before (bucket_count l) d e m;
      }

  -- a walk that has come to a departure, or to the end of its bucket
  pub ahead-here : (b : ℕ) (passes : Departure → Bool) (n : ℕ) → n ≢ nobody → IsAhead by (entries_of l) b passes n → IsFirstPlace l passes b n
  ahead-here b passes n some w =
      let f = reach-held leaves_before before-strict by (entries_of l) b passes n w.reached some in
      record {
        first = place-of passes n some (first-ahead by (entries_of l) (bucket-before (bucket_count l)) b passes n some w);
        place = λ _. (f.0, f.1, f.2);
      }

  pub ahead-later : (b : ℕ) (passes : Departure → Bool) (n c m : ℕ) → n ≡ nobody → IsAhead by (entries_of l) b passes n → IsFirstPlace l (λ e. nat_le (b + 1) (by e)) c m → IsFirstPlace l passes c m
  ahead-later b passes n c m end w x = record {
    first = first-later by (entries_of l) (bucket-before (bucket_count l)) b passes n (number_in m) (nobody-none l k) end w x.first;
    place = x.place;
  }

  -- no departure is in any bucket from one on
  pub none-left : (from c : ℕ) → AreFrom from (bucket_count l) → IsFirstPlace l (λ d. nat_le from (by d)) c nobody
  none-left from c rest = record {
    first = λ i d at.
        elim (cases_Bool (nat_le from (by d))) [
          | inl t ↦ (let far = rest i d at (grind (arith, nat_tests)) in let some = k.some in absurd (omega arith))
          | inr f ↦ f
        ];
    place = λ some. absurd (some refl);
  }

  -- the bucket of a departure is one of them
  pub in-buckets : (d : Departure) → by d < bucket_count l
  in-buckets d = let some = k.some in omega arith
