-- What stays kept where a departure is put in, taken out or moved.
use Rattle.dep_order.proofs.Words.{◌≡◌, ◌≢◌, ◌<◌, ◌≤◌, ◌^◌, ◌-◌, ◌/◌, min, ℕ, inl, inr, List, Option, None, Some, refl, sym, ◌∙◌, ap, subst, arith, length, map, set, set-set, cases_eq, length-map, length-set, nat_tests, Bool, true, IsNext, map-set, slice_get, slice_get_within, All, Cold, Departure, Hot, Key, Lists, Onward, Slot, held, AreKept, IsLinkEnd, cold_part, hot_part, AreLinked, HaveDistinctCalls, IsJoined, IsNewCall, IsNewKey, IsNextIn, IsPreviousIn, bucket_count, bucket_of, departure_in, entries_of, leaves_after, leaves_before, next_in, onward_in, onwards_of, previous_in, no_departure, nobody, is_above, slot_at, stored_in, with_departure, with_onward, with_time}
use Rattle.std.proofs.lemmas.List.Elements.{All-set}
use Rattle.dep_order.proofs.LinkLemmas.{IsPut, gap-apart, put-linked, stay-linked, take-gap, take-linked}
use Rattle.dep_order.proofs.OrderLemmas.{after-strict, before-strict}
use Rattle.dep_order.proofs.SlotLemmas.{get-set_other, get-set_same, map-kept, slot-kept, slot-other, slot-there}
use Rattle.dep_order.proofs.StoredLemmas.{distinct-keys, end-there, link-end, new-key, nobody-none, read, within}

-- the links of a bucket in one direction, before and after a number got its place between two
pub record IsInserted (next next' : ℕ → ℕ → ℕ) (b before m after : ℕ) : Type 0 where
  pub first : next' b before ≡ m
  pub second : next' b m ≡ after
  pub others : (c i : ℕ) → (i ≡ before → (i ≡ nobody) × (c ≢ b)) → i ≢ m → next' c i ≡ next c i

-- before and after what was between two went
pub record IsRemoved (next next' : ℕ → ℕ → ℕ) (b before m after : ℕ) : Type 0 where
  pub first : next' b before ≡ after
  pub others : (c i : ℕ) → (i ≡ before → (i ≡ nobody) × (c ≢ b)) → i ≢ m → next' c i ≡ next c i

pub held-set : (es : List (Option Departure)) (m : ℕ) (o : Option Departure) → m < length es → held (set es m o) m ≡ o
held-set es m o l = rw (get-set_same es m o l) refl

pub held-else : (es : List (Option Departure)) (m i : ℕ) (o : Option Departure) → i ≢ m → held (set es m o) i ≡ held es i
held-else es m i o n = rw (get-set_other es m i o n) refl

-- a departure put in, or taken out
pub put : (l : Lists) (m : ℕ) (d : Departure) → AreKept l → m < length l.slots → held (entries_of l) m ≡ None → IsNewKey (entries_of l) d.key → IsPut (entries_of l) (set (entries_of l) m (Some d)) m d
put l m d k low free new =
    let few = k.few in
    record {
      number = λ e. omega arith;
      nobody_is = nobody-none l k;
      free = free;
      is = held-set (entries_of l) m (Some d) (omega (arith, length-map l.slots departure_in));
      others = λ i n. held-else (entries_of l) m i (Some d) n;
      new = new;
    }

pub taken : (l : Lists) (m : ℕ) (d : Departure) → AreKept l → m < length l.slots → held (entries_of l) m ≡ Some d → IsPut (set (entries_of l) m None) (entries_of l) m d
taken l m d k low is =
    let es = entries_of l in
    let few = k.few in
    let some : m ≢ nobody = λ e. omega arith in
    let free = held-set es m None (omega (arith, length-map l.slots departure_in)) in
    record {
      number = some;
      nobody_is = held-else es m nobody None (λ e. some (sym e)) ∙ nobody-none l k;
      free = free;
      is = is;
      others = λ i n. sym (held-else es m i None n);
      new = λ i e at same. elim (cases_eq i m) [
        | inl own ↦ (let now = rw own at at in cc)
        | inr apart ↦ apart (distinct-keys es k.calls i m e d (sym (held-else es m i None apart) ∙ at) is same)
      ];
    }

-- the calls of departures without one of them
pub fewer-calls : (es : List (Option Departure)) (m : ℕ) → m < length es → HaveDistinctCalls es → HaveDistinctCalls (set es m None)
fewer-calls es m low h = λ i j e f at there train label.
    let free = held-set es m None low in
    elim (cases_eq i m) [
      | inl own ↦ (let now = rw own at at in absurd (cc))
      | inr apart ↦ elim (cases_eq j m) [
        | inl own ↦ (let now = rw own at there in absurd (cc))
        | inr also ↦ h i j e f (sym (held-else es m i None apart) ∙ at) (sym (held-else es m j None also) ∙ there) train label
      ]
    ]

-- and with one of a new call
pub more-calls : (es : List (Option Departure)) (m : ℕ) (d : Departure) → m < length es → held es m ≡ None → IsNewCall es d.key → HaveDistinctCalls es → HaveDistinctCalls (set es m (Some d))
more-calls es m d low free new h = λ i j e f at there train label.
    let here = held-set es m (Some d) low in
    elim (cases_eq i m) [
      | inl own ↦ elim (cases_eq j m) [
        | inl also ↦ own ∙ sym also
        | inr apart ↦ (
            let now = rw own at at in
            let is : e ≡ d = cc in
            let was = sym (held-else es m j (Some d) apart) ∙ there in
            absurd (new j f was (sym (rw is at train)) (sym (rw is at label))))
      ]
      | inr apart ↦ elim (cases_eq j m) [
        | inl own ↦ (
            let now = rw own at there in
            let is : f ≡ d = cc in
            let was = sym (held-else es m i (Some d) apart) ∙ at in
            absurd (new i e was (rw is at train) (rw is at label)))
        | inr also ↦ h i j e f (sym (held-else es m i (Some d) apart) ∙ at) (sym (held-else es m j (Some d) also) ∙ there) train label
      ]
    ]

-- a call that a departure had is new once it was taken out
pub freed-call : (es : List (Option Departure)) (m : ℕ) (d : Departure) → m < length es → held es m ≡ Some d → HaveDistinctCalls es → IsNewCall (set es m None) d.key
freed-call es m d low is h = λ i e at train label.
    let free = held-set es m None low in
    elim (cases_eq i m) [
      | inl own ↦ (let now = rw own at at in cc)
      | inr apart ↦ apart (h i m e d (sym (held-else es m i None apart) ∙ at) is train label)
    ]

-- a departure of the same call in the place of one
pub moved-calls : (es : List (Option Departure)) (m : ℕ) (d : Departure) (time : ℕ) → m < length es → held es m ≡ Some d → HaveDistinctCalls es → HaveDistinctCalls (set es m (Some (record d { time = time })))
moved-calls es m d time low is h =
    let e : Departure = record d { time = time } in
    let again = more-calls (set es m None) m e (omega (arith, low, length-set es m None)) (held-set es m None low) (freed-call es m d low is h) (fewer-calls es m low h) in
    rw (set-set es m None (Some e)) at again

pub same-slots : (l r : Lists) → entries_of r ≡ entries_of l → length r.slots ≡ length l.slots
same-slots l r e = sym (length-map r.slots departure_in) ∙ ap length e ∙ length-map l.slots departure_in

same-few : (l r : Lists) (m : ℕ) (o : Option Departure) → entries_of r ≡ set (entries_of l) m o → length r.slots ≡ length l.slots
same-few l r m o e =
    sym (length-map r.slots departure_in) ∙ ap length e ∙ length-set (entries_of l) m o ∙ length-map l.slots departure_in

same-past : (l r : Lists) → length r.slots ≡ length l.slots → onwards_of r ≡ onwards_of l → All (λ (o : Onward). o.next ≤ length l.slots) (onwards_of l) → All (λ (o : Onward). o.next ≤ length r.slots) (onwards_of r)
same-past l r e f h = rw (e, f) h

module _ (l r : Lists) (b m before after : ℕ) (d : Departure) (k : AreKept l) (low : m < length l.slots) (count : bucket_count r ≡ bucket_count l) (onwards : onwards_of r ≡ onwards_of l) (mine : bucket_of (bucket_count l) d ≡ b) where
  pub kept-put : held (entries_of l) m ≡ None → IsNewCall (entries_of l) d.key → entries_of r ≡ set (entries_of l) m (Some d) → IsNextIn l b (Some d) after → IsPreviousIn l b (Some d) before → IsInserted (next_in l) (next_in r) b before m after → IsInserted (previous_in l) (previous_in r) b after m before → AreKept r
  kept-put free new e u g next previous =
      let es = entries_of l in
      let by = bucket_of (bucket_count l) in
      let p = put l m d k low free (new-key es d.key new) in
      record {
        some = rw count k.some;
        few = rw (same-few l r m (Some d) e) k.few;
        calls = rw e (more-calls es m d (omega (arith, length-map l.slots departure_in)) free new k.calls);
        nexts = rw (count, e) (put-linked leaves_before before-strict by es (set es m (Some d)) m d p (bucket_count l) b before after mine g u (next_in l) (next_in r) k.nexts next.first next.second next.others);
        previous = rw (count, e) (put-linked leaves_after after-strict by es (set es m (Some d)) m d p (bucket_count l) b after before mine u g (previous_in l) (previous_in r) k.previous previous.first previous.second previous.others);
        past = same-past l r (same-few l r m (Some d) e) onwards k.past;
      }

  pub kept-take : held (entries_of l) m ≡ Some d → entries_of r ≡ set (entries_of l) m None → IsNextIn l b (Some d) after → IsPreviousIn l b (Some d) before → IsRemoved (next_in l) (next_in r) b before m after → IsRemoved (previous_in l) (previous_in r) b after m before → AreKept r
  kept-take is e u g next previous =
      let es = entries_of l in
      let by = bucket_of (bucket_count l) in
      let less = set es m None in
      let p = taken l m d k low is in
      let v = take-gap leaves_before before-strict by less es m d p b after u in
      let h = take-gap leaves_after after-strict by less es m d p b before g in
      record {
        some = rw count k.some;
        few = rw (same-few l r m None e) k.few;
        calls = rw e (fewer-calls es m (omega (arith, length-map l.slots departure_in)) k.calls);
        nexts = rw (count, e) (take-linked leaves_before before-strict by less es m d p (bucket_count l) b before after mine h v (next_in l) (next_in r) k.nexts next.first next.others);
        previous = rw (count, e) (take-linked leaves_after after-strict by less es m d p (bucket_count l) b after before mine v h (previous_in l) (previous_in r) k.previous previous.first previous.others);
        past = same-past l r (same-few l r m None e) onwards k.past;
      }

-- a departure is put into its slot, and both beside it are linked with it
abbrev pub with_slots : Lists → List Slot → Lists
with_slots l ss = record l { slots = ss }

module _ (l l₂ l₃ : Lists) (ss : List Slot) (s : Slot) (b m before after : ℕ) (some : m ≢ nobody) (is : ss ≡ set l.slots m s) where
  module _ (j : IsJoined b before m (with_slots l ss) l₂) (i : IsJoined b m after l₂ l₃) (back : before ≢ m) (on : after ≢ m) where
    next-else : (c n : ℕ) → n ≢ m → next_in (with_slots l ss) c n ≡ next_in l c n
    next-else c n far = rw is (grind (arith, nat_tests, slot-other l.slots m n s far))

    previous-else : (c n : ℕ) → n ≢ m → previous_in (with_slots l ss) c n ≡ previous_in l c n
    previous-else c n far = rw is (grind (arith, nat_tests, slot-other l.slots m n s far))

    pub inserted-next : IsInserted (next_in l) (next_in l₃) b before m after
    inserted-next =
        record {
          first = i.nexts b before (λ e. absurd (back e)) ∙ j.next_is;
          second = i.next_is;
          others = λ c n h far. i.nexts c n (λ e. absurd (far e)) ∙ j.nexts c n h ∙ next-else c n far;
        }

    pub inserted-previous : IsInserted (previous_in l) (previous_in l₃) b after m before
    inserted-previous =
        record {
          first = i.previous_is;
          second = i.previous b m (λ e. absurd (on (sym e))) ∙ j.previous_is;
          others = λ c n h far. i.previous c n h ∙ j.previous c n (λ e. absurd (far e)) ∙ previous-else c n far;
        }

    pub inserted-entries : entries_of l₃ ≡ set (entries_of l) m (departure_in s)
    inserted-entries = i.entries ∙ j.entries ∙ ap (map departure_in) is ∙ map-set departure_in l.slots m s

-- the two beside a departure are joined, and it goes from its slot
module _ (l r : Lists) (ss : List Slot) (b m before after : ℕ) (j : IsJoined b before after l r) (is : ss ≡ set r.slots m (record (slot_at r.slots m) { before = no_departure })) where
  pub removed-next : IsRemoved (next_in l) (next_in (with_slots r ss)) b before m after
  removed-next =
      let t : Slot = record (slot_at r.slots m) { before = no_departure } in
      let same : (c n : ℕ) → next_in (with_slots r ss) c n ≡ next_in r c n = λ c n. rw is (grind (arith, nat_tests, slot-kept (λ (x : Slot). x.after) r.slots m t refl n)) in
      record { first = same b before ∙ j.next_is; others = λ c n h far. same c n ∙ j.nexts c n h }

  pub removed-previous : after ≢ m → IsRemoved (previous_in l) (previous_in (with_slots r ss)) b after m before
  removed-previous on =
      let t : Slot = record (slot_at r.slots m) { before = no_departure } in
      let same : (c n : ℕ) → n ≢ m → previous_in (with_slots r ss) c n ≡ previous_in r c n = λ c n far. rw is (grind (arith, nat_tests, slot-other r.slots m n t far)) in
      record { first = same b after on ∙ j.previous_is; others = λ c n h far. same c n far ∙ j.previous c n h }

  pub removed-entries : entries_of (with_slots r ss) ≡ set (entries_of l) m None
  removed-entries =
      let t : Slot = record (slot_at r.slots m) { before = no_departure } in
      ap (map departure_in) is ∙ map-set departure_in r.slots m t ∙ ap (λ es. set es m None) j.entries

  pub removed-onwards : onwards_of (with_slots r ss) ≡ onwards_of l
  removed-onwards =
      let t : Slot = record (slot_at r.slots m) { before = no_departure } in
      ap (map onward_in) is ∙ map-kept onward_in r.slots m t refl ∙ j.onwards

-- a link of a list without a departure at a number leads elsewhere
pub link-apart : (lt : Departure → Departure → Bool) (by : Departure → ℕ) (es : List (Option Departure)) (b n m : ℕ) (o : Option Departure) → IsNext lt by es b o n → held es m ≡ None → m ≢ nobody → n ≢ m
link-apart lt by es b n m o x free some own = some (sym own ∙ x.ends (ap (held es) own ∙ free))

pub free-held : (l : Lists) (m : ℕ) → slice_get (entries_of l) m ≡ Some None → (m < length l.slots) × (held (entries_of l) m ≡ None)
free-held l m free =
    let low = slice_get_within (entries_of l) m None free in
    (omega (arith, length-map l.slots departure_in), rw free refl)

-- a slot with a departure
pub put-departure : (d : Departure) (before after : ℕ) (s : Slot) → d.key.dep ≡ true → before ≢ no_departure → departure_in (with_departure d before after s) ≡ Some d
put-departure d before after s dep some =
    let key : Bool → Key = λ b. record { time = d.key.time; train = d.key.train; label = d.key.label; dep = b } in
    let own : stored_in (with_departure d before after s) ≡ d = ap (λ b. record { time = d.time; key = key b; stop = d.stop }) (sym dep) in
    slot-there (with_departure d before after s) some ∙ ap Some own

-- what is kept once a departure was put in between two
pub inserted : (l l₂ l₃ : Lists) (ss : List Slot) (b m before after : ℕ) (d : Departure) → d.key.dep ≡ true → ss ≡ set l.slots m (with_departure d before after (slot_at l.slots m)) → AreKept l → slice_get (entries_of l) m ≡ Some None → IsNewCall (entries_of l) d.key → b ≡ bucket_of (bucket_count l) d → IsNextIn l b (Some d) after → IsPreviousIn l b (Some d) before → IsJoined b before m (with_slots l ss) l₂ → IsJoined b m after l₂ l₃ → AreKept l₃ × (entries_of l₃ ≡ set (entries_of l) m (Some d)) × (onwards_of l₃ ≡ onwards_of l)
inserted l l₂ l₃ ss b m before after d dep at k free new is u g j i =
    let s = with_departure d before after (slot_at l.slots m) in
    let f = free-held l m free in
    let few = k.few in
    let some : m ≢ nobody = λ e. omega (arith, f.0) in
    let back = link-apart leaves_after (bucket_of (bucket_count l)) (entries_of l) b before m (Some d) g f.1 some in
    let on = link-apart leaves_before (bucket_of (bucket_count l)) (entries_of l) b after m (Some d) u f.1 some in
    let there = end-there l before k.few (link-end leaves_after (bucket_of (bucket_count l)) l b before (Some d) g) in
    let entries = inserted-entries l l₂ l₃ ss s b m before after some at j i back on ∙ ap (set (entries_of l) m) (put-departure d before after (slot_at l.slots m) dep there) in
    let onwards = i.onwards ∙ j.onwards ∙ ap (map onward_in) at ∙ map-kept onward_in l.slots m s refl in (
      kept-put l l₃ b m before after d k f.0 (i.buckets ∙ j.buckets) onwards (sym is) f.1 new entries u g (inserted-next l l₂ l₃ ss s b m before after some at j i back on) (inserted-previous l l₂ l₃ ss s b m before after some at j i back on),
      entries,
      onwards,
    )

-- what is kept once a departure was taken out
pub removed : (l r : Lists) (ss : List Slot) (b m : ℕ) (d : Departure) → AreKept l → held (entries_of l) m ≡ Some d → b ≡ bucket_of (bucket_count l) (stored_in (slot_at l.slots m)) → IsJoined b (slot_at l.slots m).before (slot_at l.slots m).after l r → ss ≡ set r.slots m (record (slot_at r.slots m) { before = no_departure }) → AreKept (with_slots r ss) × (entries_of (with_slots r ss) ≡ set (entries_of l) m None) × (onwards_of (with_slots r ss) ≡ onwards_of l)
removed l r ss b m d k is own j at =
    let s = slot_at l.slots m in
    let x = read l m d k is in
    let mine : bucket_of (bucket_count l) d ≡ b = ap (bucket_of (bucket_count l)) (sym x.departure) ∙ sym own in
    let next = subst (λ c. IsNextIn l c (Some d) s.after) mine x.next in
    let previous = subst (λ c. IsPreviousIn l c (Some d) s.before) mine x.previous in
    let on = gap-apart leaves_before before-strict (bucket_of (bucket_count l)) (entries_of l) b s.after m d next is in
    let entries = removed-entries l r ss b m s.before s.after j at in
    let onwards = removed-onwards l r ss b m s.before s.after j at in (
      kept-take l (with_slots r ss) b m s.before s.after d k (within l m d is) j.buckets onwards mine is entries next previous (removed-next l r ss b m s.before s.after j at) (removed-previous l r ss b m s.before s.after j at on),
      entries,
      onwards,
    )

-- the same with the two parts that were read
pub removed-as : (l r : Lists) (ss : List Slot) (b m : ℕ) (h : Hot) (c : Cold) (d : Departure) → AreKept l → held (entries_of l) m ≡ Some d → h ≡ hot_part (slot_at l.slots m) → c ≡ cold_part (slot_at l.slots m) → b ≡ min (h.time / 8) (bucket_count l - 1) → IsJoined b c.before h.after l r → ss ≡ set r.slots m (record (slot_at r.slots m) { before = no_departure }) → AreKept (with_slots r ss) × (entries_of (with_slots r ss) ≡ set (entries_of l) m None) × (onwards_of (with_slots r ss) ≡ onwards_of l)
removed-as l r ss b m h c d k is e f own j at =
    let own : b ≡ bucket_of (bucket_count l) (stored_in (slot_at l.slots m)) = rw e at own in
    let j : IsJoined b (slot_at l.slots m).before (slot_at l.slots m).after l r = rw (e, f) at j in
    removed l r ss b m d k is own j at

-- where a departure was put, the ends of the links to be joined
pub put-ends : (l : Lists) (ss : List Slot) (b m before after : ℕ) (d : Departure) → d.key.dep ≡ true → ss ≡ set l.slots m (with_departure d before after (slot_at l.slots m)) → AreKept l → slice_get (entries_of l) m ≡ Some None → IsNextIn l b (Some d) after → IsPreviousIn l b (Some d) before → (length ss ≤ 2 ^ 22) × IsLinkEnd (with_slots l ss) before × IsLinkEnd (with_slots l ss) m × IsLinkEnd (with_slots l ss) after
put-ends l ss b m before after d dep at k free u g =
    let by = bucket_of (bucket_count l) in
    let es = entries_of l in
    let f = free-held l m free in
    let few = k.few in
    let many : m < length es = omega (arith, f.0, length-map l.slots departure_in) in
    let some : m ≢ nobody = λ e. omega (arith, f.0) in
    let there = end-there l before k.few (link-end leaves_after by l b before (Some d) g) in
    let now : entries_of (with_slots l ss) ≡ set es m (Some d) = ap (map departure_in) at ∙ map-set departure_in l.slots m _ ∙ ap (set es m) (put-departure d before after (slot_at l.slots m) dep there) in
    let back = link-apart leaves_after by es b before m (Some d) g f.1 some in
    let on = link-apart leaves_before by es b after m (Some d) u f.1 some in (
      rw at (omega (arith, few, length-set l.slots m (with_departure d before after (slot_at l.slots m)))),
      (λ more. rw (now, held-else es m before (Some d) back) (link-end leaves_after by l b before (Some d) g more)),
      (λ more. rw (now, held-set es m (Some d) many) refl),
      (λ more. rw (now, held-else es m after (Some d) on) (link-end leaves_before by l b after (Some d) u more)),
    )

same-links : (lt : Departure → Departure → Bool) (by : Departure → ℕ) (count : ℕ) (es fs : List (Option Departure)) (next next' : ℕ → ℕ → ℕ) → fs ≡ es → ((c i : ℕ) → next' c i ≡ next c i) → AreLinked lt by count es next → AreLinked lt by count fs next'
same-links lt by count es fs next next' e same w = rw e (λ c i l of. rw (same c i) (w c i l of))

-- what is kept where a departure stays in its slot
abbrev pub retimed : Slot → ℕ → Departure
retimed s time = record (stored_in s) { time = time }

pub time_changes : (l : Lists) (ss : List Slot) (m : ℕ) (d : Departure) (time : ℕ) → ss ≡ set l.slots m (record (slot_at l.slots m) { time = time }) → AreKept l → held (entries_of l) m ≡ Some d → bucket_of (bucket_count l) (retimed (slot_at l.slots m) time) ≡ bucket_of (bucket_count l) (stored_in (slot_at l.slots m)) → is_above leaves_before (held (entries_of l) (slot_at l.slots m).before) (retimed (slot_at l.slots m) time) ≡ true → is_above leaves_after (held (entries_of l) (slot_at l.slots m).after) (retimed (slot_at l.slots m) time) ≡ true → AreKept (with_slots l ss) × (entries_of (with_slots l ss) ≡ set (entries_of l) m (Some (retimed (slot_at l.slots m) time))) × (onwards_of (with_slots l ss) ≡ onwards_of l)
time_changes l ss m d time at k is bucket above below =
    let s = slot_at l.slots m in
    let e = retimed s time in
    let r = with_slots l ss in
    let t : Slot = record s { time = time } in
    let es = entries_of l in
    let by = bucket_of (bucket_count l) in
    let b = by d in
    let x = read l m d k is in
    let low = within l m d is in
    let p = taken l m d k low is in
    let less = set es m None in
    let own : by e ≡ b = bucket ∙ ap by x.departure in
    let entries : entries_of r ≡ set es m (Some e) = ap (map departure_in) at ∙ map-set departure_in l.slots m t ∙ ap (set es m) (slot-there t x.there) in
    let many : m < length es = omega (arith, length-map l.slots departure_in) in
    let key : e.key ≡ d.key = ap (λ (x : Departure). x.key) x.departure in
    let fewer = fewer-calls es m many k.calls in
    let new : IsNewCall less e.key = subst (IsNewCall less) (sym key) (freed-call es m d many is k.calls) in
    let q : IsPut less (set es m (Some e)) m e = record {
      number = p.number;
      nobody_is = p.nobody_is;
      free = p.free;
      is = held-set es m (Some e) many;
      others = λ i n. held-else es m i (Some e) n ∙ sym (held-else es m i None n);
      new = new-key less e.key new;
    } in
    let some : b < bucket_count l = let some = k.some in omega arith in
    let before = p.others s.before (gap-apart leaves_after after-strict by es b s.before m d x.previous is) in
    let after = p.others s.after (gap-apart leaves_before before-strict by es b s.after m d x.next is) in
    let above : is_above leaves_before (held less s.before) e ≡ true = rw (← before) above in
    let below : is_above leaves_after (held less s.after) e ≡ true = rw (← after) below in
    let nexts = stay-linked leaves_before before-strict by less es (set es m (Some e)) m d e p q (bucket_count l) b s.before s.after some refl own (next_in l) k.nexts x.next x.previous (x.next_is b) above below in
    let previous = stay-linked leaves_after after-strict by less es (set es m (Some e)) m d e p q (bucket_count l) b s.after s.before some refl own (previous_in l) k.previous x.previous x.next (x.previous_is b) below above in
    let onwards : onwards_of r ≡ onwards_of l = ap (map onward_in) at ∙ map-kept onward_in l.slots m t refl in
    let again = more-calls less m e (omega (arith, many, length-set es m None)) p.free new fewer in (
      record {
        some = k.some;
        few = rw (same-few l r m (Some e) entries) k.few;
        calls = rw entries (rw (set-set es m None (Some e)) at again);
        nexts = same-links leaves_before by (bucket_count l) (set es m (Some e)) (entries_of r) (next_in l) (next_in r) entries (λ c i. rw at (grind (arith, nat_tests, slot-kept (λ (x : Slot). x.after) l.slots m t refl i))) nexts;
        previous = same-links leaves_after by (bucket_count l) (set es m (Some e)) (entries_of r) (previous_in l) (previous_in r) entries (λ c i. rw at (grind (arith, nat_tests, slot-kept (λ (x : Slot). x.before) l.slots m t refl i))) previous;
        past = same-past l r (same-few l r m (Some e) entries) onwards k.past;
      },
      entries,
      onwards,
    )

pub with_time-is : (es : List (Option Departure)) (m time : ℕ) (d e : Departure) → held es m ≡ Some d → e ≡ d → with_time m time es ≡ set es m (Some (record e { time = time }))
with_time-is es m time d e is same = rw (is, same) refl

-- the same for a departure that was read
pub retimed-as : (l : Lists) (ss : List Slot) (m : ℕ) (d f : Departure) (time : ℕ) → f ≡ stored_in (slot_at l.slots m) → ss ≡ set l.slots m (record (slot_at l.slots m) { time = time }) → AreKept l → held (entries_of l) m ≡ Some d → bucket_of (bucket_count l) (record f { time = time }) ≡ bucket_of (bucket_count l) (stored_in (slot_at l.slots m)) → is_above leaves_before (held (entries_of l) (slot_at l.slots m).before) (record f { time = time }) ≡ true → is_above leaves_after (held (entries_of l) (slot_at l.slots m).after) (record f { time = time }) ≡ true → AreKept (with_slots l ss) × (entries_of (with_slots l ss) ≡ with_time m time (entries_of l)) × (onwards_of (with_slots l ss) ≡ onwards_of l)
retimed-as l ss m d f time own at k is bucket above below =
    let by = bucket_of (bucket_count l) in
    let es = entries_of l in
    let s = slot_at l.slots m in
    let x = time_changes l ss m d time at k is (subst (λ (e : Departure). by (record e { time = time }) ≡ by (stored_in s)) own bucket) (subst (λ (e : Departure). is_above leaves_before (held es s.before) (record e { time = time }) ≡ true) own above) (subst (λ (e : Departure). is_above leaves_after (held es s.after) (record e { time = time }) ≡ true) own below) in
    (x.0, x.1 ∙ sym (with_time-is (entries_of l) m time d (stored_in (slot_at l.slots m)) is (read l m d k is).departure), x.2)

-- a number whose departure was taken out is free, and its call is new
pub freed : (l r : Lists) (m : ℕ) (d e : Departure) → AreKept l → held (entries_of l) m ≡ Some d → e ≡ d → entries_of r ≡ set (entries_of l) m None → (slice_get (entries_of r) m ≡ Some None) × IsNewCall (entries_of r) e.key
freed l r m d e k is same gone =
    let many : m < length (entries_of l) = omega (arith, length-map l.slots departure_in, within l m d is) in
    (rw (gone, get-set_same (entries_of l) m None many) refl, rw (gone, same) (freed-call (entries_of l) m d many is k.calls))

-- what is kept where something else stands beside a departure
pub told : (l : Lists) (ss : List Slot) (m : ℕ) (o : Onward) → ss ≡ set l.slots m (with_onward o (slot_at l.slots m)) → AreKept l → o.next ≤ length (onwards_of l) → AreKept (with_slots l ss) × (entries_of (with_slots l ss) ≡ entries_of l) × (onwards_of (with_slots l ss) ≡ set (onwards_of l) m o)
told l ss m o at k low =
    let t = with_onward o (slot_at l.slots m) in
    let r = with_slots l ss in
    let by = bucket_of (bucket_count l) in
    let entries : entries_of r ≡ entries_of l = ap (map departure_in) at ∙ map-kept departure_in l.slots m t refl in
    let onwards : onwards_of r ≡ set (onwards_of l) m o = ap (map onward_in) at ∙ map-set onward_in l.slots m t in
    let same = same-slots l r entries in
    let many = length-map l.slots onward_in in (
      record {
        some = k.some;
        few = rw same k.few;
        calls = rw entries k.calls;
        nexts = same-links leaves_before by (bucket_count l) (entries_of l) (entries_of r) (next_in l) (next_in r) entries (λ c i. rw at (grind (arith, nat_tests, slot-kept (λ (x : Slot). x.after) l.slots m t refl i))) k.nexts;
        previous = same-links leaves_after by (bucket_count l) (entries_of l) (entries_of r) (previous_in l) (previous_in r) entries (λ c i. rw at (grind (arith, nat_tests, slot-kept (λ (x : Slot). x.before) l.slots m t refl i))) k.previous;
        past = rw (onwards, same) (All-set (λ (o : Onward). o.next ≤ length l.slots) (onwards_of l) m o (omega arith) k.past);
      },
      entries,
      onwards,
    )
