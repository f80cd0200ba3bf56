-- An entry among loaded ones.
use Rattle.station_index.proofs.Words.{◌≡◌, ℕ, ◌+◌, ◌-◌, ◌<◌, ◌≤◌, List, Bool, true, false, not, length, map, get_or, take, drop, refl, sym, ◌∙◌, ap, arith, inl, inr, All, HoldsAt, IsPartitionPoint, IsPartitionedBy, cases_Bool, cases_lt, eq-eqb, nat_tests, get_or-drop, get_or-map, get_or-take, get_or_default, length-map, Entry, is_before_entry, LoadedEvent, AreInOrder, is_in_range, is_same_entry, IsRangeAt, entry_of}
use Rattle.station_index.proofs.EntryLemmas.{IsBefore, before_entry-connected, beq-itself, same_entry-is}
use Rattle.station_index.proofs.PartLemmas.{some_event}
use Rattle.station_index.proofs.PlaceLemmas.{AreInOrder-drop, AreInOrder-take, IsPlace, all-differ, parted}

pub not-true : (b : Bool) → not b ≡ true → b ≡ false
not-true true h = cc
not-true false h = refl

pub not-false : (b : Bool) → not b ≡ false → b ≡ true
not-false true h = refl
not-false false h = cc

-- those before an entry come first
pub events-parted : (e : Entry) (xs : List LoadedEvent) → AreInOrder (map (entry_of e.stop e.dep) xs) → IsPartitionedBy (λ x. is_before_entry (entry_of e.stop e.dep x) e) xs
events-parted e xs up i j d le l h =
    let f = entry_of e.stop e.dep in
    let within : j < length (map f xs) = omega (arith, l, length-map xs f) in
    let later : is_before_entry (get_or (map f xs) j (f d)) e ≡ true = rw (get_or-map f xs j d (f d) l) h in
    rw (get_or-map f xs i d (f d) (omega (arith, le, l))) at (parted e (map f xs) up i j (f d) le within later)

itself-in : (e : Entry) → is_in_range e.stop e.dep e.time e.time e ≡ true
itself-in e = rw (eq-eqb e.stop e.stop refl, beq-itself e.dep) (grind (arith, nat_tests))

true-false : true ≡ false → ⊥
true-false h = cc

-- an entry that is not in the range of another differs from it
outside-of : (e y : Entry) → is_in_range e.stop e.dep e.time e.time y ≡ false → not (is_same_entry y e) ≡ true
outside-of e y h =
    elim (cases_Bool (is_same_entry y e)) [
      | inl same ↦ absurd (let one = same_entry-is y e same in let own = itself-in e in let clash : is_in_range e.stop e.dep e.time e.time e ≡ false = ap (is_in_range e.stop e.dep e.time e.time) (sym one) ∙ h in true-false (sym own ∙ clash))
      | inr differ ↦ ap not differ
    ]

module _ (e : Entry) (es : List Entry) (first : ℕ) (xs : List LoadedEvent) (up : AreInOrder es) (range : IsRangeAt (is_in_range e.stop e.dep e.time e.time) es first (first + length xs)) (is : map (entry_of e.stop e.dep) xs ≡ take (length xs) (drop first es)) where
  abbrev f : LoadedEvent → Entry
  f = entry_of e.stop e.dep

  pub found-ordered : AreInOrder (map f xs)
  found-ordered = rw is (AreInOrder-take (length xs) (drop first es) (AreInOrder-drop first es up))

  there : (k : ℕ) (d : Entry) → k < length xs → get_or es (first + k) d ≡ f (get_or xs k some_event)
  there k d l =
      sym (get_or-drop first es k d) ∙ sym (get_or-take (length xs) (drop first es) k d l) ∙ ap (λ ys. get_or ys k d) (sym is) ∙ get_or-map f xs k some_event d l

  place-in : (i : ℕ) → IsPartitionPoint (λ x. is_before_entry (f x) e ≡ true) (λ x. is_before_entry (f x) e ≡ false) xs i → i ≤ length xs → IsPlace e (map f xs) i
  place-in i p within =
      ((λ k d l m. rw (get_or-map f xs k some_event d (omega arith)) (p.0 k some_event l m)), (λ k d l m. let inside : k < length xs = omega (arith, m, length-map xs f) in rw (get_or-map f xs k some_event d inside) (p.1 k some_event l inside)))

  -- the entry stands where an event is read that it does not stand before
  pub find-some : (i : ℕ) (x : LoadedEvent) → IsPartitionPoint (λ x. is_before_entry (f x) e ≡ true) (λ x. is_before_entry (f x) e ≡ false) xs i → i < length xs → x ≡ get_or xs i x → is_before_entry e (f x) ≡ false → (first + i < length es) × HoldsAt (λ y. y ≡ e) es (first + i)
  find-some i x p l read behind =
      let same : f x ≡ e = before_entry-connected (f x) e (rw (← read) at (p.1 i x (omega arith) l)) behind in
      (omega (arith, range.within), λ d. there i d l ∙ ap f (get_or_default xs i some_event x l ∙ sym read) ∙ same)

  -- and is not there where it stands before what is read
  pub find-none : (i : ℕ) → IsPartitionPoint (λ x. is_before_entry (f x) e ≡ true) (λ x. is_before_entry (f x) e ≡ false) xs i → i ≤ length xs → (i < length xs → HoldsAt (λ x. IsBefore e (f x)) xs i) → All (λ y. not (is_same_entry y e) ≡ true) es
  find-none i p within high =
      let count = length-map xs f in
      let inside = all-differ e (map f xs) i found-ordered (place-in i p within) (λ l d. let m : i < length xs = omega (arith, l, count) in rw (get_or-map f xs i some_event d m) (high m some_event)) in
      λ k d l.
      elim (cases_lt k first) [
        | inl below ↦ outside-of e (get_or es k d) (range.before k d (omega arith) below)
        | inr above ↦
            elim (cases_lt k (first + length xs)) [
              | inl in_part ↦
                  (let m : k - first < length xs = omega (arith, above, in_part) in
                  let own : get_or es k d ≡ get_or (map f xs) (k - first) d = ap (λ j. get_or es j d) (omega (arith, above)) ∙ there (k - first) d m ∙ sym (get_or-map f xs (k - first) some_event d m) in
                  rw own (inside (k - first) d (omega (arith, m, count))))
              | inr past ↦ outside-of e (get_or es k d) (range.after k d past l)
            ]
      ]
