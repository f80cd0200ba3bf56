-- What stands at each number once departures were taken out, moved and put in.
use Rattle.timetable.proofs.Words.{◌≡◌, ◌≢◌, ℕ, zero, suc, ◌+◌, ◌<◌, ◌≤◌, ◌⊎◌, Bool, true, false, not, List, [], ◌∷◌, Option, None, Some, map, filter, length, length-map, get_or, slice_get, refl, sym, ◌∙◌, ap, subst, arith, inl, inr}
use Rattle.timetable.proofs.Words.{All, All-contains, Contains, Contains-permutation, Contains-there, IsPermutation-sym, cases_Bool, option_map, list_any, false_from_ne_true, Key, Node, node_of, is_same, same-is, same_node-itself, is_same_node, Departure, in_order, leaves_before, is_of_none}
use Rattle.std.specs.Prelude.{slice_set}
use Rattle.std.proofs.lemmas.Bool.{cases_eq}
use Rattle.delay_model.proofs.Lists.{Contains-cases}
use Rattle.dep_order.specs.Departing.{departures_in_order, departures_of, held}
use Rattle.dep_order.specs.Ordered.{KeepsDepartures, KeepsRoom, Ordered, at_time, without}
use Rattle.propagate.proofs.{Named.any-from, Sorted.in_order-moves}
use Rattle.timetable.specs.Numbers.{AreLeft, AreMoved, GotNumber, HadNumber}

-- ---- what a number holds

pub held-map : (f : Option Departure → Option Departure) → f None ≡ None → (es : List (Option Departure)) (n : ℕ) → held (map f es) n ≡ f (held es n)
held-map f none [] n = sym none
held-map f none (o ∷ es) zero = refl
held-map f none (o ∷ es) (suc n) = held-map f none es n

pub held-own : (es : List (Option Departure)) (n : ℕ) (o : Option Departure) → n < length es → held (slice_set es n o) n ≡ o
held-own [] n o l = absurd (omega arith)
held-own (e ∷ es) zero o l = refl
held-own (e ∷ es) (suc n) o l = held-own es n o (omega arith)

pub held-other : (es : List (Option Departure)) (i n : ℕ) (o : Option Departure) → i ≢ n → held (slice_set es i o) n ≡ held es n
held-other [] i n o other = refl
held-other (e ∷ es) zero zero o other = absurd (other refl)
held-other (e ∷ es) zero (suc n) o other = refl
held-other (e ∷ es) (suc i) zero o other = refl
held-other (e ∷ es) (suc i) (suc n) o other = held-other es i n o (λ same. other (ap suc same))

pub length-slice_set : (es : List (Option Departure)) (n : ℕ) (o : Option Departure) → length (slice_set es n o) ≡ length es
length-slice_set [] n o = refl
length-slice_set (e ∷ es) zero o = refl
length-slice_set (e ∷ es) (suc n) o = ap suc (length-slice_set es n o)

-- the departures that have numbers are those in order
of-held : (es : List (Option Departure)) (n : ℕ) (d : Departure) → held es n ≡ Some d → Contains (departures_of es) d
of-held [] n d h = absurd (cc)
of-held (None ∷ es) zero d h = absurd (cc)
of-held (Some e ∷ es) zero d h = (0, omega arith, cc)
of-held (None ∷ es) (suc n) d h = of-held es n d h
of-held (Some e ∷ es) (suc n) d h = Contains-there e (departures_of es) d (of-held es n d h)

held-of : (es : List (Option Departure)) (d : Departure) → Contains (departures_of es) d → (n : ℕ) × (held es n ≡ Some d)
held-of [] d h = absurd (omega (arith, h.1))
held-of (None ∷ es) d h = let r = held-of es d h in (suc r.0, r.1)
held-of (Some e ∷ es) d h =
    elim (Contains-cases e (departures_of es) d h) [
      | inl is ↦ (0, ap (λ x. Some x) is)
      | inr rest ↦ (let r = held-of es d rest in (suc r.0, r.1))
    ]

pub held-listed : (es : List (Option Departure)) (n : ℕ) (d : Departure) → held es n ≡ Some d → Contains (departures_in_order es) d
held-listed es n d h = Contains-permutation (departures_of es) _ d (in_order-moves leaves_before (departures_of es)) (of-held es n d h)

pub listed-held : (es : List (Option Departure)) (d : Departure) → Contains (departures_in_order es) d → (n : ℕ) × (held es n ≡ Some d)
listed-held es d h = held-of es d (Contains-permutation (departures_in_order es) _ d (IsPermutation-sym (departures_of es) _ (in_order-moves leaves_before (departures_of es))) h)

-- ---- taken out

without-some : (k : Key) (o : Option Departure) (d : Departure) → without k o ≡ Some d → o ≡ Some d
without-some k None d h = absurd (cc)
without-some k (Some e) d h = elim (cases_Bool (is_same e.key k)) [ inl same ↦ absurd (let gone = rw same at h in cc) | inr other ↦ rw other at h ]

pub none-left : (gone : List Node) (before : Ordered) → AreLeft gone before before
none-left gone before = record {
  left = λ n d h. h;
  stays = λ n d h none. h;
  lengths = refl;
  used = refl;
  onwards = refl;
}

pub same-room : (before : Ordered) → KeepsRoom before before
same-room before = record { labels = refl; spare_trains = refl; spare_calls = refl }

pub rooms : {a b c : Ordered} → KeepsRoom a b → KeepsRoom b c → KeepsRoom a c
rooms h k = record { labels = k.labels ∙ h.labels; spare_trains = k.spare_trains ∙ h.spare_trains; spare_calls = k.spare_calls ∙ h.spare_calls }

module _ {gone : List Node} {before now : Ordered} (h : AreLeft gone before now) (k : Key) (n : Node) (among : Contains gone n) (named : node_of k ≡ n) where
  other-key : (d : Departure) → is_of_none gone d ≡ true → is_same d.key k ≡ false
  other-key d none =
      false_from_ne_true _ (λ same.
      let one = any-from (is_same_node (node_of d.key)) gone n among (rw (← named, same-is d.key k same) (same_node-itself (node_of k))) in
      absurd (let no : not (list_any (is_same_node (node_of d.key)) gone) ≡ false = rw one refl in cc))

  pub one-left : (next : Ordered) → next.entries ≡ map (without k) now.entries → next.used ≡ now.used → next.onwards ≡ now.onwards → AreLeft gone before next
  one-left next entries used onwards =
      let at : (m : ℕ) → held next.entries m ≡ without k (held now.entries m) = λ m. ap (λ es. held es m) entries ∙ held-map (without k) refl now.entries m in
      record {
        left = λ m d there. h.left m d (without-some k (held now.entries m) d (sym (at m) ∙ there));
        stays = λ m d there none.
            at m ∙ ap (without k) (h.stays m d there none) ∙ rw (other-key d none) refl;
        lengths = ap length entries ∙ length-map now.entries (without k) ∙ h.lengths;
        used = used ∙ h.used;
        onwards = onwards ∙ h.onwards;
      }

-- more places change no number
pub still-left : {gone : List Node} {before now next : Ordered} → AreLeft gone before now → KeepsDepartures now next → AreLeft gone before next
still-left h k = record {
  left = λ n d there. h.left n d (rw k.entries at there);
  stays = λ n d there none. rw k.entries (h.stays n d there none);
  lengths = ap length k.entries ∙ h.lengths;
  used = k.used ∙ h.used;
  onwards = k.onwards ∙ h.onwards;
}

-- ---- moved and put in

pub none-moved : (before : Ordered) → AreMoved before before
none-moved before = record {
  kept = λ n d h. inl (record { departure = d; held_before = h; key = refl });
  stays = λ n d h. rw h refl;
  lengths = refl;
  used = omega arith;
  onwards = refl;
  room = same-room before;
}

pub keyed : (o : Option Departure) (k : Key) → option_map (λ (e : Departure). e.key) o ≡ Some k → (e : Departure) × (o ≡ Some e) × (e.key ≡ k)
keyed None k h = absurd (cc)
keyed (Some e) k h = (e, refl, cc)

module _ {a b c : Ordered} (h : AreMoved a b) (k : AreMoved b c) where
  got-before : (n : ℕ) (d : Departure) → GotNumber b n d → GotNumber a n d
  got-before n d got = record {
    fresh = omega (arith, got.fresh, h.used);
    new_key = λ i e there same.
        let r = keyed (held b.entries i) e.key (h.stays i e there) in
        got.new_key i r.0 r.1 (r.2 ∙ same);
  }

  had-before : (n : ℕ) (d : Departure) → HadNumber b n d → HadNumber a n d ⊎ GotNumber a n d
  had-before n d had =
      elim (h.kept n had.departure had.held_before) [
        | inl first ↦ inl (record { departure = first.departure; held_before = first.held_before; key = first.key ∙ had.key })
        | inr got ↦ inr (record { fresh = got.fresh; new_key = λ i e there same. got.new_key i e there (same ∙ sym had.key) })
      ]

  pub moved-on : AreMoved a c
  moved-on = record {
    kept = λ n d there. elim (k.kept n d there) [ inl had ↦ had-before n d had | inr got ↦ inr (got-before n d got) ];
    stays = λ n d there.
        let r = keyed (held b.entries n) d.key (h.stays n d there) in
        k.stays n r.0 r.1 ∙ ap (λ x. Some x) r.2;
    lengths = k.lengths ∙ h.lengths;
    used = omega (arith, h.used, k.used);
    onwards = k.onwards ∙ h.onwards;
    room = rooms h.room k.room;
  }

-- a departure takes place at another time
timed : (k : Key) (time : ℕ) (o : Option Departure) (d : Departure) → option_map (at_time k time) o ≡ Some d → (e : Departure) × (o ≡ Some e) × (e.key ≡ d.key)
timed k time None d h = absurd (cc)
timed k time (Some e) d h =
    let is : at_time k time e ≡ d = cc in
    let own : (at_time k time e).key ≡ e.key = grind arith in
    (e, refl, sym own ∙ ap (λ (x : Departure). x.key) is)

pub retimed : {now next : Ordered} (k : Key) (time : ℕ) → next.entries ≡ map (option_map (at_time k time)) now.entries → next.used ≡ now.used → next.onwards ≡ now.onwards → KeepsRoom now next → AreMoved now next
retimed {now = now} {next = next} k time entries used onwards room =
    let at : (m : ℕ) → held next.entries m ≡ option_map (at_time k time) (held now.entries m) = λ m. ap (λ es. held es m) entries ∙ held-map (option_map (at_time k time)) refl now.entries m in
    record {
      kept = λ n d there.
          let r = timed k time (held now.entries n) d (sym (at n) ∙ there) in
          inl (record { departure = r.0; held_before = r.1; key = r.2 });
      stays = λ n d there.
          let own : (at_time k time d).key ≡ d.key = grind arith in
          ap (option_map (λ (e : Departure). e.key)) (at n ∙ ap (option_map (at_time k time)) there) ∙ ap (λ x. Some x) own;
      lengths = ap length entries ∙ length-map now.entries (option_map (at_time k time));
      used = omega (arith, used);
      onwards = onwards;
      room = room;
    }

-- a departure is put in
pub put-in : {now next : Ordered} (d : Departure) → now.used < length now.entries → held now.entries now.used ≡ None → All (λ (e : Departure). e.key ≢ d.key) (departures_in_order now.entries) → next.entries ≡ slice_set now.entries now.used (Some d) → next.used ≡ now.used + 1 → next.onwards ≡ now.onwards → KeepsRoom now next → AreMoved now next
put-in {now = now} {next = next} d fits free new entries used onwards room =
    let new_key : (i : ℕ) (e : Departure) → held now.entries i ≡ Some e → e.key ≢ d.key = λ i e there. All-contains (λ (e : Departure). e.key ≢ d.key) (departures_in_order now.entries) e new (held-listed now.entries i e there) in
    let own : held next.entries now.used ≡ Some d = ap (λ es. held es now.used) entries ∙ held-own now.entries now.used (Some d) fits in
    let other : (n : ℕ) → now.used ≢ n → held next.entries n ≡ held now.entries n = λ n differs. ap (λ es. held es n) entries ∙ held-other now.entries now.used n (Some d) differs in
    record {
      kept = λ n e there. elim (cases_eq now.used n) [
        | inl same ↦
            let is : d ≡ e = (let at = rw same at own in cc) in
            inr (record { fresh = omega arith; new_key = λ i f was same. new_key i f was (same ∙ sym (ap (λ (x : Departure). x.key) is)) })
        | inr differs ↦ inl (record { departure = e; held_before = sym (other n differs) ∙ there; key = refl })
      ];
      stays = λ n e there.
          let differs : now.used ≢ n = λ same. (let at = rw same at free in absurd (cc)) in
          ap (option_map (λ (e : Departure). e.key)) (other n differs ∙ there);
      lengths = ap length entries ∙ length-slice_set now.entries now.used (Some d);
      used = omega (arith, used);
      onwards = onwards;
      room = room;
    }
