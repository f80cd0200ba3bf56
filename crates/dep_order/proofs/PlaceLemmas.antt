-- Departures by number, put in, taken out and moved: what becomes of the list of them in order.
use Rattle.dep_order.proofs.Words.{◌≡◌, ◌≢◌, ℕ, inl, inr, ◌<◌, List, Option, None, Some, Bool, false, not, refl, sym, ◌∙◌, ap, subst, arith, cases_Bool, cases_eq, get_or, length, map, option_map, set, zero, suc, [], ◌∷◌, Departure, Key, HaveDistinctKeys, IsNewKey, departures_of, departures_in_order, held, in_order, leaves_before, placed}
use Rattle.std.proofs.Common.{filter}
use Rattle.std.specs.List.{AllPairs, list_any}
use Rattle.mt_base.specs.Order.{is_same}
use Rattle.mt_base.proofs.KeyLemmas.{same-is, same-itself}
use Rattle.dep_order.specs.Ordered.{at_time, moved, without}
use Rattle.dep_order.proofs.ChangeLemmas.{held-else, held-set}
use Rattle.dep_order.proofs.OneOrder.{any-none, ascends-pairs, in-at, filter-all, filter-ascends, filter-in, in-filter, in-map, keys-of, map-all, map-in, map-keys, one-order, order-stays}
use Rattle.dep_order.proofs.OrderLemmas.{before-strict}
use Rattle.dep_order.proofs.SortedLemmas.{IsIn, ascends, in-ordered, in-placed, in-there, ordered-ascends, ordered-in, placed-ascends, placed-in, there-in}

at_time-key : (k : Key) (time : ℕ) (d : Departure) → (at_time k time d).key ≡ d.key
at_time-key k time d = elim (cases_Bool (is_same d.key k)) [ inl t ↦ rw t refl | inr f ↦ rw f refl ]

-- it is in the list in order exactly where it has a number
pub found : (es : List (Option Departure)) (d : Departure) → IsIn d (departures_in_order es) → (i : ℕ) × (held es i ≡ Some d)
found es d k = in-there es d (ordered-in d (departures_of es) k)

pub listed : (es : List (Option Departure)) (i : ℕ) (d : Departure) → held es i ≡ Some d → IsIn d (departures_in_order es)
listed es i d h = in-ordered d (departures_of es) (there-in es i d h)

not-same : (a b : Key) → a ≢ b → is_same a b ≡ false
not-same a b n = elim (cases_Bool (is_same a b)) [ inl t ↦ absurd (n (same-is a b t)) | inr f ↦ f ]

-- the departures by number, once one was taken out or moved
later-keys : (e : Option Departure) (es : List (Option Departure)) → HaveDistinctKeys (e ∷ es) → HaveDistinctKeys es
later-keys e es h = λ i j d f a b k. let r = h (suc i) (suc j) d f a b k in omega arith

later-new : (e : Option Departure) (es : List (Option Departure)) (k : Key) → IsNewKey (e ∷ es) k → IsNewKey es k
later-new e es k h = λ i d at. h (suc i) d at

pub without-none : (es : List (Option Departure)) (k : Key) → IsNewKey es k → map (without k) es ≡ es
without-none [] k h = refl
without-none (None ∷ es) k h = ap (λ es. None ∷ es) (without-none es k (later-new None es k h))
without-none (Some e ∷ es) k h =
    let rest = without-none es k (later-new (Some e) es k h) in
    let other = not-same e.key k (h 0 e refl) in
    rw (other, rest) refl

pub moved-none : (es : List (Option Departure)) (k : Key) (time : ℕ) → IsNewKey es k → map (option_map (at_time k time)) es ≡ es
moved-none [] k time h = refl
moved-none (None ∷ es) k time h = ap (λ es. None ∷ es) (moved-none es k time (later-new None es k h))
moved-none (Some e ∷ es) k time h =
    let rest = moved-none es k time (later-new (Some e) es k h) in
    let other = not-same e.key k (h 0 e refl) in
    rw (other, rest) refl

-- behind the departure of a key there is none of it
none-later : (e : Departure) (es : List (Option Departure)) (k : Key) → e.key ≡ k → HaveDistinctKeys (Some e ∷ es) → IsNewKey es k
none-later e es k own h = λ i d at same. let r = h 0 (suc i) e d refl at (own ∙ sym same) in omega arith

other-later : (e : Departure) (es : List (Option Departure)) (k : Key) (n : ℕ) (d : Departure) → HaveDistinctKeys (Some e ∷ es) → held es n ≡ Some d → d.key ≡ k → is_same e.key k ≡ false
other-later e es k n d h at own = not-same e.key k (λ same. let r = h 0 (suc n) e d refl at (same ∙ sym own) in omega arith)

pub without-one : (es : List (Option Departure)) (k : Key) (n : ℕ) (d : Departure) → HaveDistinctKeys es → held es n ≡ Some d → d.key ≡ k → map (without k) es ≡ set es n None
without-one [] k n d h at own = refl
without-one (None ∷ es) k zero d h at own = absurd (cc)
without-one (Some e ∷ es) k zero d h at own =
    let is : e ≡ d = cc in
    let mine : e.key ≡ k = rw is own in
    rw (mine, same-itself k, without-none es k (none-later e es k mine h)) refl
without-one (None ∷ es) k (suc n) d h at own = ap (λ es. None ∷ es) (without-one es k n d (later-keys None es h) at own)
without-one (Some e ∷ es) k (suc n) d h at own =
    rw (other-later e es k n d h at own, without-one es k n d (later-keys (Some e) es h) at own) refl

pub moved-one : (es : List (Option Departure)) (k : Key) (time n : ℕ) (d : Departure) → HaveDistinctKeys es → held es n ≡ Some d → d.key ≡ k → map (option_map (at_time k time)) es ≡ set es n (Some (record d { time = time }))
moved-one [] k time n d h at own = refl
moved-one (None ∷ es) k time zero d h at own = absurd (cc)
moved-one (Some e ∷ es) k time zero d h at own =
    let is : e ≡ d = cc in
    let mine : e.key ≡ k = rw is own in
    let change : at_time k time e ≡ record d { time = time } = rw (is, own, same-itself k) refl in
    rw (change, moved-none es k time (none-later e es k mine h)) refl
moved-one (None ∷ es) k time (suc n) d h at own = ap (λ es. None ∷ es) (moved-one es k time n d (later-keys None es h) at own)
moved-one (Some e ∷ es) k time (suc n) d h at own =
    let stays : at_time k time e ≡ e = rw (other-later e es k n d h at own) refl in
    rw (stays, moved-one es k time n d (later-keys (Some e) es h) at own) refl

module _ (es : List (Option Departure)) (distinct : HaveDistinctKeys es) where
  pub one-of-key : (d e : Departure) → IsIn d (departures_in_order es) → IsIn e (departures_in_order es) → d.key ≡ e.key → d ≡ e
  one-of-key d e k l same =
      let a = found es d k in
      let b = found es e l in
      let i = distinct a.0 b.0 d e a.1 b.1 same in
      let at = rw i at a.1 in
      let also = b.1 in
      cc

  pub different-keys : AllPairs (λ a b. a.key ≢ b.key) (departures_in_order es)
  different-keys i j d l m same =
      let ds = departures_in_order es in
      let a = get_or ds i d in
      let b = get_or ds j d in
      let own = one-of-key a b (in-at ds i d (omega arith)) (in-at ds j d m) same in
      let sooner = ascends-pairs ds (ascends es distinct) i j d l m in
      before-strict.itself b (rw own at sooner)

  pub put-order : (n : ℕ) (d : Departure) → n < length es → held es n ≡ None → IsNewKey es d.key → HaveDistinctKeys (set es n (Some d)) → departures_in_order (set es n (Some d)) ≡ placed leaves_before d (departures_in_order es)
  put-order n d l free new more =
      let ds = departures_in_order es in
      let now = set es n (Some d) in
      one-order (departures_in_order now) (placed leaves_before d ds) (ascends now more)
      (placed-ascends d ds (λ e k. let r = found es e k in new r.0 e r.1) (ascends es distinct))
      (λ e k.
      let r = found now e k in
      elim (cases_eq r.0 n) [
        | inl own ↦ (let at = rw own at r.1 in let is = held-set es n (Some d) l in let same : d ≡ e = cc in in-placed e d ds (inl same))
        | inr apart ↦ in-placed e d ds (inr (listed es r.0 e (sym (held-else es n r.0 (Some d) apart) ∙ r.1)))
      ])
      (λ e k. elim (placed-in e d ds k) [
        | inl own ↦ listed now n e (held-set es n (Some d) l ∙ ap Some own)
        | inr rest ↦ (
            let r = found es e rest in
            let apart : r.0 ≢ n = λ own. (let at = rw own at r.1 in cc) in
            listed now r.0 e (held-else es n r.0 (Some d) apart ∙ r.1))
      ])

  module _ (n : ℕ) (d : Departure) (l : n < length es) (is : held es n ≡ Some d) where
    pub take-order : (k : Key) → d.key ≡ k → HaveDistinctKeys (set es n None) → departures_in_order (set es n None) ≡ filter (λ e. not (is_same e.key k)) (departures_in_order es)
    take-order k own fewer =
        let ds = departures_in_order es in
        let now = set es n None in
        let keeps : Departure → Bool = λ e. not (is_same e.key k) in
        let free = held-set es n None l in
        one-order (departures_in_order now) (filter keeps ds) (ascends now fewer) (filter-ascends keeps ds (ascends es distinct))
        (λ e at.
        let r = found now e at in
        let apart : r.0 ≢ n = λ same. (let here = rw same at r.1 in cc) in
        let was = sym (held-else es n r.0 None apart) ∙ r.1 in
        let other : is_same e.key k ≡ false = not-same e.key k (λ same. apart (distinct r.0 n e d was is (same ∙ sym own))) in
        filter-in keeps ds e (listed es r.0 e was) (rw other refl))
        (λ e at.
        let f = in-filter keeps ds e at in
        let r = found es e f.0 in
        let apart : r.0 ≢ n = λ same. (
        let here = rw same at r.1 in
        let it : e ≡ d = cc in
        let passes = rw (it, own, same-itself k) at f.1 in
        cc) in
        listed now r.0 e (held-else es n r.0 None apart ∙ r.1))

    pub move-order : (k : Key) (time : ℕ) → d.key ≡ k → HaveDistinctKeys (set es n (Some (record d { time = time }))) → departures_in_order (set es n (Some (record d { time = time }))) ≡ moved k time (departures_in_order es)
    move-order k time own still =
        let ds = departures_in_order es in
        let later : Departure = record d { time = time } in
        let now = set es n (Some later) in
        let f = at_time k time in
        let here = held-set es n (Some later) l in
        let change : f d ≡ later = rw (own, same-itself k) refl in
        one-order (departures_in_order now) (moved k time ds) (ascends now still)
        (ordered-ascends (map f ds) (map-keys f ds (at_time-key k time) (keys-of ds (ascends es distinct) one-of-key)))
        (λ e at.
        let r = found now e at in
        in-ordered e (map f ds) (elim (cases_eq r.0 n) [
          | inl same ↦ (
              let there = rw same at r.1 in
              let it : later ≡ e = cc in
              rw (← it, ← change) (map-in f ds d (listed es n d is)))
          | inr apart ↦ (
              let was = sym (held-else es n r.0 (Some later) apart) ∙ r.1 in
              let other = not-same e.key k (λ same. apart (distinct r.0 n e d was is (same ∙ sym own))) in
              let stays : f e ≡ e = rw other refl in
              subst (λ x. IsIn x (map f ds)) stays (map-in f ds e (listed es r.0 e was)))
        ]))
        (λ e at.
        let m = in-map f ds e (ordered-in e (map f ds) at) in
        let r = found es m.0 m.1 in
        elim (cases_eq r.0 n) [
          | inl same ↦ (
              let there = rw same at r.1 in
              let it : m.0 ≡ d = cc in
              listed now n e (here ∙ ap Some (sym change ∙ ap f (sym it) ∙ m.2)))
          | inr apart ↦ (
              let other = not-same m.0.key k (λ same. apart (distinct r.0 n m.0 d r.1 is (same ∙ sym own))) in
              let stays : f m.0 ≡ m.0 = rw other refl in
              listed now r.0 e (held-else es n r.0 (Some later) apart ∙ r.1 ∙ ap Some (sym stays ∙ m.2)))
        ])

  -- where no departure has a key
  module _ (k : Key) (none : IsNewKey es k) where
    other : (d : Departure) → IsIn d (departures_in_order es) → is_same d.key k ≡ false
    other d at = let r = found es d at in not-same d.key k (none r.0 d r.1)

    pub take-none : filter (λ e. not (is_same e.key k)) (departures_in_order es) ≡ departures_in_order es
    take-none = filter-all (λ e. not (is_same e.key k)) (departures_in_order es) (λ d at. rw (other d at) refl)

    pub move-none : (time : ℕ) → moved k time (departures_in_order es) ≡ departures_in_order es
    move-none time =
        ap (in_order leaves_before) (map-all (at_time k time) (departures_in_order es) (λ d at. rw (other d at) refl))
        ∙ order-stays (departures_in_order es) (ascends es distinct)

    pub any-other : list_any (λ d. is_same d.key k) (departures_in_order es) ≡ false
    any-other = any-none (λ d. is_same d.key k) (departures_in_order es) other
