-- Walks along the departures of a bucket.
use Rattle.dep_order.proofs.Words.{◌≡◌, ◌≢◌, ◌+◌, ◌<◌, ◌≤◌, ℕ, zero, suc, inl, inr, List, [], ◌∷◌, Option, Some, None, Bool, true, false, cond, refl, sym, ◌∙◌, ap, arith, cases_Bool, cases_lt, count_by, option_map_or, slice_get, Departure, held, IsFirst, IsFirstAt, IsNext, IsReached, nobody, leaves_before, IsAhead, nat_le, nat_tests}
use Rattle.std.proofs.lemmas.List.Sums.{sum_by-cons}
use Rattle.dep_order.proofs.OrderLemmas.{IsStrict, before-strict}
use Rattle.dep_order.proofs.LinkLemmas.{some-or-none}
pub use Rattle.dep_order.specs.Linked.{count_of, left}

count-cons : {X : Type 0} (p : X → Bool) (x : X) (xs : List X) → count_by p (x ∷ xs) ≡ cond (p x) 1 0 + count_by p xs
count-cons p x xs = sum_by-cons (λ x. cond (p x) 1 0) x xs

no-more : {X : Type 0} (p q : X → Bool) (xs : List X) → ((x : X) → p x ≡ true → q x ≡ true) → count_by p xs ≤ count_by q xs
no-more p q [] h = omega arith
no-more p q (x ∷ xs) h = let rest = no-more p q xs h in grind (arith, h x, count-cons p x xs, count-cons q x xs)

fewer : {X : Type 0} (p q : X → Bool) (xs : List X) (i : ℕ) (x : X) → ((x : X) → p x ≡ true → q x ≡ true) → slice_get xs i ≡ Some x → p x ≡ false → q x ≡ true → count_by p xs < count_by q xs
fewer p q [] i x h at fails passes = absurd (cc)
fewer p q (y ∷ ys) zero x h at fails passes = let is : y ≡ x = cc in let rest = no-more p q ys h in grind (arith, count-cons p y ys, count-cons q y ys)
fewer p q (y ∷ ys) (suc i) x h at fails passes = let rest = fewer p q ys i x h at fails passes in grind (arith, h y, count-cons p y ys, count-cons q y ys)

pub held-get : (es : List (Option Departure)) (i : ℕ) (d : Departure) → held es i ≡ Some d → slice_get es i ≡ Some (Some d)
held-get [] i d h = absurd (cc)
held-get (e ∷ es) zero d h = ap Some h
held-get (e ∷ es) (suc i) d h = held-get es i d h

past-both : (lt : Departure → Departure → Bool) → IsStrict lt → (a f : Departure) → lt a f ≡ true → (o : Option Departure) → option_map_or (lt f) o false ≡ true → option_map_or (lt a) o false ≡ true
past-both lt strict a f h None k = k
past-both lt strict a f h (Some e) k = strict.trans a f e h k

module _ (lt : Departure → Departure → Bool) (strict : IsStrict lt) (bucket : Departure → ℕ) (es : List (Option Departure)) (b : ℕ) where
  not-itself : (a : Departure) → lt a a ≡ false
  not-itself a = elim (cases_Bool (lt a a)) [ inl h ↦ absurd (strict.itself a h) | inr h ↦ h ]

  -- one further there are fewer left
  pub left-falls : (i n : ℕ) (a : Departure) → held es i ≡ Some a → IsNext lt bucket es b (Some a) n → left lt es n < left lt es i
  left-falls i n a at x =
      elim (some-or-none (held es n)) [
        | inr gone ↦ rw (at, gone) (omega arith)
        | inl f ↦ (
            let after = (x.there f.0 f.1).1 in
            let less = fewer (λ (o : Option Departure). option_map_or (lt f.0) o false) (λ (o : Option Departure). option_map_or (lt a) o false) es n (Some f.0) (past-both lt strict a f.0 after) (held-get es n f.0 f.1) (not-itself f.0) after in
            rw (at, f.1) (omega arith))
      ]

  -- where a walk begins
  pub reach-first : (passes : Departure → Bool) (n : ℕ) → IsNext lt bucket es b None n → IsReached lt bucket es b passes n
  reach-first passes n x = record { ends = x.ends; mine = λ e at. (x.there e at).0; rest = λ i e at mine h. x.rest i e at mine refl }

  -- one further, past one that does not pass
  pub reach-next : (passes : Departure → Bool) (i n : ℕ) (a : Departure) → IsReached lt bucket es b passes i → held es i ≡ Some a → passes a ≡ false → IsNext lt bucket es b (Some a) n → IsReached lt bucket es b passes n
  reach-next passes i n a r is fails x =
      record {
        ends = x.ends;
        mine = λ e at. (x.there e at).0;
        rest = λ j e at mine h. elim (r.rest j e at mine h) [
          | inl own ↦ (let k = rw own at at in let same : e ≡ a = cc in let k = ap passes same in absurd (cc))
          | inr past ↦ x.rest j e at mine (rw is at past)
        ];
      }

  pub reach-held : (passes : Departure → Bool) (n : ℕ) → IsReached lt bucket es b passes n → n ≢ nobody → (a : Departure) × (held es n ≡ Some a) × (bucket a ≡ b)
  reach-held passes n r some =
      elim (some-or-none (held es n)) [ inl f ↦ (f.0, f.1, r.mine f.0 f.1) | inr gone ↦ absurd (some (r.ends gone)) ]

  -- a walk does not end before one that passes
  pub reach-some : (passes : Departure → Bool) (n k : ℕ) (f : Departure) → held es nobody ≡ None → IsReached lt bucket es b passes n → held es k ≡ Some f → bucket f ≡ b → passes f ≡ true → n ≢ nobody
  reach-some passes n k f none r at mine h end =
      let last = ap (held es) end ∙ none in
      elim (r.rest k f at mine h) [ inl own ↦ (let e = rw own at at in cc) | inr past ↦ (let e = rw last at past in cc) ]

  -- where a walk from a departure on stands at one that comes after it, it is the next
  pub reach-gap : (d a : Departure) (n : ℕ) → IsReached lt bucket es b (lt d) n → held es n ≡ Some a → lt d a ≡ true → IsNext lt bucket es b (Some d) n
  reach-gap d a n r is after =
      record {
        ends = r.ends;
        there = λ e at. let same : a ≡ e = cc in (r.mine e at, rw (← same) after);
        rest = λ i e at mine h. r.rest i e at mine h;
      }

  -- the one before the next
  pub gap-beside : (d a : Departure) (n p : ℕ) → ((i : ℕ) (e : Departure) → held es i ≡ Some e → e.key ≢ d.key) → IsNext lt bucket es b (Some d) n → held es n ≡ Some a → IsNext (λ x y. lt y x) bucket es b (Some a) p → IsNext (λ x y. lt y x) bucket es b (Some d) p
  gap-beside d a n p new u is x =
      let t = u.there a is in
      record {
        ends = x.ends;
        there = λ e at.
            let s = x.there e at in (
              s.0,
              elim (cases_Bool (lt d e)) [
                | inr h ↦ strict.either d e (λ k. new p e at (sym k)) h
                | inl h ↦ elim (u.rest p e at s.0 h) [
                  | inl own ↦ (let k = rw own at at in let same : e ≡ a = cc in absurd (strict.itself a (rw same at s.1)))
                  | inr past ↦ (let k = rw is at past in absurd (strict.itself a (strict.trans a e a k s.1)))
                ]
              ],
            );
        rest = λ i e at mine h. x.rest i e at mine (strict.trans e d a h t.1);
      }

  -- a bucket that has no first has none
  pub bucket-empty : held es nobody ≡ None → IsNext lt bucket es b None nobody → (i : ℕ) (e : Departure) → held es i ≡ Some e → bucket e ≡ b → ⊥
  bucket-empty none x i e at mine =
      elim (x.rest i e at mine refl) [ inl own ↦ (let k = rw own at at in cc) | inr past ↦ (let k = rw none at past in cc) ]

  pub gap-empty : (d : Departure) → held es nobody ≡ None → ((i : ℕ) (e : Departure) → held es i ≡ Some e → bucket e ≡ b → ⊥) → IsNext lt bucket es b (Some d) nobody
  gap-empty d none h = record { ends = λ e. refl; there = λ e at. absurd (cc); rest = λ i e at mine k. absurd (h i e at mine) }

-- the first of those that pass a test
module _ (bucket : Departure → ℕ) (es : List (Option Departure)) (apart : (a e : Departure) → bucket a < bucket e → leaves_before a e ≡ true) where
  pub first-found : (b : ℕ) (passes : Departure → Bool) (n : ℕ) (a : Departure) → IsReached leaves_before bucket es b passes n → held es n ≡ Some a → passes a ≡ true → ((i : ℕ) (e : Departure) → held es i ≡ Some e → passes e ≡ true → b ≤ bucket e) → IsFirstAt es passes n
  first-found b passes n a r is h low =
      record {
        departure = a;
        there = is;
        passes_is = h;
        others = λ i e at k.
            let own = r.mine a is in
            let l = low i e at k in
            elim (cases_lt b (bucket e)) [
              | inl less ↦ inr (apart a e (omega arith))
              | inr most ↦ elim (r.rest i e at (omega arith) k) [ inl same ↦ inl same | inr past ↦ inr (rw is at past) ]
            ];
      }

  first-same : (p q : Departure → Bool) (o : Option ℕ) → ((i : ℕ) (e : Departure) → held es i ≡ Some e → p e ≡ q e) → IsFirst es p o → IsFirst es q o
  first-same p q None h x = λ i e at. sym (h i e at) ∙ x i e at
  first-same p q (Some n) h x =
      record {
        departure = x.departure;
        there = x.there;
        passes_is = sym (h n x.departure x.there) ∙ x.passes_is;
        others = λ i e at k. x.others i e at (h i e at ∙ k);
      }

  -- it is that of the later buckets, where a walk ended
  pub first-later : (b : ℕ) (passes : Departure → Bool) (n : ℕ) (o : Option ℕ) → held es nobody ≡ None → n ≡ nobody → IsAhead bucket es b passes n → IsFirst es (λ e. nat_le (b + 1) (bucket e)) o → IsFirst es passes o
  first-later b passes n o none end w x =
      first-same (λ e. nat_le (b + 1) (bucket e)) passes o (λ i e at. elim (cases_Bool (passes e)) [
        | inl h ↦ (
            let low = w.low i e at h in
            let far : bucket e ≢ b = λ own. reach-some leaves_before before-strict bucket es b passes n i e none w.reached at own h end in
            grind (arith, nat_tests))
        | inr h ↦ (
            let most : bucket e ≤ b = elim (cases_lt b (bucket e)) [ inl less ↦ (let k = w.high i e at less in absurd (cc)) | inr most ↦ most ] in
            grind (arith, nat_tests))
      ]) x

  pub first-ahead : (b : ℕ) (passes : Departure → Bool) (n : ℕ) → n ≢ nobody → IsAhead bucket es b passes n → IsFirstAt es passes n
  first-ahead b passes n some w =
      let f = reach-held leaves_before before-strict bucket es b passes n w.reached some in
      first-found b passes n f.0 w.reached f.1 (w.passes_is f.0 f.1) w.low
