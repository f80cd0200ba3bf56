-- A list in order is told by the departures in it.
use Rattle.dep_order.proofs.Words.{◌≡◌, ℕ, zero, suc, inl, inr, ◌<◌, List, [], ◌∷◌, Bool, true, false, refl, sym, ◌∙◌, ap, arith, cases_Bool, get_or, length, map, Departure, leaves_before, in_order}
use Rattle.std.proofs.Common.{All, filter}
use Rattle.std.specs.List.{AllPairs, list_any}
use Rattle.std.proofs.lemmas.List.Kept.{AllPairs-cons}
use Rattle.dep_order.proofs.OrderLemmas.{before-strict}
use Rattle.dep_order.proofs.SortedLemmas.{Ascends, HaveKeys, IsIn}

-- two lists in order with the same departures are one
pub one-order : (xs ys : List Departure) → Ascends xs → Ascends ys → ((d : Departure) → IsIn d xs → IsIn d ys) → ((d : Departure) → IsIn d ys → IsIn d xs) → xs ≡ ys
one-order [] [] a b f g = refl
one-order [] (y ∷ ys) a b f g = absurd (g y (inl refl))
one-order (x ∷ xs) [] a b f g = absurd (f x (inl refl))
one-order (x ∷ xs) (y ∷ ys) a b f g =
    let s = before-strict in
    let first : x ≡ y = elim (f x (inl refl)) [
      | inl e ↦ sym e
      | inr later ↦ elim (g y (inl refl)) [
        | inl e ↦ e
        | inr sooner ↦ absurd (s.itself x (s.trans x y x (a.0 y sooner) (b.0 x later)))
      ]
    ] in
    let rest : xs ≡ ys = one-order xs ys a.1 b.1
    (λ d k. elim (f d (inr k)) [ inl e ↦ (let low = a.0 d k in absurd (s.itself d (rw (first, e) at low))) | inr r ↦ r ])
    (λ d k. elim (g d (inr k)) [ inl e ↦ (let low = b.0 d k in absurd (s.itself d (rw (← first, e) at low))) | inr r ↦ r ]) in
    cc

-- a list in order is put into order already
pub order-stays : (xs : List Departure) → Ascends xs → in_order leaves_before xs ≡ xs
order-stays [] h = refl
order-stays (x ∷ []) h = refl
order-stays (x ∷ (y ∷ ys)) h = let rest = order-stays (y ∷ ys) h.1 in rw (rest, h.0 y (inl refl)) refl

pub in-at : (xs : List Departure) (i : ℕ) (d : Departure) → i < length xs → IsIn (get_or xs i d) xs
in-at [] i d l = absurd (omega arith)
in-at (x ∷ xs) zero d l = inl refl
in-at (x ∷ xs) (suc i) d l = inr (in-at xs i d (omega arith))

pub all-in : (P : Departure → Type 0) (xs : List Departure) → All P xs → (d : Departure) → IsIn d xs → P d
all-in P [] h d k = absurd k
all-in P (x ∷ xs) h d (inl own) = rw (← own) (h 0 x (omega arith))
all-in P (x ∷ xs) h d (inr rest) = all-in P xs (λ i e l. h (suc i) e (omega arith)) d rest

pub ascends-pairs : (xs : List Departure) → Ascends xs → AllPairs (λ a b. leaves_before a b ≡ true) xs
ascends-pairs [] h = λ i j d l m. absurd (omega arith)
ascends-pairs (x ∷ xs) h = AllPairs-cons (λ a b. leaves_before a b ≡ true) x xs (λ i d l. h.0 (get_or xs i d) (in-at xs i d l)) (ascends-pairs xs h.1)

-- departures that pass a test
pub filter-in : (p : Departure → Bool) (xs : List Departure) (d : Departure) → IsIn d xs → p d ≡ true → IsIn d (filter p xs)
filter-in p [] d k h = k
filter-in p (x ∷ xs) d (inl own) h = rw (own, h) (inl refl)
filter-in p (x ∷ xs) d (inr k) h =
    let rest = filter-in p xs d k h in
    elim (cases_Bool (p x)) [ inl t ↦ rw t (inr rest) | inr f ↦ rw f rest ]

pub in-filter : (p : Departure → Bool) (xs : List Departure) (d : Departure) → IsIn d (filter p xs) → IsIn d xs × (p d ≡ true)
in-filter p [] d k = absurd k
in-filter p (x ∷ xs) d k =
    elim (cases_Bool (p x)) [
      | inl t ↦ elim (rw t at k) [ inl own ↦ (inl own, rw (← own) t) | inr rest ↦ (let r = in-filter p xs d rest in (inr r.0, r.1)) ]
      | inr f ↦ (let r = in-filter p xs d (rw f at k) in (inr r.0, r.1))
    ]

pub filter-ascends : (p : Departure → Bool) (xs : List Departure) → Ascends xs → Ascends (filter p xs)
filter-ascends p [] h = h
filter-ascends p (x ∷ xs) h =
    let rest = filter-ascends p xs h.1 in
    elim (cases_Bool (p x)) [ inl t ↦ rw t ((λ d k. h.0 d (in-filter p xs d k).0), rest) | inr f ↦ rw f rest ]

pub filter-all : (p : Departure → Bool) (xs : List Departure) → ((d : Departure) → IsIn d xs → p d ≡ true) → filter p xs ≡ xs
filter-all p [] h = refl
filter-all p (x ∷ xs) h = rw (h x (inl refl)) (ap (λ ys. x ∷ ys) (filter-all p xs (λ d k. h d (inr k))))

-- departures that were changed
pub map-in : (f : Departure → Departure) (xs : List Departure) (d : Departure) → IsIn d xs → IsIn (f d) (map f xs)
map-in f [] d k = k
map-in f (x ∷ xs) d (inl own) = inl (ap f own)
map-in f (x ∷ xs) d (inr rest) = inr (map-in f xs d rest)

pub in-map : (f : Departure → Departure) (xs : List Departure) (e : Departure) → IsIn e (map f xs) → (d : Departure) × IsIn d xs × (f d ≡ e)
in-map f [] e k = absurd k
in-map f (x ∷ xs) e (inl own) = (x, inl refl, own)
in-map f (x ∷ xs) e (inr rest) = let r = in-map f xs e rest in (r.0, inr r.1, r.2)

pub map-all : (f : Departure → Departure) (xs : List Departure) → ((d : Departure) → IsIn d xs → f d ≡ d) → map f xs ≡ xs
map-all f [] h = refl
map-all f (x ∷ xs) h = let first = h x (inl refl) in let rest = map-all f xs (λ d k. h d (inr k)) in cc

-- different keys of departures in order, which stay different where departures keep them
pub keys-of : (xs : List Departure) → Ascends xs → ((d e : Departure) → IsIn d xs → IsIn e xs → d.key ≡ e.key → d ≡ e) → HaveKeys xs
keys-of [] h one = tt
keys-of (x ∷ xs) h one = (
  (λ d k same. let own = one d x (inr k) (inl refl) same in let low = h.0 d k in absurd (before-strict.itself x (rw own at low))),
  keys-of xs h.1 (λ d e k l. one d e (inr k) (inr l)),
)

pub map-keys : (f : Departure → Departure) (xs : List Departure) → ((d : Departure) → (f d).key ≡ d.key) → HaveKeys xs → HaveKeys (map f xs)
map-keys f [] keep h = tt
map-keys f (x ∷ xs) keep h = (
  (λ d k same. let r = in-map f xs d k in absurd (h.0 r.0 r.1 (sym (keep r.0) ∙ ap (λ (e : Departure). e.key) r.2 ∙ same ∙ keep x))),
  map-keys f xs keep h.1,
)

-- whether one of them passes a test
pub any-in : (p : Departure → Bool) (xs : List Departure) (d : Departure) → IsIn d xs → p d ≡ true → list_any p xs ≡ true
any-in p [] d k h = absurd k
any-in p (x ∷ xs) d (inl own) h = rw (own, h) refl
any-in p (x ∷ xs) d (inr k) h =
    let rest = any-in p xs d k h in
    elim (cases_Bool (p x)) [ inl t ↦ rw t refl | inr f ↦ rw f rest ]

pub any-none : (p : Departure → Bool) (xs : List Departure) → ((d : Departure) → IsIn d xs → p d ≡ false) → list_any p xs ≡ false
any-none p [] h = refl
any-none p (x ∷ xs) h = rw (h x (inl refl)) (any-none p xs (λ d k. h d (inr k)))
