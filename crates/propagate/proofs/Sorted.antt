-- Lists in ascending order are unique, by any total order in which elements that tie are one; and so is the order of the keys of events.
use Rattle.propagate.proofs.Words.{◌≡◌, ◌≢◌, Bool, true, false, List, [], ◌∷◌, get_or, refl, sym, ◌∙◌, ap, subst, arith, inl, inr, IsTotalOrder, All, AllPairs, Contains, IsPermutation}
use Rattle.propagate.proofs.Words.{IsSorted, is_lt, is_eq, Ordering, Equal, cond_both, All-nil, All-cons, All-head, All-tail, All-weaker, All-contains, All-contains_itself, AllPairs-filter}
use Rattle.propagate.proofs.Words.{sorted_far, ranks_by, All-permutation, IsPermutation-refl, IsPermutation-sym, IsPermutation-trans, IsPermutation-cons, IsPermutation-middle, Key}
use Rattle.propagate.proofs.Words.{is_before, node_of, keys_total, exact_keys, State, Event, events, live_events, IsTrain, AllPairs-nil, AllPairs-cons, AllPairs-tail, AllPairs-after}
use Rattle.propagate.proofs.Words.{Contains-cases, AreApart, events-apart, key_order, live_keys, IsOrderOf, placed, in_order, suc}
use Rattle.std.specs.Bool.{Decides}
use Rattle.std.proofs.lemmas.Cmp.{tied_itself}
use Rattle.std.proofs.lemmas.Map.Keys.{IsDistinct-IsPermutation}
use Rattle.std.proofs.lemmas.Map.Made.{AllPairs-from_IsDistinct, IsDistinct-from_AllPairs}
use Rattle.mt_base.specs.Order.{key_cmp}
pub use Rattle.edge_rules.proofs.EventChanges.{AllPairs-map}

placed-moves : {X : Type 0} (lt : X → X → Bool) (x : X) (xs : List X) → IsPermutation (x ∷ xs) (placed lt x xs)
placed-moves lt x [] = IsPermutation-refl (x ∷ [])
placed-moves lt x (y ∷ ys) =
    cond_both (lt x y) (x ∷ y ∷ ys) (y ∷ placed lt x ys) (IsPermutation (x ∷ y ∷ ys)) (λ _. IsPermutation-refl (x ∷ y ∷ ys))
    (λ _. IsPermutation-trans _ _ _ (IsPermutation-middle (x ∷ []) y ys) (IsPermutation-cons y _ _ (placed-moves lt x ys)))

pub in_order-moves : {X : Type 0} (lt : X → X → Bool) (xs : List X) → IsPermutation xs (in_order lt xs)
in_order-moves lt [] = IsPermutation-refl []
in_order-moves lt (x ∷ xs) = IsPermutation-trans _ _ _ (IsPermutation-cons x _ _ (in_order-moves lt xs)) (placed-moves lt x (in_order lt xs))

module _ {X : Type 0} {cmp : X → X → Ordering} (total : IsTotalOrder cmp) (exact : (a b : X) → cmp a b ≡ Equal → a ≡ b) where
  abbrev less : X → X → Bool
  less a b = is_lt (cmp a b)

  abbrev IsLess : X → X → Type 0
  IsLess a b = less a b ≡ true

  pub less-trans : (a b c : X) → IsLess a b → IsLess b c → IsLess a c
  less-trans a b c h k = grind (arith, total.trans a b c)

  pub less-itself : (a : X) → less a a ≡ false
  less-itself a = grind (arith, tied_itself total a)

  pub less-asymmetric : (a b : X) → IsLess a b → less b a ≡ false
  less-asymmetric a b h = grind (arith, total.antisymm b a)

  -- of two elements the one is less than the other, where the other is not less than it
  pub less-other : (a b : X) → less b a ≡ false → a ≢ b → IsLess a b
  less-other a b h n = grind (arith, total.antisymm b a, exact a b)

  same-decides : (a b : X) → Decides (is_eq (cmp a b)) (a ≡ b)
  same-decides a b = (λ e. grind (arith, exact a b), λ e. rw e (grind (arith, tied_itself total b)))

  same-flips : (a b : X) → is_eq (cmp a b) ≡ is_eq (cmp b a)
  same-flips a b = grind (arith, total.antisymm a b)

  -- elements that differ, once they are sorted
  pub sorted-ascends : (xs ys : List X) → AllPairs (λ a b. a ≢ b) xs → IsPermutation xs ys → IsSorted cmp ys → AllPairs IsLess ys
  sorted-ascends xs ys differ moved sorted =
      let apart = AllPairs-from_IsDistinct same-decides ys (IsDistinct-IsPermutation (λ a b. is_eq (cmp a b)) same-flips xs ys moved (IsDistinct-from_AllPairs same-decides xs differ)) in
      λ i j d l m. less-other (get_or ys i d) (get_or ys j d) (sorted_far less (ranks_by total (λ x. x)) ys sorted i j d (omega arith) m) (apart i j d l m)

  pub placed-ascends : (x : X) (xs : List X) → All (λ y. x ≢ y) xs → AllPairs IsLess xs → AllPairs IsLess (placed less x xs)
  placed-ascends x [] apart up = AllPairs-cons IsLess x [] (All-nil (IsLess x)) (AllPairs-nil IsLess)
  placed-ascends x (y ∷ ys) apart up =
      let after = AllPairs-after IsLess [] y ys up in
      cond_both (less x y) (x ∷ y ∷ ys) (y ∷ placed less x ys) (AllPairs IsLess)
      (λ sooner. AllPairs-cons IsLess x (y ∷ ys) (All-cons (IsLess x) y ys sooner (All-weaker (IsLess y) (IsLess x) (λ z. less-trans x y z sooner) ys after)) up)
      (λ later.
      let lower = less-other y x later (λ e. All-head (λ y. x ≢ y) y ys apart (sym e)) in
      AllPairs-cons IsLess y (placed less x ys) (All-permutation (IsLess y) (x ∷ ys) (placed less x ys) (placed-moves less x ys) (All-cons (IsLess y) x ys lower after))
      (placed-ascends x ys (All-tail (λ y. x ≢ y) y ys apart) (AllPairs-tail IsLess y ys up)))

  pub in_order-ascends : (xs : List X) → AllPairs (λ a b. a ≢ b) xs → AllPairs IsLess (in_order less xs)
  in_order-ascends [] apart = AllPairs-nil IsLess
  in_order-ascends (x ∷ xs) apart =
      placed-ascends x (in_order less xs) (All-permutation (λ y. x ≢ y) xs (in_order less xs) (in_order-moves less xs) (AllPairs-after (λ a b. a ≢ b) [] x xs apart))
      (in_order-ascends xs (AllPairs-tail (λ a b. a ≢ b) x xs apart))

  -- what comes after the first of a list in order is in another that begins with it, but not at its beginning
  later-in : (x : X) (xs ys : List X) → AllPairs IsLess (x ∷ xs) → All (Contains (x ∷ ys)) (x ∷ xs) → All (Contains ys) xs
  later-in x xs ys up h = λ i d l.
      let own = up 0 (suc i) d (omega arith) (omega arith) in
      let none = less-itself x in
      elim (Contains-cases x ys (get_or xs i d) (h (suc i) d (omega arith))) [ inl same ↦ grind arith | inr there ↦ there ]

  -- two lists in order with the same elements are one
  one-order : (xs ys : List X) → AllPairs IsLess xs → AllPairs IsLess ys → All (Contains ys) xs → All (Contains xs) ys → xs ≡ ys
  one-order [] [] up high h i = refl
  one-order [] (y ∷ ys) up high h i = let l = (All-head (Contains []) y ys i).1 in absurd (omega arith)
  one-order (x ∷ xs) [] up high h i = let l = (All-head (Contains []) x xs h).1 in absurd (omega arith)
  one-order (x ∷ xs) (y ∷ ys) up high h i =
      let a = Contains-cases y ys x (h 0 x (omega arith)) in
      let b = Contains-cases x xs y (i 0 y (omega arith)) in
      let lower = All-contains (IsLess x) xs y (AllPairs-after IsLess [] x xs up) in
      let first : x ≡ y = grind (arith, less-asymmetric x y, All-contains (IsLess y) ys x (AllPairs-after IsLess [] y ys high)) in
      ap (λ z. z ∷ xs) first
      ∙ ap (λ zs. y ∷ zs) (one-order xs ys (AllPairs-tail IsLess x xs up) (AllPairs-tail IsLess y ys high)
      (later-in x xs ys up (subst (λ z. All (Contains (z ∷ ys)) (x ∷ xs)) (sym first) h))
      (later-in x ys xs (subst (λ z. AllPairs IsLess (z ∷ ys)) (sym first) high) (subst (λ z. All (Contains (x ∷ xs)) (z ∷ ys)) (sym first) i)))

  -- elements that differ, put into order, are any list in order with the same elements
  pub order-of : (xs ys : List X) → AllPairs (λ a b. a ≢ b) xs → AllPairs IsLess ys → All (Contains ys) xs → All (Contains xs) ys → in_order less xs ≡ ys
  order-of xs ys differ up h i =
      let moved = in_order-moves less xs in
      one-order (in_order less xs) ys (in_order-ascends xs differ) up (All-permutation (Contains ys) xs (in_order less xs) moved h)
      (All-weaker (Contains xs) (Contains (in_order less xs)) (λ x. All-contains (Contains (in_order less xs)) xs x (All-permutation (Contains (in_order less xs)) (in_order less xs) xs (IsPermutation-sym _ _ moved) (All-contains_itself (in_order less xs)))) ys i)

-- no two live events of a state have one key
pub keys-differ : (st : State) → All IsTrain st.trains → AllPairs (λ a b. a ≢ b) (live_keys (events st))
keys-differ st trains =
    AllPairs-map (λ a b. a ≢ b) (λ (v : Event). v.key) (live_events (events st))
    (λ i j d l m e. AllPairs-filter AreApart (λ (v : Event). v.live) (events st) (events-apart st trains) i j d l m (ap node_of e))

-- the keys of the live events, once they are sorted
pub sorted-order : (st : State) (order : List Key) → All IsTrain st.trains → IsPermutation (live_keys (events st)) order → IsSorted key_cmp order → IsOrderOf (events st) order
unfolding is_before
sorted-order st order trains moved sorted =
    record { moved = moved; ascends = sorted-ascends keys_total exact_keys (live_keys (events st)) order (keys-differ st trains) moved sorted }

-- the order in which the events are settled is the one in which they are listed
pub order-is : (st : State) (order : List Key) → All IsTrain st.trains → IsOrderOf (events st) order → in_order is_before (live_keys (events st)) ≡ order
unfolding is_before
order-is st order trains is =
    let keys = live_keys (events st) in
    order-of keys_total exact_keys keys order (keys-differ st trains) is.ascends
    (All-permutation (Contains order) order keys (IsPermutation-sym _ _ is.moved) (All-contains_itself order))
    (All-permutation (Contains keys) keys order is.moved (All-contains_itself keys))

-- the keys of the live events in their order
pub keys-ordered : (st : State) → All IsTrain st.trains → IsOrderOf (events st) (key_order (events st))
unfolding is_before
keys-ordered st trains =
    let keys = live_keys (events st) in
    record { moved = in_order-moves is_before keys; ascends = in_order-ascends keys_total exact_keys keys (keys-differ st trains) }
