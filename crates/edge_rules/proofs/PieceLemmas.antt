-- Lists made of pieces, in any order.
use Rattle.edge_rules.proofs.Words.{swap, ◌≡◌, ℕ, zero, suc, ◌<◌, Bool, cond, List, [], ◌∷◌, ◌++◌, append_assoc, flat_map, filter, get_or, length, Option, refl, arith, All, AllPairs, append-nil, ◌≢◌, filter_map, option_map_or, IsPermutation, IsPermutation-append_comm, IsPermutation-append_left, swap_is, set, IsPermutation-refl, IsPermutation-sym, IsPermutation-trans, IsPermutation-append_right, IsPermutation-keeps}

-- two lists before a third in the other order
past : {X : Type 0} (us vs ws : List X) → IsPermutation (us ++ (vs ++ ws)) (vs ++ (us ++ ws))
past us vs ws = simp append_assoc at (IsPermutation-append_left ws (us ++ vs) (vs ++ us) (IsPermutation-append_comm us vs))

module _ {X Y : Type 0} (f : X → List Y) where
  -- an element put at a place, and the piece of the one that stood there before all others
  put-front : (x : X) (xs : List X) (k : ℕ) (d : X) → k < length xs → IsPermutation (f x ++ flat_map f xs) (f (get_or xs k d) ++ flat_map f (set xs k x))
  put-front x [] k d l = absurd (omega arith)
  put-front x (z ∷ zs) zero d l = past (f x) (f z) (flat_map f zs)
  put-front x (z ∷ zs) (suc k) d l =
      IsPermutation-trans _ _ _ (past (f x) (f z) _) (IsPermutation-trans _ _ _ (IsPermutation-append_right (f z) _ _ (put-front x zs k d (omega arith))) (past (f z) (f (get_or zs k d)) _))

  swapped : (xs : List X) (i j : ℕ) → i < length xs → j < length xs → IsPermutation (flat_map f xs) (flat_map f (swap xs i j))
  swapped [] i j l m = absurd (omega arith)
  swapped (x ∷ xs) zero zero l m = IsPermutation-refl _
  swapped (x ∷ xs) zero (suc j) l m = put-front x xs j x (omega arith)
  swapped (x ∷ xs) (suc i) zero l m = put-front x xs i x (omega arith)
  swapped (x ∷ xs) (suc i) (suc j) l m = rw (swap_is xs i j x (omega arith) (omega arith)) (IsPermutation-append_right (f x) _ _ (swapped xs i j (omega arith) (omega arith)))

  -- the pieces of a list in another order
  pub pieces-permuted : (xs ys : List X) → IsPermutation xs ys → IsPermutation (flat_map f xs) (flat_map f ys)
  pieces-permuted xs ys h = IsPermutation-keeps xs (λ l. IsPermutation (flat_map f xs) (flat_map f l)) (IsPermutation-refl _) (λ l i j p q so. IsPermutation-trans _ _ _ so (swapped l i j p q)) ys h

  -- the pieces of those that pass a test
  pub pieces-filter : (p : X → Bool) (xs : List X) → flat_map f (filter p xs) ≡ flat_map (λ x. cond (p x) (f x) []) xs
  pieces-filter p [] = refl
  pieces-filter p (x ∷ xs) = grind (arith, pieces-filter p xs)

  -- the pieces of those that a function gives
  pub pieces-filter_map : {W : Type 0} (g : W → Option X) (ws : List W) → flat_map f (filter_map g ws) ≡ flat_map (λ w. option_map_or f (g w) []) ws
  pieces-filter_map g [] = refl
  pieces-filter_map g (w ∷ ws) = grind (arith, pieces-filter_map g ws)

  -- where the pieces of all elements are empty
  pub pieces-none : (xs : List X) → All (λ x. f x ≡ []) xs → flat_map f xs ≡ []
  pieces-none [] h = refl
  pieces-none (x ∷ xs) h = grind (arith, h 0 x, pieces-none xs (λ i d l. h (suc i) d (omega arith)))

  -- where the elements have the same pieces by another function
  pub pieces-same : (g : X → List Y) (xs : List X) → All (λ x. f x ≡ g x) xs → flat_map f xs ≡ flat_map g xs
  pieces-same g [] h = refl
  pieces-same g (x ∷ xs) h = grind (arith, h 0 x, pieces-same g xs (λ i d l. h (suc i) d (omega arith)))

  -- of elements that differ in a key one alone has a piece
  pub pieces-one : {K : Type 0} (key : X → K) (xs : List X) (s : X) (k : ℕ) → AllPairs (λ a b. key a ≢ key b) xs → k < length xs → get_or xs k s ≡ s → ((x : X) → key x ≢ key s → f x ≡ []) → flat_map f xs ≡ f s
  pieces-one key [] s k rise l at other = absurd (omega arith)
  pieces-one key (x ∷ xs) s zero rise l at other = grind (arith, append-nil, pieces-none xs (λ i d m. grind (arith, other (get_or xs i d), rise 0 (suc i) d)))
  pieces-one key (x ∷ xs) s (suc k) rise l at other = grind (arith, rise 0 (suc k) s, other x, pieces-one key xs s k (λ i j d m n. rise (suc i) (suc j) d (omega arith) (omega arith)))

  -- pieces of two functions
  pub pieces-joined : (g : X → List Y) (xs : List X) → IsPermutation (flat_map (λ x. f x ++ g x) xs) (flat_map f xs ++ flat_map g xs)
  pieces-joined g [] = IsPermutation-refl []
  pieces-joined g (x ∷ xs) =
      simp append_assoc (IsPermutation-append_right (f x) _ _ (IsPermutation-trans _ _ _ (IsPermutation-append_right (g x) _ _ (pieces-joined g xs)) (past (g x) (flat_map f xs) (flat_map g xs))))

module _ {X Y Z : Type 0} (h : X → Y → List Z) where
  -- the pieces of all pairs, by the first of a pair or by the second
  pub pieces-turned : (xs : List X) (ys : List Y) → IsPermutation (flat_map (λ x. flat_map (h x) ys) xs) (flat_map (λ y. flat_map (λ x. h x y) xs) ys)
  pieces-turned [] ys = rw (pieces-none (λ _. []) ys (λ i d l. refl)) (IsPermutation-refl [])
  pieces-turned (x ∷ xs) ys =
      IsPermutation-trans _ _ _ (IsPermutation-append_right (flat_map (h x) ys) _ _ (pieces-turned xs ys)) (IsPermutation-sym _ _ (pieces-joined (h x) _ ys))
