-- Keys in their order, each of them once: which there are, and that no other list in order has them.
use Rattle.std.proofs.Common.{All, ◌≡◌, ◌≤◌, ◌<◌, ◌||◌, [], ◌∷◌, ◌++◌, true, false, List, Bool, ℕ, suc, refl, sym, ◌∙◌, ap, subst, arith, length, inl, inr, cond}
use Rattle.std.specs.List.{list_any}
use Rattle.std.specs.Ordering.{eq_by_cmp}
use Rattle.std.proofs.lemmas.Bool.{cases_Bool, cond_both, false_from_ne_true}
use Rattle.std.proofs.lemmas.Cmp.{eq_by_cmp_equiv}
use Rattle.std.proofs.lemmas.List.Elements.{All-cons, All-nil, All-weaker}
use Rattle.std.proofs.lemmas.List.Folds.{Any-from_list_any, list_any-append}
use Rattle.std.proofs.lemmas.List.Kept.{AllPairs-cons}
use Rattle.std.proofs.lemmas.Map.Made.{IsDistinct-from_AllPairs, length-le_from_is_member}
use Rattle.mt_base.specs.declared.keys.Key.{Key}
use Rattle.mt_base.specs.Order.{is_before, is_same, key_cmp}
use Rattle.mt_base.proofs.KeyLemmas.{before-asymmetric, before-itself, before-trans, keys_total, same-is, same-itself}
use Rattle.rank_order.specs.InOrder.{in_order, put}
use Rattle.rank_order.specs.Marked.{Ascends, has_key}
use Rattle.rank_order.proofs.InsertLemmas.{RisesTo, higher}
use Rattle.rank_order.proofs.RoomLemmas.{ascend-differ, same-decides}

-- a key that is put among others

put-has : (k : Key) (ks : List Key) (q : Key) → has_key (put k ks) q ≡ (is_same k q || has_key ks q)
put-has k [] q = refl
put-has k (x ∷ xs) q =
    cond_both (is_before x k) (x ∷ put k xs) (cond (is_same x k) (x ∷ xs) (k ∷ x ∷ xs)) (λ ks. has_key ks q ≡ (is_same k q || (is_same x q || has_key xs q)))
    (λ _. ap (λ b. is_same x q || b) (put-has k xs q) ∙ swapped (is_same x q) (is_same k q) (has_key xs q))
    (λ _. cond_both (is_same x k) (x ∷ xs) (k ∷ x ∷ xs) (λ ks. has_key ks q ≡ (is_same k q || (is_same x q || has_key xs q)))
    (λ same. let e = same-is x k same in rw e (twice (is_same k q) (has_key xs q))) (λ _. refl))
  where
    swapped : (a b c : Bool) → (a || (b || c)) ≡ (b || (a || c))
    swapped true true c = refl
    swapped true false c = refl
    swapped false true c = refl
    swapped false false c = refl

    twice : (a b : Bool) → (a || b) ≡ (a || (a || b))
    twice true b = refl
    twice false b = refl

put-all : (P : Key → Type 0) (k : Key) (ks : List Key) → P k → All P ks → All P (put k ks)
put-all P k [] own others = All-cons P k [] own others
put-all P k (x ∷ xs) own others =
    cond_both (is_before x k) (x ∷ put k xs) (cond (is_same x k) (x ∷ xs) (k ∷ x ∷ xs)) (All P)
    (λ _. All-cons P x (put k xs) (others 0 x (omega arith)) (put-all P k xs own (λ i d l. others (suc i) d (omega arith))))
    (λ _. cond_both (is_same x k) (x ∷ xs) (k ∷ x ∷ xs) (All P) (λ _. others) (λ _. All-cons P k (x ∷ xs) own others))

put-ascends : (k : Key) (ks : List Key) → Ascends ks → Ascends (put k ks)
put-ascends k [] up = AllPairs-cons RisesTo k [] (All-nil (RisesTo k)) up
put-ascends k (x ∷ xs) up =
    let after : All (RisesTo x) xs = λ j d l. up 0 (suc j) d (omega arith) (omega arith) in
    cond_both (is_before x k) (x ∷ put k xs) (cond (is_same x k) (x ∷ xs) (k ∷ x ∷ xs)) Ascends
    (λ sooner. AllPairs-cons RisesTo x (put k xs) (put-all (RisesTo x) k xs sooner after) (put-ascends k xs (λ i j d l m. up (suc i) (suc j) d (omega arith) (omega arith))))
    (λ later. cond_both (is_same x k) (x ∷ xs) (k ∷ x ∷ xs) Ascends (λ _. up)
    (λ other. let first = higher x k later other in
    AllPairs-cons RisesTo k (x ∷ xs) (All-cons (RisesTo k) x xs first (All-weaker (RisesTo x) (RisesTo k) (λ y. before-trans k x y first) xs after)) up))

-- keys in their order

pub in_order-has : (ks : List Key) (q : Key) → has_key (in_order ks) q ≡ has_key ks q
unfolding in_order
in_order-has [] q = refl
in_order-has (k ∷ ks) q = put-has k (in_order ks) q ∙ ap (λ b. is_same k q || b) (in_order-has ks q)

pub in_order-all : (P : Key → Type 0) (ks : List Key) → All P ks → All P (in_order ks)
unfolding in_order
in_order-all P [] h = h
in_order-all P (k ∷ ks) h = put-all P k (in_order ks) (h 0 k (omega arith)) (in_order-all P ks (λ i d l. h (suc i) d (omega arith)))

pub in_order-ascends : (ks : List Key) → Ascends (in_order ks)
unfolding in_order
in_order-ascends [] = λ i j d l m. absurd (omega arith)
in_order-ascends (k ∷ ks) = put-ascends k (in_order ks) (in_order-ascends ks)

-- lists in order

pub after-none : (k : Key) (ks : List Key) → All (RisesTo k) ks → (q : Key) → has_key ks q ≡ true → is_before k q ≡ true
after-none k ks after q there =
    let one = Any-from_list_any (λ a. is_same a q) ks there in
    let e = same-is one.1 q one.4 in
    rw e at (subst (RisesTo k) one.3 (after one.0 one.1 one.2))

-- no key that is in a list in order is before its first
none-before : (k : Key) (ks : List Key) → Ascends (k ∷ ks) → (q : Key) → has_key (k ∷ ks) q ≡ true → is_before q k ≡ false
none-before k ks up q there =
    elim (cases_Bool (is_same k q)) [
      | inl own ↦ let e = same-is k q own in rw e (before-itself q)
      | inr other ↦ before-asymmetric k q (after-none k ks (λ j d l. up 0 (suc j) d (omega arith) (omega arith)) q (rw other at there))
    ]

-- the first of a list in order is not in it again
not-again : (k : Key) (ks : List Key) → Ascends (k ∷ ks) → has_key ks k ≡ false
not-again k ks up =
    false_from_ne_true _ (λ there. let first = after-none k ks (λ j d l. up 0 (suc j) d (omega arith) (omega arith)) k there in let none = before-itself k in absurd (cc))

-- two lists in order that have the same keys are one
pub one-order : (xs ys : List Key) → Ascends xs → Ascends ys → ((q : Key) → has_key xs q ≡ has_key ys q) → xs ≡ ys
one-order [] [] up high e = refl
one-order [] (y ∷ ys) up high e = let own = same-itself y in let none = rw own at (e y) in absurd (cc)
one-order (x ∷ xs) [] up high e = let own = same-itself x in let none = rw own at (e x) in absurd (cc)
one-order (x ∷ xs) (y ∷ ys) up high e =
    let own = same-itself x in
    let other = same-itself y in
    let lower = none-before y ys high x (sym (e x) ∙ ap (λ b. b || has_key xs x) own) in
    let upper = none-before x xs up y (e y ∙ ap (λ b. b || has_key ys y) other) in
    let first : x ≡ y = same-is x y (elim (cases_Bool (is_same x y)) [ inl same ↦ same | inr not ↦ (let h = higher x y lower not in absurd (cc)) ]) in
    ap (λ z. z ∷ xs) first ∙ ap (λ zs. y ∷ zs) (one-order xs ys (λ i j d l m. up (suc i) (suc j) d (omega arith) (omega arith)) (λ i j d l m. high (suc i) (suc j) d (omega arith) (omega arith))
    (λ q. elim (cases_Bool (is_same y q)) [
      | inl same ↦ (let s = same-is y q same in rw (← s) (subst (λ z. has_key xs z ≡ false) first (not-again x xs up) ∙ sym (not-again y ys high)))
      | inr not ↦ (let h = rw first at (e q) in rw not at h)
    ]))

-- any list in order that has these keys
pub in_order-is : (ks xs : List Key) → Ascends xs → ((q : Key) → has_key ks q ≡ has_key xs q) → in_order ks ≡ xs
in_order-is ks xs up e = one-order (in_order ks) xs (in_order-ascends ks) up (λ q. in_order-has ks q ∙ e q)

-- keys that are the same make one list in order
pub in_order-same : (ks xs : List Key) → ((q : Key) → has_key ks q ≡ has_key xs q) → in_order ks ≡ in_order xs
in_order-same ks xs e = in_order-is ks (in_order xs) (in_order-ascends xs) (λ q. e q ∙ sym (in_order-has xs q))

-- keys in order, and none besides
pub in_order-alone : (ks : List Key) → Ascends ks → in_order (ks ++ []) ≡ ks
in_order-alone ks up = in_order-is (ks ++ []) ks up (λ q. list_any-append (λ a. is_same a q) ks [] ∙ or-false (has_key ks q))
  where
    or-false : (b : Bool) → (b || false) ≡ b
    or-false true = refl
    or-false false = refl

-- the least key taken out of a list
pub taken : (ks ls : List Key) (k : Key) → All (RisesTo k) ls → ((q : Key) → has_key ks q ≡ (is_same k q || has_key ls q)) → in_order ks ≡ k ∷ in_order ls
taken ks ls k after e =
    in_order-is ks (k ∷ in_order ls) (AllPairs-cons RisesTo k (in_order ls) (in_order-all (RisesTo k) ls after) (in_order-ascends ls)) (λ q. e q ∙ ap (λ b. is_same k q || b) (sym (in_order-has ls q)))

pub append-has : (ks ls : List Key) (q : Key) → has_key (ks ++ ls) q ≡ (has_key ks q || has_key ls q)
append-has ks ls q = list_any-append (λ a. is_same a q) ks ls

-- a key that is in these lists besides
pub one-more : (old new : List Key) (k : Key) → ((q : Key) → has_key new q ≡ (is_same k q || has_key old q)) → (q : Key) → has_key (in_order new) q ≡ (is_same k q || has_key (in_order old) q)
one-more old new k e q = in_order-has new q ∙ e q ∙ ap (λ b. is_same k q || b) (sym (in_order-has old q))

put-length : (k : Key) (ks : List Key) → length (put k ks) ≤ suc (length ks)
put-length k [] = omega arith
put-length k (x ∷ xs) =
    cond_both (is_before x k) (x ∷ put k xs) (cond (is_same x k) (x ∷ xs) (k ∷ x ∷ xs)) (λ ks. length ks ≤ suc (suc (length xs)))
    (λ _. let h = put-length k xs in omega arith)
    (λ _. cond_both (is_same x k) (x ∷ xs) (k ∷ x ∷ xs) (λ ks. length ks ≤ suc (suc (length xs))) (λ _. omega arith) (λ _. omega arith))

pub own-again : (ks : List Key) (k q : Key) → has_key ks k ≡ true → has_key ks q ≡ (is_same k q || has_key ks q)
own-again ks k q there =
    elim (cases_Bool (is_same k q)) [
      | inl own ↦ (let e = same-is k q own in rw own (rw e at there))
      | inr other ↦ rw other refl
    ]

-- there is room for a key that is in these lists besides
pub still-fits : (old new : List Key) (k : Key) (room : ℕ) → ((q : Key) → has_key new q ≡ (is_same k q || has_key old q)) → length (in_order old) ≤ room
    → (has_key (in_order old) k ≡ false → length (in_order old) < room) → length (in_order new) ≤ room
still-fits old new k room e fits less =
    elim (cases_Bool (has_key (in_order old) k)) [
      | inl there ↦ (let same = in_order-is new (in_order old) (in_order-ascends old) (λ q. e q ∙ ap (λ b. is_same k q || b) (sym (in_order-has old q)) ∙ sym (own-again (in_order old) k q there)) in rw same fits)
      | inr none ↦ (let same = in_order-is new (put k (in_order old)) (put-ascends k (in_order old) (in_order-ascends old)) (λ q. e q ∙ ap (λ b. is_same k q || b) (sym (in_order-has old q)) ∙ sym (put-has k (in_order old) q)) in
          rw same (omega (arith, put-length k (in_order old), less none)))
    ]

-- how many keys there are

same-test : (q a : Key) → eq_by_cmp key_cmp q a ≡ is_same a q
same-test q a =
    elim (cases_Bool (is_same a q)) [
      | inl same ↦ (let e = same-is a q same in rw (same, e) ((same-decides q q).1 refl))
      | inr other ↦ rw other (false_from_ne_true _ (λ h. let e = (same-decides q a).0 h in let own = same-itself a in let none = rw e at other in absurd (cc)))
    ]

any-same : (q : Key) (xs : List Key) → list_any (eq_by_cmp key_cmp q) xs ≡ has_key xs q
any-same q [] = refl
any-same q (x ∷ xs) = rw (same-test q x, any-same q xs) refl

-- a list in order is no longer than a list that has its keys
pub no-more : (xs ys : List Key) → Ascends xs → ((q : Key) → has_key xs q ≡ true → has_key ys q ≡ true) → length xs ≤ length ys
no-more xs ys up h =
    length-le_from_is_member (eq_by_cmp_equiv keys_total) xs ys (IsDistinct-from_AllPairs same-decides xs (ascend-differ xs up)) (λ q there. any-same q ys ∙ h q (sym (any-same q xs) ∙ there))
