-- The live events of a state in the order of their keys.
use Rattle.propagate.proofs.Words.{◌≡◌, Bool, true, List, ◌∷◌, ◌++◌, get_or, subst, inl, inr, All, AllPairs, Contains, filter, All-contains}
use Rattle.propagate.proofs.Words.{All-contains_itself, Contains-append_cases, Contains-permutation, IsPermutation-sym, Key, is_before, node_of, before-itself, before-asymmetric, AllPairs-before}
use Rattle.propagate.proofs.Words.{State, Event, events, live_events, AllPairs-after, Contains-cases, Contains-filter, IsLiveAt, Contains-map, contains-unmap}
use Rattle.propagate.proofs.Words.{StoredTimes, has_time, live_keys, IsOrderOf, arith, elements, All-filter, filter_passes}

-- what an element of a filtered list is
pub filtered : {X : Type 0} (p : X → Bool) (xs : List X) (x : X) → Contains (filter p xs) x → Contains xs x × (p x ≡ true)
filtered p xs x h = (
  All-contains (Contains xs) (filter p xs) x (All-filter p (Contains xs) xs (All-contains_itself xs)) h,
  All-contains (λ x. p x ≡ true) (filter p xs) x (filter_passes p xs) h,
)

-- each live event's key is among the live keys
pub live-keyed : (es : List Event) (k : Key) → IsLiveAt es k → Contains (live_keys es) k
live-keyed es k at = subst (Contains (live_keys es)) at.2 (Contains-map (λ (v : Event). v.key) (live_events es) at.0 (Contains-filter (λ (v : Event). v.live) es at.0 at.1 at.3))

-- and each of these is that of a live event
pub keyed-live : (es : List Event) (k : Key) → Contains (live_keys es) k → IsLiveAt es k
keyed-live es k h =
    let r = contains-unmap (λ (v : Event). v.key) (live_events es) k h in
    let both = filtered (λ (v : Event). v.live) es r.0 r.1 in
    (r.0, both.0, r.2, both.1)

module _ (es : List Event) (order : List Key) (is : IsOrderOf es order) where
  -- each key of the order is that of a live event
  pub key-live : (k : Key) → Contains order k → IsLiveAt es k
  key-live k h = keyed-live es k (Contains-permutation order (live_keys es) k (IsPermutation-sym (live_keys es) order is.moved) h)

  -- and each live event's key is in the order
  pub live-ordered : (k : Key) → IsLiveAt es k → Contains order k
  live-ordered k at = Contains-permutation (live_keys es) order k is.moved (live-keyed es k at)

  module _ (xs : List Key) (k : Key) (ys : List Key) (whole : order ≡ xs ++ k ∷ ys) where
    ascends : AllPairs (λ a b. is_before a b ≡ true) (xs ++ k ∷ ys)
    ascends = subst (AllPairs (λ a b. is_before a b ≡ true)) whole is.ascends

    -- those after a key of the order are after it
    pub each-after : All (λ b. is_before k b ≡ true) ys
    each-after = AllPairs-after (λ a b. is_before a b ≡ true) xs k ys ascends

    -- what is before a key stands before it
    pub stands-before : (q : Key) → IsLiveAt es q → is_before q k ≡ true → Contains xs q
    stands-before q at sooner =
        let none = before-itself k in
        let less = before-asymmetric q k sooner in
        let there = live-ordered q at in
        let after = each-after in
        elim (Contains-append_cases xs (k ∷ ys) q (rw whole at there)) [ inl here ↦ here | inr later ↦ grind (arith, elements, Contains-cases k ys q later) ]

    -- and each key of the order that a key is before stands after it
    pub stands-after : (q : Key) → Contains order q → is_before k q ≡ true → Contains ys q
    stands-after q there later =
        let none = before-itself k in
        let less = before-asymmetric k q later in
        let before = AllPairs-before (λ a b. is_before a b ≡ true) xs k ys ascends in
        elim (Contains-append_cases xs (k ∷ ys) q (rw whole at there)) [ inl here ↦ (let sooner = All-contains (λ w. is_before w k ≡ true) xs q before here in absurd (cc)) | inr after ↦ grind (arith, elements, Contains-cases k ys q after) ]

-- a time is stored for each live event, where one is stored for every event
pub keys-held : (st : State) (times : StoredTimes) (order : List Key) → IsOrderOf (events st) order → All (λ v. has_time times (node_of v.key) ≡ true) (events st) → All (λ k. has_time times (node_of k) ≡ true) order
keys-held st times order is held = λ i d l.
    let at = key-live (events st) order is (get_or order i d) (All-contains_itself order i d l) in
    let own = All-contains (λ v. has_time times (node_of v.key) ≡ true) (events st) at.0 held at.1 in
    grind arith
