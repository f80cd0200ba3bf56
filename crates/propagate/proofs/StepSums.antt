-- Sums over the keys of live events.
use Rattle.propagate.proofs.StepWords.{◌≡◌, ℕ, suc, ◌≤◌, Bool, true, false, cond, List, [], ◌∷◌, map, filter, refl, arith, inl, inr, cases_Bool, All, sum_by, IsPermutation, Key, Event}
use Rattle.propagate.proofs.StepWords.{live_events, live_keys}
use Rattle.std.proofs.lemmas.List.Sums.{sum_by-cons}
use Rattle.std.proofs.lemmas.List.Sorted.{sum_by-IsPermutation}

-- the sum of those that pass, as a sum of all
filter-sum : {X : Type 0} (f : X → ℕ) (p : X → Bool) (xs : List X) → sum_by f (filter p xs) ≡ sum_by (λ x. cond (p x) (f x) 0) xs
filter-sum f p [] = refl
filter-sum f p (x ∷ xs) =
    let rest = filter-sum f p xs in
    let all = sum_by-cons (λ x. cond (p x) (f x) 0) x xs in
    elim (cases_Bool (p x)) [
      | inl h ↦ (let own = rw h at all in rw h (omega (arith, sum_by-cons f x (filter p xs), own, rest)))
      | inr h ↦ (let own = rw h at all in rw h (omega (arith, own, rest)))
    ]

-- a sum over keys is no more than one over the events that pass a test, where the key of another event adds nothing
passed-sum : (f : Key → ℕ) (g : Event → ℕ) (q : Event → Bool) (vs : List Event) → All (λ (v : Event). f v.key ≤ cond (q v) (g v) 0) vs → sum_by f (map (λ (v : Event). v.key) vs) ≤ sum_by g (filter q vs)
passed-sum f g q [] h = omega arith
passed-sum f g q (v ∷ vs) h =
    let first = h 0 v (omega arith) in
    let rest = passed-sum f g q vs (λ i d l. h (suc i) d (omega arith)) in
    let all = sum_by-cons f v.key (map (λ (v : Event). v.key) vs) in
    elim (cases_Bool (q v)) [
      | inl passes ↦ (let own = rw passes at first in rw passes (omega (arith, sum_by-cons g v (filter q vs), all, own, rest)))
      | inr fails ↦ (let own = rw fails at first in rw fails (omega (arith, all, own, rest)))
    ]

cond-le : (a b : Bool) (x y : ℕ) → (a ≡ true → b ≡ true) → x ≤ y → cond a x 0 ≤ cond b y 0
cond-le true b x y h l = rw (h refl) l
cond-le false b x y h l = omega arith

-- what passes among the live keys passes among the events, and adds no more there
pub fewer : (es : List Event) (keys : List Key) → IsPermutation (live_keys es) keys → (f : Key → ℕ) (g : Event → ℕ) (p : Key → Bool) (q : Event → Bool) → All (λ (v : Event). p v.key ≡ true → q v ≡ true) (live_events es) → ((v : Event) → f v.key ≤ g v) → sum_by f (filter p keys) ≤ sum_by g (filter q (live_events es))
fewer es keys moved f g p q h l =
    let own : Key → ℕ = λ k. cond (p k) (f k) 0 in
    omega (arith, filter-sum f p keys, sum_by-IsPermutation own (live_keys es) keys moved, passed-sum own g q (live_events es) (λ i d m. cond-le _ _ _ _ (h i d m) (l _)))
