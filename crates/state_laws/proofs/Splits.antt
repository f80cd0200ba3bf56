-- A list at its first element that passes a test, and what holds of calls and events on both sides.
use Rattle.state_laws.proofs.Words.{Contains-append_cases, Contains-append_left, Contains-append_right, inl, inr, get_or, ◌≡◌, ℕ, ◌+◌, ◌≤◌, Bool, true, false, List, [], ◌∷◌, ◌++◌, None}
use Rattle.state_laws.proofs.Words.{refl, ap, ◌≢◌, cases_Bool, AllPairs-append, Contains, ◌⊎◌, All-append, All-cons, All-nil, All-tail, All-head, IfSome_then, All, AllPairs, list_any}
use Rattle.state_laws.proofs.Words.{IfSome, NewCall, new_calls, events_at, live_report, IsRun, HasDistinctLabels, HasReportsInOrder, Call, Event, AllPairs-nil, AllPairs-cons, AllPairs-tail}
use Rattle.state_laws.proofs.Words.{AllPairs-after}
use Rattle.state_laws.proofs.Parts.{All-left, All-right}
use Rattle.state_laws.proofs.Values.{pairs-left, pairs-right}
use Rattle.state_laws.proofs.Extras.{silent-before}
use Rattle.delay_model.specs.Cuts as Cuts

-- the list at the first element that passes
pub record IsSplit (X : Type 0) (p : X → Bool) (xs : List X) : Type 0 where
  pub front : List X
  pub here : X
  pub back : List X
  pub parts : xs ≡ front ++ here ∷ back
  pub passes : p here ≡ true
  pub is_before : Cuts.before p xs ≡ front
  pub is_after : Cuts.after p xs ≡ back
  pub is_from : Cuts.from p xs ≡ here ∷ back
  pub is_up_to : Cuts.up_to p xs ≡ front ++ here ∷ []

pub split-at : (X : Type 0) (p : X → Bool) (xs : List X) → list_any p xs ≡ true → IsSplit X p xs
split-at X p [] h = absurd (cc)
split-at X p (x ∷ xs) h =
    elim (cases_Bool (p x)) [
      | inl hit ↦ record {
        front = [];
        here = x;
        back = xs;
        parts = refl;
        passes = hit;
        is_before = rw hit;
        is_after = rw hit;
        is_from = rw hit;
        is_up_to = rw hit;
      }
      | inr miss ↦
          let s = split-at X p xs (rw miss at h) in
          record {
            front = x ∷ s.front;
            here = s.here;
            back = s.back;
            parts = ap (λ ys. x ∷ ys) s.parts;
            passes = s.passes;
            is_before = rw (miss, s.is_before);
            is_after = rw (miss, s.is_after);
            is_from = rw (miss, s.is_from);
            is_up_to = rw (miss, s.is_up_to);
          }
    ]

-- what stands before the first that passes is passed over
pub from-skip : {X : Type 0} (p : X → Bool) (xs ys : List X) → All (λ x. p x ≡ false) xs → Cuts.from p (xs ++ ys) ≡ Cuts.from p ys
from-skip p [] ys h = refl
from-skip p (x ∷ xs) ys h = rw (All-head (λ x. p x ≡ false) x xs h) (from-skip p xs ys (All-tail (λ x. p x ≡ false) x xs h))

pub pairs-across : {X : Type 0} (R : X → X → Type 0) (xs ys : List X) → AllPairs R (xs ++ ys) → All (λ x. All (R x) ys) xs
pairs-across R [] ys h = All-nil (λ x. All (R x) ys)
pairs-across R (x ∷ xs) ys h = All-cons (λ x. All (R x) ys) x xs (All-right (R x) xs ys (AllPairs-after R [] x _ h)) (pairs-across R xs ys (AllPairs-tail R x _ h))

abbrev pub Differ : Call → Call → Type 0
Differ c d = c.label ≢ d.label

pub distinct-pairs : (cs : List Call) → HasDistinctLabels cs → AllPairs Differ cs
distinct-pairs [] h = AllPairs-nil Differ
distinct-pairs (c ∷ cs) h = AllPairs-cons Differ c cs h.0 (distinct-pairs cs h.1)

pub pairs-distinct : (cs : List Call) → AllPairs Differ cs → HasDistinctLabels cs
pairs-distinct [] h = tt
pairs-distinct (c ∷ cs) h = (AllPairs-after Differ [] c cs h, pairs-distinct cs (AllPairs-tail Differ c cs h))

pub events_at-append : (n route : ℕ) (xs ys : List Call) → events_at n route (xs ++ ys) ≡ events_at n route xs ++ events_at n route ys
events_at-append n route [] ys = refl
events_at-append n route (c ∷ cs) ys = rw (events_at-append n route cs ys)

-- what holds of a list, and of what stands in it in place of a part, holds of the list with that
pub All-swap : {X : Type 0} (P : X → Type 0) (xs ms es ys : List X) → All P (xs ++ (ms ++ ys)) → All P es → All P (xs ++ (es ++ ys))
All-swap P xs ms es ys h k = All-append P xs (es ++ ys) (All-left P xs _ h) (All-append P es ys k (All-right P ms ys (All-right P xs _ h)))

order-right : (ms ys : List Event) → HasReportsInOrder (ms ++ ys) → HasReportsInOrder ys
order-right [] ys h = h
order-right (m ∷ ms) ys h = order-right ms ys h.1

-- reports stay in order where events that are not reported stand in place of others
pub order-swap : (xs ms es ys : List Event) → All (λ v. live_report v ≡ None) es → HasReportsInOrder (xs ++ (ms ++ ys)) → HasReportsInOrder (xs ++ (es ++ ys))
order-swap [] ms es ys silent h = silent-before es ys silent (order-right ms ys h)
order-swap (v ∷ vs) ms es ys silent h = (
  IfSome_then (live_report v) h.0 (λ r all. All-swap (λ w. IfSome (live_report w) (λ s. r ≤ s)) vs ms es ys all (λ k d l. rw (silent k d l) tt)),
  order-swap vs ms es ys silent h.1,
)

-- so are elements that are related
pub pairs-swap : {X : Type 0} (R : X → X → Type 0) (xs ms es ys : List X) → AllPairs R (xs ++ (ms ++ ys)) → AllPairs R es → All (λ x. All (R x) es) xs → All (λ x. All (R x) ys) es → AllPairs R (xs ++ (es ++ ys))
pairs-swap R xs ms es ys h k before after =
    AllPairs-append R xs (es ++ ys) (pairs-left R xs _ h) (AllPairs-append R es ys k (pairs-right R ms ys (pairs-right R xs _ h)) after)
    (λ i d l. All-append (R (get_or xs i d)) es ys (before i d l) (All-right (R (get_or xs i d)) ms ys (pairs-across R xs (ms ++ ys) h i d l)))

-- what stands on one of its sides
pub beside : {X : Type 0} (xs ms ys : List X) (x : X) → Contains (xs ++ (ms ++ ys)) x → (Contains ms x → ⊥) → Contains xs x ⊎ Contains ys x
beside xs ms ys x h out =
    elim (Contains-append_cases xs (ms ++ ys) x h) [
      | inl before ↦ inl before
      | inr later ↦ elim (Contains-append_cases ms ys x later) [ inl between ↦ absurd (out between) | inr after ↦ inr after ]
    ]

pub around : {X : Type 0} (xs ms ys : List X) (x : X) → Contains xs x ⊎ Contains ys x → Contains (xs ++ (ms ++ ys)) x
around xs ms ys x (inl h) = Contains-append_left xs (ms ++ ys) x h
around xs ms ys x (inr h) = Contains-append_right xs (ms ++ ys) x (Contains-append_right ms ys x h)

-- from a call that is reached or not, these calls lead to one that is or not
abbrev pub RunsTo : Bool → List Call → Bool → Type 0
RunsTo live [] on = live ≡ on
RunsTo live (c ∷ cs) on = (c.arrival.live ≡ live) × RunsTo c.departure.live cs on

run-join : (live : Bool) (xs ys : List Call) (on : Bool) → RunsTo live xs on → IsRun on ys → IsRun live (xs ++ ys)
run-join live [] ys on h k = rw h k
run-join live (x ∷ xs) ys on h k = (h.0, run-join x.departure.live xs ys on h.1 k)

run-after : (live : Bool) (ms : List Call) (d : Call) (ys : List Call) → IsRun live (ms ++ d ∷ ys) → IsRun d.departure.live ys
run-after live [] d ys h = h.1
run-after live (m ∷ ms) d ys h = run-after m.departure.live ms d ys h.1

-- a run stays one where calls that are all reached stand between two that are
pub run-swap : (live : Bool) (xs : List Call) (c : Call) (ms es : List Call) (d : Call) (ys : List Call) → c.departure.live ≡ true → d.arrival.live ≡ true → RunsTo true es true → IsRun live ((xs ++ c ∷ []) ++ (ms ++ d ∷ ys)) → IsRun live ((xs ++ c ∷ []) ++ (es ++ d ∷ ys))
run-swap live [] c ms es d ys leaves arrives new h = (h.0, rw leaves (run-join true es (d ∷ ys) true new (arrives, run-after c.departure.live ms d ys h.1)))
run-swap live (x ∷ xs) c ms es d ys leaves arrives new h = (h.0, run-swap x.departure.live xs c ms es d ys leaves arrives new h.1)

pub run-new : (label : ℕ) (cs : List NewCall) → RunsTo true (new_calls label cs) true
run-new label [] = refl
run-new label (c ∷ cs) = (refl, run-new (label + 1) cs)
