-- The keys of live events, train by train.
use Rattle.timetable.proofs.Words.{◌≡◌, ◌∙◌, ℕ, suc, ◌+◌, ◌<◌, List, [], ◌∷◌, ◌++◌, true, Option, None, Some, IfSome, ◌≤◌, length-map, length-filter, count_by-le-length, length, drop, get_or, slice_get, refl, sym, ap, arith, inl, inr, option_map_or}
use Rattle.timetable.proofs.Words.{All, All-filter, All-map, map-append, filter-append, node_of, Key, State, Train, Event, events, events_from, events_of}
use Rattle.timetable.proofs.Words.{live_events, live_keys, IsTrain, train_events, StoredTimes, has_time, HasTimesFor}
use Rattle.std.proofs.Math.Seq.{drop-cons}
use Rattle.std.proofs.lemmas.Option.{slice_get_cases}
use Rattle.std.specs.Prelude.{IfNone}
use Rattle.edge_rules.proofs.Taken.{IsTaken}
use Rattle.timetable.proofs.{Sized.all-held}

pub live_keys-append : (es fs : List Event) → live_keys (es ++ fs) ≡ live_keys es ++ live_keys fs
live_keys-append es fs = rw (filter-append, map-append) refl

-- a list is cut at one of its elements
pub cut-at : {X : Type 0} (xs : List X) (i : ℕ) (x : X) → i < length xs → x ≡ get_or xs i x → drop i xs ≡ x ∷ drop (i + 1) xs
cut-at xs i x l is =
    let next : suc i ≡ i + 1 = omega arith in
    drop-cons xs i x l ∙ ap (λ y. y ∷ drop (suc i) xs) (sym is) ∙ ap (λ j. x ∷ drop j xs) next

-- the trains from one on are that one and those after it
pub train-first : {X : Type 0} (ts : List X) (n : ℕ) → n < length ts → (t : X) × (slice_get ts n ≡ Some t) × (drop n ts ≡ t ∷ drop (n + 1) ts)
train-first ts n l = elim (slice_get_cases ts n).1 [ inl r ↦ (r.0, r.2, cut-at ts n r.0 l (sym r.3)) | inr none ↦ absurd (omega arith) ]

pub keys-from : (st : State) (n : ℕ) → n < length st.trains → live_keys (events_from n (drop n st.trains)) ≡ live_keys (train_events st n) ++ live_keys (events_from (n + 1) (drop (n + 1) st.trains))
keys-from st n l =
    let r = train-first st.trains n l in
    rw (r.2, live_keys-append, r.1) refl

first : (ts : List Train) → live_keys (events_from 0 ts) ≡ live_keys (option_map_or (events_of 0) (slice_get ts 0) []) ++ live_keys (events_from 1 (drop 1 ts))
first [] = refl
first (t ∷ ts) = live_keys-append (events_of 0 t) (events_from 1 ts)

-- all are those of the first train and those from the second on
pub keys-first : (st : State) → live_keys (events st) ≡ live_keys (train_events st 0) ++ live_keys (events_from 1 (drop 1 st.trains))
unfolding events
keys-first st = first st.trains

-- there is a time for each live event
pub live-held : (st : State) (times : StoredTimes) → All IsTrain st.trains → HasTimesFor st times → All (λ k. has_time times (node_of k) ≡ true) (live_keys (events st))
live-held st times trains has =
    All-map (λ k. has_time times (node_of k) ≡ true) (λ (v : Event). v.key) (live_events (events st)) (All-filter (λ (v : Event). v.live) (λ v. has_time times (node_of v.key) ≡ true) (events st) (all-held st times trains has.sized))

-- the first of a part is taken, if there is one
pub taken-next : {X : Type 0} (all ks left rest : List X) (o : Option X) → all ≡ ks ++ rest → IfSome o (λ k. ks ≡ k ∷ left) → IfNone o (ks ≡ []) → IfNone o (left ≡ []) → IsTaken all o left rest
taken-next all ks left rest None e some none empty = (rw none at e, empty)
taken-next all ks left rest (Some k) e some none empty = rw some at e

-- and where none was left of a part, the first of the next train's
pub taken-train : (st : State) (n m : ℕ) (all : List Key) (es later : List Event) (o : Option Key) → n < length st.trains → m ≡ n → all ≡ live_keys (events_from n (drop n st.trains)) → es ≡ train_events st m
    → IfSome o (λ k. live_keys es ≡ k ∷ live_keys later) → IfNone o (live_keys es ≡ []) → IfNone o (live_keys later ≡ []) → IsTaken all o (live_keys later) (live_keys (events_from (n + 1) (drop (n + 1) st.trains)))
taken-train st n m all es later o l same rest own some none empty =
    let whole : live_keys (train_events st n) ≡ live_keys es = rw (own, same) refl in
    taken-next all (live_keys es) (live_keys later) _ o (rest ∙ keys-from st n l ∙ ap (λ ks. ks ++ live_keys (events_from (n + 1) (drop (n + 1) st.trains))) whole) some none empty

pub live-few : (es : List Event) → length (live_keys es) ≤ length es
live-few es = omega (arith, length-map (live_events es) (λ (v : Event). v.key), length-filter (λ (v : Event). v.live) es, count_by-le-length (λ (v : Event). v.live) es)
