-- How many times are kept for each train, where there are two for each label that it has used.
use Rattle.timetable.proofs.Words.{◌≡◌, ℕ, zero, suc, ◌+◌, ◌*◌, ◌<◌, true, false, List, [], ◌∷◌, ◌++◌, Some, map, length, length-append, slice_get, refl, ap, arith, option_map}
use Rattle.timetable.proofs.Words.{All, length-map, length-replicate, map-append, node_of, Train, State, Event, change_train, node_at, events, IsTrain, events-from_each}
use Rattle.timetable.proofs.Words.{trains-each, events_at-each, StoredTimes, has_time, change_at, no_time, AreSized, blank_times, with_train_times, with_labels, next_labels}
use Rattle.std.proofs.lemmas.Option.{slice_get-map}
use Rattle.train_nodes.proofs.TimeLemmas.{held}

abbrev pub twice : ℕ → ℕ
twice n = 2 * n

abbrev pub next_of : Train → ℕ
next_of t = t.next_label

pub length-blank : (labels : ℕ) → length (blank_times labels) ≡ 2 * labels
length-blank labels = length-replicate (2 * labels) no_time

-- there are times for all trains, and of each for all its labels
pub sized-trains : (st : State) (k : StoredTimes) → AreSized (next_labels st) k → length k.trains ≡ length st.trains
sized-trains st k sized =
    let e = ap length sized in
    grind (arith, length-map k.trains length, length-map (next_labels st) twice, length-map st.trains next_of)

pub sized-at : (st : State) (k : StoredTimes) (n : ℕ) (t : Train) → AreSized (next_labels st) k → slice_get st.trains n ≡ Some t → option_map length (slice_get k.trains n) ≡ Some (2 * t.next_label)
sized-at st k n t sized got = grind (arith, slice_get-map length k.trains n, slice_get-map twice (next_labels st) n, slice_get-map next_of st.trains n)

-- a train more, or labels more of a train
pub sized-push : (labels : List ℕ) (k : StoredTimes) (more : ℕ) → AreSized labels k → AreSized (labels ++ more ∷ []) (with_train_times more k)
sized-push labels k more sized = rw (map-append, sized, length-blank, map-append) refl

pub lengths-more : (n more : ℕ) (xss : List (List ℕ)) → map length (change_at n (λ xs. xs ++ blank_times more) xss) ≡ change_at n (λ l. l + 2 * more) (map length xss)
lengths-more n more [] = refl
lengths-more zero more (xs ∷ xss) = rw (length-append, length-blank) refl
lengths-more (suc n) more (xs ∷ xss) = rw (lengths-more n more xss) refl

labels-more : (n more : ℕ) (f : Train → Train) (ts : List Train) → ((t : Train) → (f t).next_label ≡ t.next_label + more) → map twice (map next_of (change_train n f ts)) ≡ change_at n (λ l. l + 2 * more) (map twice (map next_of ts))
labels-more n more f [] h = refl
labels-more zero more f (t ∷ ts) h = let e = h t in grind arith
labels-more (suc n) more f (t ∷ ts) h = rw (labels-more n more f ts h) refl

pub sized-more : (ts : List Train) (k : StoredTimes) (n more : ℕ) (f : Train → Train) → ((t : Train) → (f t).next_label ≡ t.next_label + more) → AreSized (map next_of ts) k → AreSized (map next_of (change_train n f ts)) (with_labels n more k)
sized-more ts k n more f h sized = rw (lengths-more n more k.trains, sized, labels-more n more f ts h) refl

-- no label more
pub labels-kept : (n : ℕ) (f : Train → Train) (ts : List Train) → ((t : Train) → (f t).next_label ≡ t.next_label) → map next_of (change_train n f ts) ≡ map next_of ts
labels-kept n f [] h = refl
labels-kept zero f (t ∷ ts) h = rw (h t) refl
labels-kept (suc n) f (t ∷ ts) h = rw (labels-kept n f ts h) refl

-- there is a time for each event
pub all-held : (st : State) (k : StoredTimes) → All IsTrain st.trains → AreSized (next_labels st) k → All (λ v. has_time k (node_of v.key) ≡ true) (events st)
unfolding events
all-held st k trains sized =
    let P : Event → Type 0 = λ v. has_time k (node_of v.key) ≡ true in
    events-from_each P 0 st.trains (λ i at t e got.
    let same : i ≡ at = omega arith in
    let long = sized-at st k at t sized (rw same at got) in
    events_at-each P (λ c. c.label < t.next_label) at t.route (λ c l. (held k (node_at at c.label false) t.next_label long l, held k (node_at at c.label true) t.next_label long l)) t.calls
    (trains-each IsTrain st.trains trains at at t (omega arith) (rw same at got)).used)
