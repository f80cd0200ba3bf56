-- Places for the numbers of departures: one for each label that a train has used.
use Rattle.timetable.proofs.Words.{◌≡◌, ℕ, zero, suc, ◌+◌, ◌-◌, ◌*◌, ◌<◌, ◌≤◌, List, [], ◌∷◌, ◌++◌, Some, map, length, get_or, slice_get, refl, sym, ◌∙◌, ap, subst, arith}
use Rattle.timetable.proofs.Words.{All, All-contains, Contains, Key, State, Train, Event, events, IsTrain, events-from_each, events_at-each, trains-each, StoredTimes, change_at, with_train_times, with_labels, next_labels, live_keys, HasTimesFor, map-append}
use Rattle.propagate.proofs.{Ordered.keyed-live}
use Rattle.dep_order.specs.Ordered.{HasPlace, KeepsRoom, Ordered}
use Rattle.dep_order.specs.CallNumbering.{StoredNumbers, labels_of, no_number, with_train_numbers}
use Rattle.std.specs.Prelude.{sum}
use Rattle.std.specs.List.{sum_by}
use Rattle.std.proofs.lemmas.List.Sums.{sum-map, sum_by-append, sum_by-cons}
use Rattle.std.proofs.lemmas.Option.{get_or_from_slice_get}
use Rattle.timetable.proofs.Listing.{cut-at}
use Rattle.timetable.proofs.Words.{slice_get_within, take_more}
use Rattle.timetable.proofs.Words.{drop, length-replicate, take}
use Rattle.std.specs.Prelude.{replicate}
use Rattle.timetable.specs.Settled.{AreOfSameLabels, HasPlacesFor}
use Rattle.timetable.proofs.Sized.{lengths-more, next_of, sized-push, twice}

get_or-at : (ts : List Train) (n : ℕ) (t : Train) → slice_get ts n ≡ Some t → get_or (map next_of ts) n 0 ≡ t.next_label
get_or-at [] n t h = absurd (cc)
get_or-at (u ∷ ts) zero t h = cc
get_or-at (u ∷ ts) (suc n) t h = get_or-at ts n t h

-- there is a place for each event
places-each : (st : State) → All IsTrain st.trains → All (λ (v : Event). HasPlace (next_labels st) v.key) (events st)
unfolding events
places-each st trains =
    let P : Event → Type 0 = λ v. HasPlace (next_labels st) v.key in
    events-from_each P 0 st.trains (λ i at t e got.
    let same : i ≡ at = omega arith in
    let own = get_or-at st.trains at t (rw same at got) in
    events_at-each P (λ c. c.label < t.next_label) at t.route (λ c l. (rw own l, rw own l)) t.calls
    (trains-each IsTrain st.trains trains at at t (omega arith) (rw same at got)).used)

pub has-place : (st : State) → All IsTrain st.trains → (k : Key) → Contains (live_keys (events st)) k → HasPlace (next_labels st) k
has-place st trains k there =
    let at = keyed-live (events st) k there in
    subst (HasPlace (next_labels st)) at.2 (All-contains (λ (v : Event). HasPlace (next_labels st) v.key) (events st) at.0 (places-each st trains) at.1)

-- times and places are of the same labels where both are those of a state
pub of-same-labels : {st : State} {times : StoredTimes} {order : Ordered} → HasTimesFor st times → HasPlacesFor st order → AreOfSameLabels times order
of-same-labels h k = record { sized = rw k.labels h.sized; spare_trains = h.spare_trains ∙ sym k.spare_trains; spare_calls = h.spare_calls ∙ sym k.spare_calls }

same-doubled : (xs ys : List ℕ) → map twice xs ≡ map twice ys → xs ≡ ys
same-doubled [] [] h = refl
same-doubled [] (y ∷ ys) h = absurd (cc)
same-doubled (x ∷ xs) [] h = absurd (cc)
same-doubled (x ∷ xs) (y ∷ ys) h =
    let first : 2 * x ≡ 2 * y = ap (λ zs. get_or zs 0 0) h in
    let rest = same-doubled xs ys (cc) in
    let is : x ≡ y = omega arith in
    rw (is, rest) refl

pub places-for : {st : State} {times : StoredTimes} {order : Ordered} → HasTimesFor st times → AreOfSameLabels times order → HasPlacesFor st order
places-for {st = st} {order = order} h k = record {
  labels = same-doubled order.labels (next_labels st) (sym k.sized ∙ h.sized);
  spare_trains = sym k.spare_trains ∙ h.spare_trains;
  spare_calls = sym k.spare_calls ∙ h.spare_calls;
}

-- a train more, or labels more of a train
pub train-more : {times : StoredTimes} {order now : Ordered} (more : ℕ) → AreOfSameLabels times order → now.labels ≡ order.labels ++ more ∷ [] → now.spare_trains ≡ order.spare_trains - 1 → now.spare_calls ≡ order.spare_calls - more → AreOfSameLabels (with_train_times more times) now
train-more {times = times} {order = order} more h labels trains calls = record {
  sized = rw labels (sized-push order.labels times more h.sized);
  spare_trains = rw (trains, h.spare_trains) refl;
  spare_calls = rw (calls, h.spare_calls) refl;
}

doubled-more : (n more : ℕ) (ls : List ℕ) → map twice (change_at n (λ l. l + more) ls) ≡ change_at n (λ l. l + 2 * more) (map twice ls)
doubled-more n more [] = refl
doubled-more zero more (l ∷ ls) = let e : 2 * (l + more) ≡ 2 * l + 2 * more = omega arith in rw e refl
doubled-more (suc n) more (l ∷ ls) = rw (doubled-more n more ls) refl

pub labels-more : {times : StoredTimes} {order now : Ordered} (train more : ℕ) → AreOfSameLabels times order → now.labels ≡ change_at train (λ n. n + more) order.labels → now.spare_trains ≡ order.spare_trains → now.spare_calls ≡ order.spare_calls - more → AreOfSameLabels (with_labels train more times) now
labels-more {times = times} {order = order} train more h labels trains calls = record {
  sized = rw labels (lengths-more train more times.trains ∙ ap (change_at train (λ l. l + 2 * more)) h.sized ∙ sym (doubled-more train more order.labels));
  spare_trains = rw (trains, h.spare_trains) refl;
  spare_calls = rw (calls, h.spare_calls) refl;
}

-- places for the first so many trains, with room for the others and for those that are spare
pub record ArePlacesTo (st : State) (count : ℕ) (k : StoredNumbers) : Type 0 where
  pub labels : labels_of k ≡ take count (next_labels st)
  pub spare_trains : k.spare_trains ≡ (length st.trains - count) + st.spare_trains
  pub spare_calls : k.spare_calls ≡ sum (drop count (next_labels st)) + st.spare_calls

pub none-placed : (st : State) (k : StoredNumbers) → k ≡ record { trains = []; spare_trains = length st.trains + st.spare_trains; spare_calls = sum (next_labels st) + st.spare_calls } → ArePlacesTo st 0 k
none-placed st k is = rw is (record { labels = refl; spare_trains = omega arith; spare_calls = refl })

map-itself : (xs : List ℕ) → map (λ n. n) xs ≡ xs
map-itself [] = refl
map-itself (x ∷ xs) = ap (λ ys. x ∷ ys) (map-itself xs)

own-sum : (xs : List ℕ) → sum xs ≡ sum_by (λ n. n) xs
own-sum xs = let itself = map-itself xs in rw itself at (sum-map (λ n. n) xs)

drop-first : (xs : List ℕ) (n x : ℕ) → slice_get xs n ≡ Some x → drop n xs ≡ x ∷ drop (n + 1) xs
drop-first xs n x h = cut-at xs n x (slice_get_within xs n x h) (sym (get_or_from_slice_get xs n x x h))

sum-first : (xs : List ℕ) (n x : ℕ) → slice_get xs n ≡ Some x → sum (drop n xs) ≡ x + sum (drop (n + 1) xs)
sum-first xs n x h = rw (drop-first xs n x h, own-sum (drop (n + 1) xs)) (own-sum (x ∷ drop (n + 1) xs) ∙ sum_by-cons (λ n. n) x (drop (n + 1) xs))

take-one : (xs : List ℕ) (n x : ℕ) → slice_get xs n ≡ Some x → take (n + 1) xs ≡ take n xs ++ x ∷ []
take-one xs n x h = take_more xs n x (slice_get_within xs n x h) ∙ ap (λ y. take n xs ++ y ∷ []) (get_or_from_slice_get xs n x x h)

sum-push : (xs : List ℕ) (x : ℕ) → sum (xs ++ x ∷ []) ≡ sum xs + x
sum-push xs x = omega (arith, own-sum (xs ++ x ∷ []), own-sum xs, sum_by-append (λ n. n) xs (x ∷ []), sum_by-cons (λ n. n) x [])

-- one more is counted
pub counted-more : (st : State) (n x : ℕ) → slice_get (next_labels st) n ≡ Some x → sum (take (n + 1) (next_labels st)) ≡ sum (take n (next_labels st)) + x
counted-more st n x h = rw (take-one (next_labels st) n x h) (sum-push (take n (next_labels st)) x)

-- one more has its places
module _ {st : State} {n x : ℕ} {k : StoredNumbers} (h : ArePlacesTo st n k) (own : slice_get (next_labels st) n ≡ Some x) (there : n < length st.trains) where
  pub places-fit : x ≤ k.spare_calls
  places-fit = omega (arith, sum-first (next_labels st) n x own, h.spare_calls)

  pub places-more : (after : StoredNumbers) → after ≡ with_train_numbers x k → ArePlacesTo st (n + 1) after
  places-more after is = rw is (record {
    labels = map-append length k.trains (replicate x no_number ∷ []) ∙ ap (λ ls. ls ++ length (replicate x no_number) ∷ []) h.labels ∙ ap (λ l. take n (next_labels st) ++ l ∷ []) (length-replicate x no_number) ∙ sym (take-one (next_labels st) n x own);
    spare_trains = omega (arith, h.spare_trains);
    spare_calls = omega (arith, sum-first (next_labels st) n x own, h.spare_calls);
  })

pub places-kept : {st : State} {a b : Ordered} → HasPlacesFor st a → KeepsRoom a b → HasPlacesFor st b
places-kept h k = record { labels = k.labels ∙ h.labels; spare_trains = k.spare_trains ∙ h.spare_trains; spare_calls = k.spare_calls ∙ h.spare_calls }
