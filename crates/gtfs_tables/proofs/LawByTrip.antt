-- The rows of a trip in the order of `stop_sequence`, and the entries of the trip in a list that is in the order of trips and
-- `stop_sequence`: after one row more and its entry they are alike again.
use Rattle.gtfs_tables.proofs.Words.{rules, ◌≡◌, ℕ, ◌<◌, ◌≤◌, List, [], ◌∷◌, ◌++◌, true, false, nat_eq, is_none, if◌then◌else◌, map, All, ◌≢◌, refl, sym, arith, common_steps, All-nil, All-cons, All-head, All-tail, All-weaker, insert_entry, is_at, lookup, CallTimes, Key, key_cmp, in_order, AreDistinct, Rises}
use Rattle.std.proofs.Common.{nat_lt}
use Rattle.std.specs.List.{filter}
use Rattle.feed_tables.specs.Calls.{put}

-- the element behind the last whose number is not greater
abbrev pub put_behind : {X : Type 0} → (X → ℕ) → X → List X → List X
put_behind key x [] = x ∷ []
put_behind key x (y ∷ ys) = if nat_lt (key x) (key y) then x ∷ y ∷ ys else y ∷ put_behind key x ys

-- an element that comes first and one that comes last
put-both : {X : Type 0} (key : X → ℕ) (x y : X) (zs : List X) → put key y (put_behind key x zs) ≡ put_behind key x (put key y zs)
put-both key x y [] = grind arith
put-both key x y (z ∷ zs) = grind (arith, put-both key x y zs)

-- a row more at the end of the table
pub ordered-more : {X : Type 0} (key : X → ℕ) (xs : List X) (x : X) → in_order key (xs ++ x ∷ []) ≡ put_behind key x (in_order key xs)
ordered-more key [] x = refl
ordered-more key (y ∷ xs) x = grind (arith, ordered-more key xs x, put-both)

pub behind-map : {X Y : Type 0} (f : X → Y) (key : Y → ℕ) (x : X) (xs : List X) → map f (put_behind (λ y. key (f y)) x xs) ≡ put_behind key (f x) (map f xs)
behind-map f key x [] = refl
behind-map f key x (y ∷ ys) = grind (arith, behind-map f key x ys)

all-behind : {X : Type 0} (P : X → Type 0) (key : X → ℕ) (x : X) (xs : List X) → All P xs → P x → All P (put_behind key x xs)
all-behind P key x [] h p = All-cons P x [] p h
all-behind P key x (y ∷ ys) h p = grind (arith, all-behind P key x ys, All-cons P, All-head P y ys h, All-tail P y ys h)

-- one more that is not there
pub distinct-behind : {X : Type 0} (key : X → ℕ) (x : X) (xs : List X) → AreDistinct xs → All (λ y. y ≢ x) xs → AreDistinct (put_behind key x xs)
unfolding AreDistinct
distinct-behind key x [] h none = (All-nil (λ y. x ≢ y), tt)
distinct-behind key x (y ∷ ys) h none =
    let rest = distinct-behind key x ys h.1 (All-tail (λ z. z ≢ x) y ys none) in
    let apart = all-behind (λ z. y ≢ z) key x ys h.0 (All-head (λ z. z ≢ x) y ys none) in
    let before = All-weaker (λ z. z ≢ x) (λ z. x ≢ z) (λ z n e. n (sym e)) (y ∷ ys) none in
    grind (arith, rest, apart, before)

-- ---- the entries of a trip

abbrev pub Entry : Type 0
Entry = Key × CallTimes

-- the trip of an entry
abbrev pub entry_trip : Entry → ℕ
entry_trip e = e.0.0

abbrev pub entry_sequence : Entry → ℕ
entry_sequence e = e.0.1

abbrev pub entries_of : List Entry → ℕ → List Entry
entries_of es trip = filter (λ e. nat_eq (entry_trip e) trip) es

-- no entries of trips that come before the first
pub entries-none : (low : ℕ) (es : List Entry) (trip : ℕ) → trip < low → Rises entry_trip low es → entries_of es trip ≡ []
entries-none low [] trip l h = refl
entries-none low (e ∷ es) trip l h = grind (arith, entries-none (entry_trip e) es trip)

-- the trips of the entries do not fall after one entry more
pub insert-rises : (low : ℕ) (es : List Entry) (k : Key) (v : CallTimes) → low ≤ k.0 → is_none (lookup (is_at (key_cmp k)) es) ≡ true → Rises entry_trip low es → Rises entry_trip low (insert_entry key_cmp es k v)
insert-rises low [] k v l n h = (l, tt)
insert-rises low (e ∷ es) k v l n h = grind (arith, common_steps, insert-rises (entry_trip e) es k v)

-- the entries of its trip
pub insert-own : (low : ℕ) (es : List Entry) (k : Key) (v : CallTimes) → is_none (lookup (is_at (key_cmp k)) es) ≡ true → Rises entry_trip low es → entries_of (insert_entry key_cmp es k v) k.0 ≡ put_behind entry_sequence (k, v) (entries_of es k.0)
insert-own low [] k v n h = grind arith
insert-own low (e ∷ es) k v n h = grind (arith, common_steps, insert-own (entry_trip e) es k v, entries-none (entry_trip e) es k.0)

-- and those of another
pub insert-other : (es : List Entry) (k : Key) (v : CallTimes) (trip : ℕ) → nat_eq k.0 trip ≡ false → is_none (lookup (is_at (key_cmp k)) es) ≡ true → entries_of (insert_entry key_cmp es k v) trip ≡ entries_of es trip
insert-other [] k v trip d n = search rules
insert-other (e ∷ es) k v trip d n = grind (arith, common_steps, insert-other es k v trip)

-- no call of the trip has a `stop_sequence` that no entry has
pub new-sequence : (es : List Entry) (k : Key) → is_none (lookup (is_at (key_cmp k)) es) ≡ true → All (λ n. n ≢ k.1) (map entry_sequence (entries_of es k.0))
new-sequence [] k n = All-nil (λ n. n ≢ k.1)
new-sequence (e ∷ es) k n = grind (arith, common_steps, new-sequence es k, All-cons (λ n. n ≢ k.1) (entry_sequence e) (map entry_sequence (entries_of es k.0)))
