-- The calls that the tables hold: call i of train t stands in row 4 t + i behind the header.
use Rattle.feed_gen_laws.proofs.Words.{CallRow, List, None, Ok, Some, [], ap, append-nil, append_assoc, arith, clock, codes, contents_of, decimal, eq-eqb, files, flat_map, holds, le-leb, map, nat_tests, ne_eqb, number_from, number_of, range_with_len, records_of, refl, row, stop_name, stop_named, strip_bom, suc, sym, table_named, tables-short, texts_below, time_of, trip_ids, trip_name, true, zero, ℕ, ◌%◌, ◌*◌, ◌++◌, ◌+◌, ◌/◌, ◌<◌, ◌∙◌, ◌∷◌, ◌≡◌, ◌≤◌}
use Rattle.std.specs.BTreeMap.{insert_entry, is_at}
use Rattle.std.specs.Map.{lookup}
use Rattle.std.specs.declared.cmp.Ordering.TheVariants.{Greater}
use Rattle.feed_gen.specs.Tables.{call_row, stop_times_table, train_rows}
use Rattle.feed_gen.specs.Trains.{arrival, departure, stop_of}
use Rattle.gtfs_tables.proofs.KeyedLemmas.{insert-behind, lookup-behind}
use Rattle.gtfs_tables.specs.Feeds.{calls_in}
use Rattle.gtfs_tables.specs.StopTimes.{AreBelow, Calls, Key, Named, call_of, call_step, check_order, check_trip, check_trips, is_timed, key_cmp, needed_columns, stop_times_of, with_call}
use Rattle.gtfs_tables.specs.declared.faults.Table.TheVariants as table
use Rattle.feed_gen_laws.proofs.Names.{apart, name-found, plain-name}
use Rattle.feed_gen_laws.proofs.PlainTexts.{plain-clock, plain-decimal}
use Rattle.feed_gen_laws.proofs.Rows.{numbers, one-more}
use Rattle.feed_gen_laws.proofs.Steps.{IsGood, content-holds, domain, table-made}
use Rattle.feed_gen_laws.proofs.Stops.{stop, stop-found}
use Rattle.feed_gen_laws.proofs.Times.{digit-number, time-clock}
use Rattle.feed_gen_laws.proofs.Trips.{ids-of-trips, trip}

-- something of each call, by the number of its row, and the same of the four calls of a train
abbrev pub of_row : {A : Type 0} → (ℕ → ℕ → A) → ℕ → A
of_row f r = f (r / 4) (r % 4)

abbrev pub of_train : {A : Type 0} → (ℕ → ℕ → A) → ℕ → List A
of_train f t = f t 0 ∷ f t 1 ∷ f t 2 ∷ f t 3 ∷ []

-- where a call stands
at-row : {A : Type 0} (f : ℕ → ℕ → A) (t i r : ℕ) → i < 4 → r ≡ 4 * t + i → of_row f r ≡ f t i
at-row f t i r few is =
    let a : r / 4 ≡ t = omega arith in
    let b : r % 4 ≡ i = omega arith in
    λ k. f (a k) (b k)

-- row by row is train by train
pub by-train : {A : Type 0} (f : ℕ → ℕ → A) (t n : ℕ) → map (of_row f) (range_with_len (4 * t) (4 * n)) ≡ flat_map (of_train f) (range_with_len t n)
by-train f t zero = refl
by-train f t (suc n) =
    let many : 4 * suc n ≡ suc (suc (suc (suc (4 * n)))) = omega arith in
    let next : 4 * t + 1 + 1 + 1 + 1 ≡ 4 * (t + 1) = omega arith in
    let one = at-row f t 0 (4 * t) (omega arith) (omega arith) in
    let two = at-row f t 1 (4 * t + 1) (omega arith) (omega arith) in
    let three = at-row f t 2 (4 * t + 1 + 1) (omega arith) (omega arith) in
    let four = at-row f t 3 (4 * t + 1 + 1 + 1) (omega arith) (omega arith) in
    rw (many, next) (λ k. one k ∷ two k ∷ three k ∷ four k ∷ by-train f (t + 1) n k)

-- ---- the text

abbrev call_header : List (List ℕ)
call_header = codes "trip_id" ∷ codes "arrival_time" ∷ codes "departure_time" ∷ codes "stop_id" ∷ codes "stop_sequence" ∷ []

-- the fields of a call
abbrev fields_of : ℕ → ℕ → List (List ℕ)
fields_of t i = trip_name t ∷ clock (arrival t i) ∷ clock (departure t i) ∷ stop_name (stop_of t i) ∷ decimal i ∷ []

four-texts : (a b c d e : List ℕ) → (((a ++ b) ++ c) ++ d) ++ e ≡ a ++ (((b ++ c) ++ d) ++ e)
four-texts a b c d e = simp append_assoc

-- the text, row by row
texts-are : (n : ℕ) → texts_below (λ r. row (of_row fields_of r)) (4 * n) ≡ texts_below train_rows n
unfolding texts_below
texts-are zero = refl
texts-are (suc n) =
    let many : 4 * suc n ≡ suc (suc (suc (suc (4 * n)))) = omega arith in
    let one = at-row call_row n 0 (4 * n) (omega arith) (omega arith) in
    let two = at-row call_row n 1 (suc (4 * n)) (omega arith) (omega arith) in
    let three = at-row call_row n 2 (suc (suc (4 * n))) (omega arith) (omega arith) in
    let four = at-row call_row n 3 (suc (suc (suc (4 * n)))) (omega arith) (omega arith) in
    rw many ((λ k. (((texts-are n k ++ one k) ++ two k) ++ three k) ++ four k)
    ∙ four-texts (texts_below train_rows n) (call_row n 0) (call_row n 1) (call_row n 2) (call_row n 3))

-- ---- a row

-- a call is regular, at one of the hundred stops
abbrev pub call : ℕ → ℕ → CallRow
call t i = record { trip = t; stop = stop_of t i; seq = i; arr = Some (arrival t i); dep = Some (departure t i); board = true; alight = true }

abbrev time : ℕ → ℕ → domain is_timed
time t i = record { row = 4 * t + i + 2; arr = Some (arrival t i); dep = Some (departure t i) }

abbrev entry : ℕ → ℕ → Key × domain is_timed
entry t i = ((t, i), time t i)

-- what so many rows made
abbrev calls_made : ℕ → Calls
calls_made r = record { rows = map (of_row call) (numbers r); by_key = map (of_row entry) (numbers r) }

-- what a row says, by what its fields say
call-read : (named : Named) (number : ℕ) (id arr dep place seq : List ℕ) (t a d p s : ℕ) → number_from 0 id named.trips ≡ Some t → time_of arr ≡ Some (Some a) → time_of dep ≡ Some (Some d) → stop_named named.stops place ≡ Some p → number_of seq ≡ Some s
    → call_of named number id arr dep place seq [] [] ≡ Ok (record { trip = t; stop = p; seq = s; arr = Some a; dep = Some d; board = true; alight = true })
unfolding call_of
call-read named number id arr dep place seq t a d p s h1 h2 h3 h4 h5 = rw (h1, h2, h3, h4, h5) refl

-- a call whose key is above those before it
call-more : (number : ℕ) (c : CallRow) (s : Calls) (rows : List CallRow) (keys : List (Key × domain is_timed)) → AreBelow (c.trip, c.seq) s.by_key → rows ≡ s.rows ++ c ∷ []
    → keys ≡ s.by_key ++ ((c.trip, c.seq), record { row = number; arr = c.arr; dep = c.dep }) ∷ [] → with_call number c s ≡ Ok (record { rows = rows; by_key = keys })
unfolding with_call
call-more number c s rows keys below longer more =
    let none : lookup (is_at (key_cmp (c.trip, c.seq))) s.by_key ≡ None = rw (append-nil s.by_key) at (lookup-behind s.by_key [] (c.trip, c.seq) below) in
    let put : insert_entry key_cmp s.by_key (c.trip, c.seq) (record { row = number; arr = c.arr; dep = c.dep }) ≡ s.by_key ++ ((c.trip, c.seq), record { row = number; arr = c.arr; dep = c.dep }) ∷ [] =
    rw (append-nil s.by_key) at (insert-behind s.by_key [] (c.trip, c.seq) (record { row = number; arr = c.arr; dep = c.dep }) below) in
    rw (none, put, longer, more) refl

-- a later call has a greater key
key-above : (a b c d : ℕ) → b < 4 → d < 4 → 4 * c + d < 4 * a + b → key_cmp (a, b) (c, d) ≡ Greater
key-above a b c d l m less = grind (arith, nat_tests)

keys-below : (r at n : ℕ) → at + n ≤ r → AreBelow (r / 4, r % 4) (map (of_row entry) (range_with_len at n))
keys-below r at zero fits = tt
keys-below r at (suc n) fits = (key-above (r / 4) (r % 4) (at / 4) (at % 4) (omega arith) (omega arith) (omega arith), keys-below r (at + 1) n (omega arith))

abbrev named : ℕ → ℕ → Named
named trains places = record { trips = trip_ids (map trip (numbers trains)); stops = map stop (numbers places) }

call-good : (trains places r : ℕ) → trains ≤ 100000 → places ≡ 100 → r < 4 * trains → IsGood (call_step (named trains places)) call_header (of_row fields_of r) (r + 2) (calls_made r) (calls_made (suc r))
call-good trains places r few are small =
    let t = r / 4 in
    let i = r % 4 in
    let number : r + 2 ≡ 4 * (r / 4) + r % 4 + 2 = omega arith in
    let found : number_from 0 (trip_name t) (trip_ids (map trip (numbers trains))) ≡ Some t = rw (ids-of-trips trains) (name-found trip_name 1000000 (apart 71) trains t (omega arith) (omega arith)) in
    record {
      plain = (plain-name 71 t refl, (plain-clock (arrival t i), (plain-clock (departure t i), (plain-name 83 (stop_of t i) refl, (plain-decimal i, tt)))));
      width = refl;
      steps = rw (
        number,
        call-read (named trains places) (4 * t + i + 2) (trip_name t) (clock (arrival t i)) (clock (departure t i)) (stop_name (stop_of t i)) (decimal i) t (arrival t i) (departure t i) (stop_of t i) i
            found (time-clock (arrival t i) (omega arith)) (time-clock (departure t i) (omega arith)) (stop-found places (stop_of t i) (omega arith) (omega (arith, are))) (digit-number i (omega arith)),
      )
          (call-more (4 * t + i + 2) (call t i) (calls_made r) (map (of_row call) (numbers (suc r))) (map (of_row entry) (numbers (suc r))) (keys-below r 0 r (omega arith)) (one-more (of_row call) r) (one-more (of_row entry) r));
    }

-- ---- the check of the trips

-- a call that is in time
order-more : (before number a d : ℕ) (rest : List (domain is_timed)) → before ≤ a → a ≤ d → check_order before (record { row = number; arr = Some a; dep = Some d } ∷ rest) ≡ check_order d rest
unfolding check_order
order-more before number a d rest h k = rw (le-leb before a h, le-leb a d k) refl

trip-checked : (t : ℕ) → check_trip (of_train time t) ≡ Ok tt
unfolding check_trip check_order
trip-checked t =
    order-more 0 (4 * t + 0 + 2) (arrival t 0) (departure t 0) (time t 1 ∷ time t 2 ∷ time t 3 ∷ []) (omega arith) (omega arith)
    ∙ order-more (departure t 0) (4 * t + 1 + 2) (arrival t 1) (departure t 1) (time t 2 ∷ time t 3 ∷ []) (omega arith) (omega arith)
    ∙ order-more (departure t 1) (4 * t + 2 + 2) (arrival t 2) (departure t 2) (time t 3 ∷ []) (omega arith) (omega arith)
    ∙ order-more (departure t 2) (4 * t + 3 + 2) (arrival t 3) (departure t 3) [] (omega arith) (omega arith)

-- a train's calls are over where those of the next begin
next-checked : (t n : ℕ) → check_trips t (of_train time t) (flat_map (of_train entry) (range_with_len (t + 1) n)) ≡ check_trips (t + 1) [] (flat_map (of_train entry) (range_with_len (t + 1) n))
unfolding check_trips check_trip
next-checked t zero = trip-checked t
next-checked t (suc n) = rw (ne_eqb (t + 1) t (λ e. omega (arith, e)), trip-checked t, eq-eqb (t + 1) (t + 1) refl) refl

all-checked : (t n : ℕ) → check_trips t [] (flat_map (of_train entry) (range_with_len t n)) ≡ Ok tt
unfolding check_trips check_trip
all-checked t zero = refl
all-checked t (suc n) = rw (eq-eqb t t refl) (next-checked t n ∙ all-checked (t + 1) n)

-- the calls of the feed
pub calls-in : (trains : ℕ) (folder : List ℕ) (places : ℕ) → trains ≤ 100000 → places ≡ 100 → calls_in (contents_of (files trains) folder) (map stop (numbers places)) (map trip (numbers trains)) ≡ Ok (map (of_row call) (numbers (4 * trains)))
unfolding calls_in table_named stop_times_of stop_times_table strip_bom
calls-in trains folder places few are =
    let text : List ℕ = stop_times_table trains in
    let there : contents_of (files trains) folder table.StopTimes ≡ holds (records_of text) = content-holds text (tables-short trains folder (codes "stop_times.txt") few) in
    let read = table-made text needed_columns (call_step (named trains places)) call_header (of_row fields_of) calls_made (4 * trains) refl (ap (λ t. row call_header ++ t) (sym (texts-are trains))) ((refl, (refl, (refl, (refl, (refl, tt))))), omega arith) refl (λ r l. call-good trains places r few are (omega arith)) in
    rw (there, read, by-train entry 0 trains, all-checked 0 trains) refl
