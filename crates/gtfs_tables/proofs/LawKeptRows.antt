-- The rows of a table and the entries of its calls by trip and `stop_sequence`: each trip has the same calls in both, in the same
-- order, for whatever numbering of trips and stops.
use Rattle.gtfs_tables.proofs.Words.{◌≡◌, ℕ, List, [], ◌∷◌, ◌++◌, true, false, Option, nat_eq, is_none, map, refl, arith, common_steps, append-nil, insert_entry, is_at, lookup, CallRow, CallTimes, Key, key_cmp, in_order, sequence, AreDistinct, Rises}
use Rattle.std.proofs.lemmas.List.Elements.{filter-append}
use Rattle.feed_tables.specs.Calls.{rows_of}
use Rattle.gtfs_tables.proofs.LawByTrip.{Entry, entry_trip, entry_sequence, entries_of, ordered-more, behind-map, distinct-behind, insert-rises, insert-own, insert-other, new-sequence}

-- the `stop_sequence`, the arrival and the departure of a call
abbrev pub Facts : Type 0
Facts = ℕ × (Option ℕ × Option ℕ)

abbrev pub row_facts : CallRow → Facts
row_facts r = (r.seq, (r.arr, r.dep))

abbrev pub entry_facts : Entry → Facts
entry_facts e = (e.0.1, (e.1.arr, e.1.dep))

-- the entries are in the order of trips, and those of a trip are its rows in the order of `stop_sequence`, of which no two are equal
pub record IsAlike (rows : List CallRow) (es : List Entry) : Type 0 where
  pub rises : Rises entry_trip 0 es
  pub same : (trip : ℕ) → map row_facts (in_order sequence (rows_of rows trip)) ≡ map entry_facts (entries_of es trip)
  pub distinct : (trip : ℕ) → AreDistinct (map entry_sequence (entries_of es trip))

-- before the first row
pub alike-none : IsAlike [] []
unfolding AreDistinct
alike-none = record { rises = tt; same = λ trip. refl; distinct = λ trip. tt }

-- the key and the times of a row, with its number
abbrev pub key_of : CallRow → Key
key_of r = (r.trip, r.seq)

abbrev pub times_at : ℕ → CallRow → CallTimes
times_at row r = record { row = row; arr = r.arr; dep = r.dep }

own : (rows : List CallRow) (es : List Entry) (row : ℕ) (r : CallRow) → is_none (lookup (is_at (key_cmp (key_of r))) es) ≡ true → IsAlike rows es → map row_facts (in_order sequence (rows_of (rows ++ r ∷ []) r.trip)) ≡ map entry_facts (entries_of (insert_entry key_cmp es (key_of r) (times_at row r)) r.trip)
own rows es row r new h =
    let key : Facts → ℕ = λ f. f.0 in
    grind (
      arith,
      filter-append (λ (x : CallRow). nat_eq x.trip r.trip) rows (r ∷ []),
      ordered-more sequence (rows_of rows r.trip) r,
      behind-map row_facts key r (in_order sequence (rows_of rows r.trip)),
      h.same r.trip,
      behind-map entry_facts key (key_of r, times_at row r) (entries_of es r.trip),
      insert-own 0 es (key_of r) (times_at row r) new h.rises,
    )

other : (rows : List CallRow) (es : List Entry) (row trip : ℕ) (r : CallRow) → nat_eq r.trip trip ≡ false → is_none (lookup (is_at (key_cmp (key_of r))) es) ≡ true → IsAlike rows es → map row_facts (in_order sequence (rows_of (rows ++ r ∷ []) trip)) ≡ map entry_facts (entries_of (insert_entry key_cmp es (key_of r) (times_at row r)) trip)
other rows es row trip r apart new h =
    grind (arith, common_steps, filter-append (λ (x : CallRow). nat_eq x.trip trip) rows (r ∷ []), append-nil (rows_of rows trip), h.same trip, insert-other es (key_of r) (times_at row r) trip apart new)

own-distinct : (es : List Entry) (row : ℕ) (r : CallRow) → is_none (lookup (is_at (key_cmp (key_of r))) es) ≡ true → Rises entry_trip 0 es → AreDistinct (map entry_sequence (entries_of es r.trip)) → AreDistinct (map entry_sequence (entries_of (insert_entry key_cmp es (key_of r) (times_at row r)) r.trip))
own-distinct es row r new rises h =
    let distinct = distinct-behind (λ n. n) r.seq (map entry_sequence (entries_of es r.trip)) h (new-sequence es (key_of r) new) in
    rw (insert-own 0 es (key_of r) (times_at row r) new rises, behind-map entry_sequence (λ n. n) (key_of r, times_at row r) (entries_of es r.trip)) distinct

-- a row more, whose key no earlier row has
pub alike-more : (rows : List CallRow) (es : List Entry) (row : ℕ) (r : CallRow) → is_none (lookup (is_at (key_cmp (key_of r))) es) ≡ true → IsAlike rows es → IsAlike (rows ++ r ∷ []) (insert_entry key_cmp es (key_of r) (times_at row r))
alike-more rows es row r new h = record {
  rises = insert-rises 0 es (key_of r) (times_at row r) (omega arith) new h.rises;
  same = λ trip. grind (arith, own rows es row r new h, λ (a : nat_eq r.trip trip ≡ false). other rows es row trip r a new h);
  distinct = λ trip. grind (arith, own-distinct es row r new h.rises (h.distinct r.trip), insert-other es (key_of r) (times_at row r) trip, h.distinct trip);
}
