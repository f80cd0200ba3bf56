-- A train at the end, in the storage and in the state.
use Rattle.train_nodes.proofs.Words.{◌≡◌, ◌≢◌, ℕ, suc, ◌+◌, ◌<◌, ◌≤◌, ◌-◌, ◌^◌, List, [], ◌∷◌, ◌++◌, Some, length, refl, sym, ◌∙◌, ap, arith, slice_get, map}
use Rattle.train_nodes.proofs.Words.{vec_capacity, Vec, Global, same-gets, cases_eq, length-map, length-append, slice_get_within, slice_get_cases, TableCall}
use Rattle.train_nodes.proofs.Words.{TrainRecord, StoredCall, Inside, walk, call_of, HasNextReports, IsLaid, AreLaid, call_at, loaded_from, loaded_train, with_train}
use Rattle.train_nodes.proofs.Words.{IsPlacedAt, NumberedTrain, slots_from, with_numbered, first_slot, line_of, train_by, trains_by, seen, IsStored, numbered-loaded}
use Rattle.train_nodes.proofs.Words.{State, get-end, last-loaded, loaded-is, length-loaded, loaded-report, cases_lt, get-old}
use Rattle.train_nodes.proofs.Words.{range-get, slots-from, some-of, slice_get_past}
use Rattle.event_numbers.proofs.NumberingLemmas.{train-grown}
use Rattle.train_nodes.proofs.ChangeLemmas.{IsTrainChange, change-anew, change-stored}
use Rattle.train_nodes.proofs.StoredLemmas.{other-seen, seen-length, trains-get}

-- at another place than its end, a list with one more element is as before
push-apart : {X : Type 0} (xs : List X) (x : X) (i : ℕ) → i ≢ length xs → slice_get (xs ++ x ∷ []) i ≡ slice_get xs i
push-apart xs x i ne =
    grind (arith, ne, cases_lt i (length xs), get-old xs (x ∷ []) i, slice_get_past xs i, slice_get_past (xs ++ x ∷ []) i, length-append xs (x ∷ []))

-- a train of the timetable, or an extra one, after its numbers, its calls and its row were pushed
module _ {a : Inside} {number first k : ℕ} (records : Vec TrainRecord Global) (calls : Vec StoredCall Global) (day route : ℕ) (cs : List TableCall) (st : State) (s : IsStored a) (view : seen a ≡ st) (count : number ≡ length st.trains) (used : first ≡ a.slots.used) (added : records.items ≡ a.records.items ++ record { day = day; route = route; len = k } ∷ []) (laid : AreLaid number first cs k a.calls.items calls.items) (row_room : vec_capacity records ≡ vec_capacity a.records) (call_room : vec_capacity calls ≡ vec_capacity a.calls) (two : 2 ≤ k) (some : 0 < st.spare_trains) (enough : k ≤ st.spare_calls) (small : a.slots.used + a.slots.spare_calls < 2 ^ 31) (len : k ≡ length cs) where
  abbrev row : TrainRecord
  row = record { day = day; route = route; len = k }

  abbrev numbers : NumberedTrain
  numbers = record { loaded = k; slots = slots_from a.slots.used k }

  abbrev b : Inside
  b = record a { records = records; calls = calls; slots = with_numbered k a.slots }

  number-is : number ≡ length a.slots.trains
  number-is = omega (arith, count, ap (λ (st : State). length st.trains) view, seen-length a s)

  -- a new call at a place
  new-at : (j : ℕ) → j < k → (c : TableCall) × (x : StoredCall) × (slice_get calls.items (first + j) ≡ Some x) × IsLaid number first k j (call_at k j c) x
  new-at j l = let c = some-of cs j (omega arith) in grind (arith, laid.added j c.0 l c.1, s.calls_count)

  placed : IsPlacedAt calls.items number k (λ j. first + j)
  placed = record {
    line = record {
      calls = λ j l. (let z = new-at j l in grind (arith, z));
      current = λ j x l h. grind (arith, h, new-at j l);
      covers = λ i x h t c.
          let past : first ≤ i = grind (arith, h, t, slice_get_cases a.calls.items i, laid.stay i, s.numbered i, slice_get_past a.slots.trains number, number-is, s.calls_count) in
          (i - first, omega (arith, laid.count, slice_get_within calls.items i x h, s.calls_count), omega arith);
    };
    places = λ j x l h. grind (arith, h, new-at j l);
  }

  -- the new calls from a place on are those of the timetable, and none of them was reported
  new-line : (j slot : ℕ) (ds : List TableCall) → j + length ds ≡ k → ((i p : ℕ) (d : TableCall) → p ≡ j + i → slice_get ds i ≡ Some d → slice_get cs p ≡ Some d) → (0 < length ds → slot ≡ first + j) → (map call_of (walk calls.items (length ds) slot) ≡ loaded_from k j ds) × HasNextReports (walk calls.items (length ds) slot)
  new-line j slot [] e at f = (refl, tt)
  new-line j slot (d ∷ ds) e at f =
      let z = laid.added j d (omega arith) (at 0 j d (omega arith) refl) in
      let later = λ (i p : ℕ) (d : TableCall) (e : p ≡ j + 1 + i). at (suc i) p d (omega arith) in
      let rest = new-line (j + 1) z.0.after ds (omega arith) later (λ more. omega (arith, z.2.after_is)) in
      grind (arith, f (omega arith), z, rest, loaded-report k (j + 1) ds, s.calls_count)

  starts : first ≡ first_slot numbers
  starts = rw (range-get a.slots.used k 0 (omega arith)) (omega arith)

  whole-line : (map call_of (line_of calls.items k numbers) ≡ loaded_from k 0 cs) × HasNextReports (line_of calls.items k numbers)
  whole-line =
      let line = new-line 0 first cs (omega arith) (λ i j d e is. (let same : j ≡ i = omega arith in ap (slice_get cs) same ∙ is)) (λ _. omega arith) in
      grind (arith, line, starts)

  load-change : IsTrainChange a b number 0 k row numbers
  load-change =
      let made : (j : ℕ) → j < k → (y : StoredCall) × (slice_get calls.items (length a.calls.items + j) ≡ Some y) × (y.train ≡ number) × (y.label ≡ 0 + j) = λ j l. (let z = new-at j l in (z.1, grind (arith, z, s.calls_count), z.3.train_is, grind (arith, z.3))) in
      grind (arith, s, number-is, ap length added, length-append a.records.items (row ∷ []), length-append a.slots.trains (numbers ∷ []), rw (← added) at (get-end a.records.items [] row number (omega (arith, number-is, s.records_count))), get-end a.slots.trains [] numbers number number-is, rw (← added) at (push-apart a.records.items row), push-apart a.slots.trains numbers, rw (← number-is) at (train-grown k a.slots), laid.count, laid.stay, made, placed, starts, whole-line, ap length whole-line.0, length-map (line_of calls.items k numbers) call_of, length-loaded k 0 cs, slots-from a.slots.used k, numbered-loaded k 0 cs, last-loaded k 0 cs)

  -- all is stored as before, and one more train is seen
  pub loaded : IsStored b × (seen b ≡ with_train (loaded_train day route cs) st)
  loaded =
      let anew = change-anew load-change in
      let old = trains_by a.calls.items a.records.items a.slots.trains in
      let new : train_by calls.items row numbers ≡ loaded_train day route cs = rw (whole-line.0, len, loaded-is cs, slots-from a.slots.used (length cs)) refl in
      let size = sym (ap length (loaded-is cs)) ∙ length-loaded (length cs) 0 cs ∙ sym len in
      let trains : trains_by calls.items records.items b.slots.trains ≡ old ++ loaded_train day route cs ∷ [] = same-gets _ _ (λ u. grind (arith, cases_eq u number, number-is, seen-length a s, anew, new, push-apart old (loaded_train day route cs) u, get-end old [] (loaded_train day route cs) number, trains-get a.calls.items a.records.items a.slots.trains u, trains-get calls.items records.items b.slots.trains u, λ (q : TrainRecord) (m : NumberedTrain). other-seen a b number row numbers anew u q m)) in
      (change-stored load-change, rw (← view, trains, size) refl)
