-- One train stored anew: its row, its numbers and its calls, and nothing of other trains.
use Rattle.train_nodes.proofs.Words.{◌≡◌, ◌≢◌, ℕ, ◌+◌, ◌-◌, ◌<◌, ◌≤◌, ◌⊎◌, inl, inr, Some, length, arith, slice_get, TrainRecord, StoredCall, Inside, vec_capacity}
use Rattle.train_nodes.proofs.Words.{slot_of, NumberedTrain, IsTrainStored, IsCallAt, IsStored, IsGrown, slice_get_cases, slice_get_within}
use Rattle.train_nodes.proofs.StoredLemmas.{IsOneAnew, anew-stored}

-- a train is stored anew: old calls keep their slots, so many new ones of it have the labels from `from` on, and nothing of other trains changes
pub record IsTrainChange (a b : Inside) (t from calls : ℕ) (q : TrainRecord) (m : NumberedTrain) : Type 0 where
  pub before : IsStored a
  pub row : slice_get b.records.items t ≡ Some q
  pub number : slice_get b.slots.trains t ≡ Some m
  pub other_rows : (u : ℕ) → u ≢ t → slice_get b.records.items u ≡ slice_get a.records.items u
  pub other_numbers : (u : ℕ) → u ≢ t → slice_get b.slots.trains u ≡ slice_get a.slots.trains u
  pub grown : IsGrown t from calls a.slots b.slots
  pub count : length b.calls.items ≡ length a.calls.items + calls
  pub old : (i : ℕ) (x : StoredCall) → slice_get a.calls.items i ≡ Some x → (y : StoredCall) × (slice_get b.calls.items i ≡ Some y) × (y.train ≡ x.train) × (y.label ≡ x.label) × (x.train ≢ t → y ≡ x)
  pub made : (j : ℕ) → j < calls → (y : StoredCall) × (slice_get b.calls.items (length a.calls.items + j) ≡ Some y) × (y.train ≡ t) × (y.label ≡ from + j)
  pub own : IsTrainStored b.slots.spare_calls b.calls.items t q.len m
  pub spare : b.slots.spare_calls + calls ≡ a.slots.spare_calls
  pub records_count : length b.records.items ≡ length b.slots.trains
  pub records_room : length b.records.items + b.slots.spare_trains ≤ vec_capacity b.records
  pub capacity : vec_capacity b.calls ≡ vec_capacity a.calls

module _ {a b : Inside} {t from calls : ℕ} {q : TrainRecord} {m : NumberedTrain} (w : IsTrainChange a b t from calls q m) where
  -- each call was there or is new
  each-call : (i : ℕ) (y : StoredCall) → slice_get b.calls.items i ≡ Some y → ((x : StoredCall) × (slice_get a.calls.items i ≡ Some x) × (y.train ≡ x.train) × (y.label ≡ x.label) × (x.train ≢ t → y ≡ x)) ⊎ ((j : ℕ) × (j < calls) × (length a.calls.items + j ≡ i) × (y.train ≡ t) × (y.label ≡ from + j))
  each-call i y h =
      grind (arith, h, slice_get_cases a.calls.items i, w.old i, slice_get_within b.calls.items i y h, w.count, λ (l : length a.calls.items ≤ i). w.made (i - length a.calls.items) (omega (arith, w.count, slice_get_within b.calls.items i y h)))

  pub change-anew : IsOneAnew a b t q m
  change-anew = grind (arith, w, each-call)

  -- all trains are stored
  pub change-stored : IsStored b
  change-stored =
      let s = w.before in
      let numbered : (i : ℕ) (y : StoredCall) → slice_get b.calls.items i ≡ Some y → slot_of b.slots y.train y.label ≡ Some i = λ i y h. grind (arith, each-call i y h, λ (x : StoredCall). w.grown.stays x.train x.label i, s.numbered i, w.grown.made, s.calls_count) in
      let named : (u l i : ℕ) → slot_of b.slots u l ≡ Some i → IsCallAt b.calls.items u l i = λ u l i h. elim (w.grown.only u l i h) [
        | inl was ↦ grind (arith, s.named u l i was, w.old i)
        | inr made ↦ grind (arith, made, w.made made.place made.within, s.calls_count)
      ] in
      grind (arith, w, w.grown, s, numbered, named, anew-stored a b t q m change-anew)
