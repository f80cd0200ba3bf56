-- What the look-ups of stored trains read.
use Rattle.train_nodes.proofs.Words.{zero, [], ◌∷◌, Bool, true, false, Option, option_or, Node, Call, after, is_call, node_at, events_at, is_event}
use Rattle.train_nodes.proofs.Words.{first_report, live_report, report_of, next_report_of, HasNextReports, IsFirst, report_after, nat_eq-same, name-test}
use Rattle.train_nodes.proofs.Words.{option_map, ◌≡◌, ◌≢◌, ℕ, suc, ◌+◌, ◌-◌, ◌<◌, ◌≤◌, List, IsTrue, length, get_or, refl, sym, ◌∙◌, ap, arith, Some, None}
use Rattle.train_nodes.proofs.Words.{slice_get, map, vec_capacity, length-map, slice_get_within, slice_get_cases, slice_get-map, slice_get_read, State}
use Rattle.train_nodes.proofs.Words.{calls_of, HasDistinctLabels, TrainRecord, StoredCall, Inside, first_label, label_after, label_before, call_of}
use Rattle.train_nodes.proofs.Words.{IsCurrentAt, HasNoCurrent, NumberedTrain, line_of, seen, IsStored, label_after-at, label_before-at, label_before-none}
use Rattle.train_nodes.proofs.Words.{some-of, live-named, into-each, into-rises, from-each, from-rises}
use Rattle.call_lines.specs.Calls.{has_call}
use Rattle.std.proofs.lemmas.Option.{gets}
use Rattle.train_nodes.proofs.StoredLemmas.{trains-get, IsRowAt, seen-length, row-numbered, row-stored, row-train, row-calls, row-line, IsFound, found}
use Rattle.train_nodes.proofs.StoredLemmas.{none-named}

-- the labels of a train differ
pub distinct-seen : (a : Inside) (st : State) (t : ℕ) → IsStored a → seen a ≡ st → HasDistinctLabels (calls_of st t)
distinct-seen a st t s v =
    let labels : (r : TrainRecord) (n : NumberedTrain) → IsRowAt a t r n → HasDistinctLabels (map call_of (line_of a.calls.items r.len n)) = λ r n w. (row-stored a t r n w).labels.distinct in
    rw (← v) (grind (arith, s, trains-get a.calls.items a.records.items a.slots.trains t, labels))

-- a call that is there has a slot
pub missing-read : {a : Inside} {st : State} {cs : List StoredCall} (t l : ℕ) → IsStored a → seen a ≡ st → cs ≡ a.calls.items → HasNoCurrent cs a.slots t l → IsTrue (has_call st t l) → ⊥
missing-read {a} t l s v e c there = let none = rw (← v, none-named a t l s (rw e at c)) at there in absurd (cc)

-- the first call of a train has the label 0
pub first-read : (a : Inside) (t : ℕ) → IsStored a → t < length a.slots.trains → first_label (calls_of (seen a) t) ≡ Some 0
first-read a t s l =
    let n = some-of a.slots.trains t l in
    let w = row-numbered a t n.0 s n.1 in
    let own = row-stored a t w.0 n.0 w.1 in
    let line = line_of a.calls.items w.0.len n.0 in
    let z = some-of n.0.slots 0 (omega (arith, own.labels.some, own.labels.count)) in
    rw (row-calls a t w.0 n.0 w.1, slice_get-map call_of line 0)
    (grind (arith, n, own.begins, own.labels, z, s.named t 0 z.0 (rw n.1 z.1), row-line a t w.0 n.0 w.1, length-map line call_of))

-- what the look-ups need that have no answers
pub ruleset look_ups = (trains-get, seen-length, gets, first-read, live-named, into-each, into-rises, from-each, from-rises)

module _ {a : Inside} {st : State} {cs : List StoredCall} {t l slot : ℕ} {x : StoredCall} (s : IsStored a) (v : seen a ≡ st) (e : cs ≡ a.calls.items) (c : IsCurrentAt cs a.slots t l slot) (is : x ≡ get_or a.calls.items slot x) where
  -- the call that is read from a slot is the current one
  pub found-read : (r : TrainRecord) × (n : NumberedTrain) × IsFound a t l slot x r n
  found-read =
      let d = rw e at c in
      found a t l slot x s d (slice_get_read a.calls.items _ slot x refl (slice_get_within a.calls.items slot d.call d.stored) is)

  -- the labels beside its own
  pub beside-read : (let len = found-read.0.len in (suc x.place ≡ len → label_after (calls_of st t) l ≡ None) × (suc x.place ≢ len → (x.after < length a.calls.items) × (label_after (calls_of st t) l ≡ option_map (λ (y : StoredCall). y.label) (slice_get a.calls.items x.after))) × (x.place ≡ 0 → label_before (calls_of st t) l ≡ None) × (x.place ≢ 0 → (x.before < length a.calls.items) × (label_before (calls_of st t) l ≡ option_map (λ (y : StoredCall). y.label) (slice_get a.calls.items x.before))))
  beside-read =
      let w = found-read in
      let line = line_of a.calls.items w.0.len w.1 in
      let own = row-stored a t w.0 w.1 w.2.of in
      let calls : calls_of st t ≡ map call_of line = ap (λ (st : State). calls_of st t) (sym v) ∙ row-calls a t w.0 w.1 w.2.of in
      rw calls (grind (arith, w.2, own.placed.line.calls x.place w.2.within, own.placed.line.calls (suc x.place), own.placed.line.calls (x.place - 1), row-line a t w.0 w.1 w.2.of, label_after-at (map call_of line) l x.place w.2.first, label_before-none (map call_of line) l x.place w.2.first, label_before-at (map call_of line) l x.place (x.place - 1) w.2.first, length-map line call_of, slice_get-map call_of line (suc x.place), slice_get-map call_of line (x.place - 1), slice_get_cases line (suc x.place), slice_get_cases line (x.place - 1), slice_get_cases a.calls.items x.after, slice_get_cases a.calls.items x.before))

-- the first report of calls, by their events
pub reports-by : (t route : ℕ) (cs : List Call) → first_report t (events_at t route cs) ≡ report_of cs
reports-by t route [] = refl
reports-by t route (c ∷ cs) = grind (arith, nat_eq-same t, reports-by t route cs)

-- what a call and the report that it knows tell of the reports after its event
abbrev pub known_after : Bool → StoredCall → Option ℕ
known_after true x = next_report_of x
known_after false x = option_or (live_report (call_of x).departure) (next_report_of x)

rest-reports : (t route l : ℕ) (dep : Bool) (xs : List StoredCall) (j : ℕ) (x : StoredCall) → IsFirst (is_call l) j (map call_of xs) → HasNextReports xs → slice_get xs j ≡ Some x → first_report t (after (is_event (node_at t l dep)) (events_at t route (map call_of xs))) ≡ known_after dep x
rest-reports t route l dep [] j x f h e = absurd f
rest-reports t route l dep (y ∷ xs) (suc j) x f h e =
    rw (name-test t l y.label false dep false f.0, name-test t l y.label true dep false f.0) (rest-reports t route l dep xs j x f.1 h.1 e)
rest-reports t route l dep (y ∷ xs) zero x f h e =
    grind (arith, name-test t l y.label false dep true f, name-test t l y.label true dep true f, reports-by t route (map call_of xs), h.0, e, nat_eq-same t)

-- the report after an event of a call that is read
pub report-read : {a : Inside} {st : State} {cs : List StoredCall} {slot : ℕ} {x : StoredCall} (n : Node) → IsStored a → seen a ≡ st → cs ≡ a.calls.items → IsCurrentAt cs a.slots n.train n.label slot → x ≡ get_or a.calls.items slot x → report_after st n ≡ known_after n.dep x
report-read {a} {x = x} n s v e c is =
    let w = found-read s v e c is in
    rw (← v, row-train a n.train w.0 w.1 w.2.of)
    (rest-reports n.train w.0.route n.label n.dep (line_of a.calls.items w.0.len w.1) x.place x w.2.first (row-stored a n.train w.0 w.1 w.2.of).reports w.2.place)

-- a copy with room is stored as well
pub copied-stored : (a b : Inside) → IsStored a → b.records.items ≡ a.records.items → b.calls.items ≡ a.calls.items → b.slots ≡ a.slots → length a.records.items + a.slots.spare_trains ≤ vec_capacity b.records → length a.calls.items + a.slots.spare_calls ≤ vec_capacity b.calls → IsStored b
copied-stored a b s records calls slots rows-room calls-room =
    grind (arith, s, rw (← records, ← calls, ← slots) at s.trains, rw (← calls, ← slots) at s.numbered, rw (← calls, ← slots) at s.named, slots, ap length records, ap length calls)
