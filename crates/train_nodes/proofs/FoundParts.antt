-- A part of a train that was found by the labels of its ends, and what a cancellation or a rerouting takes out of it.
use Rattle.train_nodes.proofs.Words.{up_to, before, is_call, is_among, is_event, events_at, events_between, node_at, stretch, names_one_of, is_same_node}
use Rattle.train_nodes.proofs.Words.{calls_between, calls_of, has_call, stands_before, HasDistinctLabels, Call, Event, Node, State, ◌≡◌, ℕ, zero, suc, ◌+◌, ◌-◌, ◌<◌}
use Rattle.train_nodes.proofs.Words.{◌≤◌, ◌^◌, List, [], ◌∷◌, Bool, true, false, ◌&&◌, ◌||◌, not, nat_lt, nat_eq, None, Some, length, take, drop, refl}
use Rattle.train_nodes.proofs.Words.{sym, ◌∙◌, arith, ◌⊎◌, Option, get_or, MatchOption, is_some, cases_Bool, nat_tests, take-append-drop, length-map}
use Rattle.train_nodes.proofs.Words.{slice_get_within, list_any, first-within, none-any, past-none, stands, stands-no-first, stands-no-last, stands-not, between-at}
use Rattle.train_nodes.proofs.Words.{IsPart, IsPartOf, HasNoPart, call_of, is_between, IsCurrentAt, HasNoCurrent, NumberedTrain, slot_of, IsFirst}
use Rattle.train_nodes.proofs.Words.{AreInOrder, IsTrainStored, line-length, placed-at, line_of, seen, IsStored, TrainRecord, Part, StoredCall, Inside}
use Rattle.train_nodes.proofs.Words.{list_any-append, nat_le, change-length, retain_keys, is_removed, names_removed, Overrides}
use Rattle.delay_model.specs.Cuts as Cuts
use Rattle.train_nodes.proofs.ReadLemmas.{distinct-seen}
use Rattle.train_nodes.proofs.StoredLemmas.{IsRowAt, row-of, row-stored, row-train, row-calls, found, none-named}

-- a train that has a slot is there
pub ruleset there = (slice_get_within, change-length)

-- where no element passes a test, none of a part does
none-part : {X : Type 0} (p : X → Bool) (j k : ℕ) (xs : List X) → list_any p xs ≡ false → list_any p (take k (drop j xs)) ≡ false
none-part p j k xs h =
    grind (arith, list_any-append p (take j xs) (drop j xs), take-append-drop j xs, list_any-append p (take k (drop j xs)) (drop k (drop j xs)), take-append-drop k (drop j xs), h)

-- the call of a label is one of so many from a place on exactly where its place is
any-part : (l : ℕ) (cs : List Call) (place j k : ℕ) → HasDistinctLabels cs → IsFirst (is_call l) place cs → list_any (is_call l) (take k (drop j cs)) ≡ (nat_le j place && nat_lt place (j + k))
any-part l [] place j k d h = absurd h
any-part l (c ∷ cs) zero zero (suc k) d h = grind (arith, nat_tests, h)
any-part l (c ∷ cs) (suc place) zero (suc k) d h = grind (arith, nat_tests, h, any-part l cs place zero k d.1)
any-part l (c ∷ cs) (suc place) (suc j) k d h = grind (arith, nat_tests, h, any-part l cs place j k d.1)
any-part l (c ∷ cs) place j k d h = grind (arith, nat_tests, none-part (is_call l) 0 k (drop j (c ∷ cs)), past-none (c ∷ cs) place l j d h)

-- an event is one of those of these calls where it is the train's, and a call has its label
calls-among : (train route : ℕ) (cs : List Call) (n : Node) → is_among (events_at train route cs) n ≡ (nat_eq n.train train && has_call n.label cs)
unfolding is_same_node
calls-among train route [] n = grind arith
calls-among train route (c ∷ cs) n = grind (arith, nat_tests, calls-among train route cs n)

-- the events of calls up to the arrival of one of them
ended : (train route to : ℕ) (cs : List Call) (n : Node) → has_call to cs ≡ true → is_among (up_to (is_event (node_at train to false)) (events_at train route cs)) n ≡ (nat_eq n.train train && ((nat_eq n.label to && not n.dep) || has_call n.label (before (is_call to) cs)))
unfolding is_same_node
ended train route to [] n h = absurd (cc)
ended train route to (c ∷ cs) n h = grind (arith, nat_tests, h, ended train route to cs n)

calls-removed : (train route from to : ℕ) (cs : List Call) (n : Node) → stands_before from to cs ≡ true → is_among (up_to (is_event (node_at train to false)) (Cuts.from (is_event (node_at train from true)) (events_at train route cs))) n ≡ is_removed train (λ l. has_call l (calls_between from to cs)) (Some (from, to)) n
unfolding is_same_node
calls-removed train route from to [] n h = absurd (cc)
calls-removed train route from to (c ∷ cs) n h = grind (arith, nat_tests, h, ended train route to cs n, calls-removed train route from to cs n)

-- a label is that of a call of the train now, or of none, and then of none between two places
current-by : (a : Inside) (t l : ℕ) (o : Option ℕ) → IsStored a → slot_of a.slots t l ≡ o → ((i : ℕ) × IsCurrentAt a.calls.items a.slots t l i) ⊎ (HasNoCurrent a.calls.items a.slots t l × ((first last : ℕ) → is_between a.calls.items a.slots t first last l ≡ false))
current-by a t l None s e = grind (arith, e)
current-by a t l (Some slot) s e = (let k = s.named t l slot e in grind (arith, e, k, cases_Bool k.call.current))

-- it stands at its place among those that are seen
seen-first : {a : Inside} {t l slot : ℕ} → IsStored a → (c : IsCurrentAt a.calls.items a.slots t l slot) → IsFirst (is_call l) c.call.place (calls_of (seen a) t)
seen-first {a} {t} {l} {slot} s c =
    let k = found a t l slot c.call s c c.stored in rw (row-calls a t k.0 k.1 k.2.of) k.2.first

-- a part of a train that is there, by the train's row
pub record IsFoundPart (a : Inside) (t from to : ℕ) (p : Part) (r : TrainRecord) (n : NumberedTrain) (line : IsTrainStored a.slots.spare_calls a.calls.items t r.len n) : Type 0 where
  pub of : IsRowAt a t r n
  pub part : IsPartOf a.calls.items a.slots t from to p
  pub start : line.at p.first ≡ p.from
  pub end : line.at p.last ≡ p.to
  pub within : p.last < r.len
  pub order : AreInOrder from to p.first p.last (calls_of (seen a) t)
  pub labels : r.len ≤ length n.slots

pub part-found : {a : Inside} {cs : List StoredCall} {t from to : ℕ} {p : Part} → IsStored a → cs ≡ a.calls.items → IsPartOf cs a.slots t from to p → (r : TrainRecord) × (n : NumberedTrain) × (line : IsTrainStored a.slots.spare_calls a.calls.items t r.len n) × IsFoundPart a t from to p r n line
part-found {a} {cs} {t} {from} {to} {p} s read g =
    let h = rw read at g in
    let k = found a t from p.from h.start.call s h.start h.start.stored in
    let line = row-stored a t k.0 k.1 k.2.of in
    let stands : (l slot : ℕ) (c : IsCurrentAt a.calls.items a.slots t l slot) → (c.call.place < k.0.len) × (line.at c.call.place ≡ slot) × IsFirst (is_call l) c.call.place (calls_of (seen a) t) = λ l slot c. grind (arith, c, s.named t l slot c.number, placed-at a.calls.items t k.0.len line.at line.placed slot c.call c.stored, seen-first s c) in
    (k.0, k.1, line, grind (arith, h, k.2.of, stands from p.from h.start, stands to p.to h.end, line, line.labels, rw line.begins at (line-length a.calls.items t k.0.len line.at line.placed.line.calls), distinct-seen a (seen a) t s refl, first-within (is_call to) p.last (calls_of (seen a) t), length-map (line_of a.calls.items k.0.len k.1) call_of))

-- it is one of the train's line
pub found-part : {a : Inside} {t from to : ℕ} {p : Part} {r : TrainRecord} {n : NumberedTrain} {line : IsTrainStored a.slots.spare_calls a.calls.items t r.len n} → IsFoundPart a t from to p r n line → IsPart a.calls.items p.train p.from p.to p.first p.last
found-part {line = line} w = grind (arith, w, w.part, line.placed)

-- the row of the train, as it is read, tells how many calls it makes
pub part-len : {a : Inside} {cs : List StoredCall} {t from to i : ℕ} {p : Part} → IsStored a → cs ≡ a.calls.items → IsPartOf cs a.slots t from to p → (x : TrainRecord) → i ≡ t → x ≡ get_or a.records.items i x → (p.last < x.len) × (x.len + (seen a).spare_calls < 2 ^ 31)
part-len s read g x at row = (let f = part-found s read g in grind (arith, f.3, f.2.labels, row-of x f.3.of at row))

-- without a part the one call does not stand before the other
no-part : (a : Inside) (t from to : ℕ) → IsStored a → HasNoPart a.calls.items a.slots t from to → stands_before from to (calls_of (seen a) t) ≡ false
no-part a t from to s h =
    let cs = calls_of (seen a) t in
    let both = λ (u : (i : ℕ) × IsCurrentAt a.calls.items a.slots t from i) (v : (i : ℕ) × IsCurrentAt a.calls.items a.slots t to i). stands-not from to u.1.call.place v.1.call.place cs (distinct-seen a (seen a) t s refl) (seen-first s u.1) (seen-first s v.1) (h u.0 v.0 u.1 v.1) in
    let first = λ (none : HasNoCurrent a.calls.items a.slots t from). stands-no-first from to cs (none-named a t from s none) in
    let last = λ (none : HasNoCurrent a.calls.items a.slots t to). stands-no-last from to cs (none-named a t to s none) in
    grind (arith, current-by a t from (slot_of a.slots t from) s refl, current-by a t to (slot_of a.slots t to) s refl, both, first, last)

-- whether two calls stand in order, by what was found
pub stands-found : (a : Inside) (cs : List StoredCall) (st : State) (t from to : ℕ) (o : Option Part) → IsStored a → cs ≡ a.calls.items → seen a ≡ st → MatchOption o (HasNoPart cs a.slots t from to) (λ p. IsPartOf cs a.slots t from to p) → is_some o ≡ stands_before from to (calls_of st t)
stands-found a cs st t from to None s read view h = rw (← view, no-part a t from to s (rw read at h)) refl
stands-found a cs st t from to (Some p) s read view h = rw (← view, stands from to p.first p.last (calls_of (seen a) t) (part-found s read h).3.order) refl

module _ {a : Inside} {t from to : ℕ} {p : Part} {r : TrainRecord} {n : NumberedTrain} {line : IsTrainStored a.slots.spare_calls a.calls.items t r.len n} (w : IsFoundPart a t from to p r n line) where
  -- the calls between the two are those that the storage tells by their places
  pub between-test : (l : ℕ) → is_between a.calls.items a.slots t p.first p.last l ≡ has_call l (calls_between from to (calls_of (seen a) t))
  between-test l =
      let calls = calls_of (seen a) t in
      let mine = λ (u : (i : ℕ) × IsCurrentAt a.calls.items a.slots t l i). any-part l calls u.1.call.place (suc p.first) (p.last - suc p.first) w.order.labels (seen-first w.of.stored u.1) in
      let other = λ (none : HasNoCurrent a.calls.items a.slots t l). none-part (is_call l) (suc p.first) (p.last - suc p.first) calls (none-any (is_call l) calls (none-named a t l w.of.stored none)) in
      grind (arith, nat_tests, current-by a t l (slot_of a.slots t l) w.of.stored refl, mine, other, between-at from to p.first p.last calls w.order, w.part.order)

  -- an event is in the part exactly where the storage tells so
  pub among-test : (v : Node) → (is_among (stretch (seen a) t from to) v ≡ is_removed t (is_between a.calls.items a.slots t p.first p.last) (Some (from, to)) v) × (is_among (events_between (seen a) t from to) v ≡ is_removed t (is_between a.calls.items a.slots t p.first p.last) None v)
  among-test v =
      grind (arith, row-train a t r n w.of, between-test v.label, stands from to p.first p.last (calls_of (seen a) t) w.order, calls-removed t r.route from to (calls_of (seen a) t) v, calls-among t r.route (calls_between from to (calls_of (seen a) t)) v)

  -- the overrides go that name one of these events, where the storage tells them by places
  pub removed-left : {ds : List StoredCall} (ends : Option (ℕ × ℕ)) (es : List Event) (o : Overrides) → ds ≡ a.calls.items → ((v : Node) → is_among es v ≡ is_removed t (is_between a.calls.items a.slots t p.first p.last) ends v) → o.choices ≡ retain_keys a.overrides.choices (λ q. not (names_removed p.train (is_between ds a.slots p.train p.first p.last) ends q)) → o.choices ≡ retain_keys a.overrides.choices (λ q. not (names_one_of es q))
  removed-left ends es o read among choices =
      (rw (w.part.train_is, read) at choices) ∙ (λ i. retain_keys a.overrides.choices (λ q. not (sym (among q.arrival) i || sym (among q.departure) i)))
