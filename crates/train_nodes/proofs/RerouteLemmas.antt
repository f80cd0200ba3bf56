-- A rerouting of a stored train.
use Rattle.train_nodes.proofs.Words.{is_call, new_calls, rerouted, events_between, HasDistinctLabels, Reroute, Call, State, NewCall, ◌≡◌, ◌≢◌, ℕ, zero, suc, ◌+◌}
use Rattle.train_nodes.proofs.Words.{◌-◌, ◌<◌, ◌≤◌, List, [], ◌∷◌, ◌++◌, not, None, Some, length, take, drop, refl, sym, arith, slice_get, map, All, append_assoc}
use Rattle.train_nodes.proofs.Words.{get_or, set, length-append, length-set, retain_keys, len, option_map, vec_capacity, Vec, Global, first-up_to, first-from}
use Rattle.train_nodes.proofs.Words.{numbered-new, calls-grown, change-length, calls-alike, slice_get-set_same}
use Rattle.train_nodes.proofs.Words.{slice_get-set_other, slots-from, AreReplaced, IsPartOf, walk, call_of, is_between, IsTrainLine, IsRenewed, NumberedTrain}
use Rattle.train_nodes.proofs.Words.{Numbering, slots_from, with_more, names_removed, first_slot, line_of, train_by, seen, AreLabelled, IsStored}
use Rattle.train_nodes.proofs.Words.{IsTrainStored, Overrides, TrainRecord, Part, StoredCall, Inside, effect, get-old, IsSplice, spliced, spliced-begins}
use Rattle.train_nodes.proofs.Words.{spliced-calls, spliced-ends, spliced-last, spliced-line, line-length, slice_get_within, line-of, renewed-line, some-of}
use Rattle.train_nodes.proofs.Words.{AreKnown, line-at, ◌∙◌}
use Rattle.train_nodes.proofs.Words.{nat_tests, begins, ends, length-map, nat_eq-same, nat_eq-apart, one-of}
use Rattle.std.proofs.Common.{add-one}
use Rattle.std.proofs.lemmas.Grind.{elements}
use Rattle.event_numbers.proofs.ListLemmas.{change-get}
use Rattle.train_nodes.proofs.ChangeLemmas.{IsTrainChange, change-anew, change-stored}
use Rattle.train_nodes.proofs.FoundParts.{IsFoundPart, among-test, found-part, part-found, removed-left}
use Rattle.train_nodes.proofs.StoredLemmas.{line-by, next-told, row-last, row-of, row-calls, one-changed}

-- labels differ where new calls, with labels that are all greater, stand in place of some in between
joined-distinct : (first last next : ℕ) (via : List NewCall) (cs : List Call) → first ≤ last → last < length cs → HasDistinctLabels cs → All (λ c. c.label < next) cs → HasDistinctLabels (take first cs ++ (new_calls next via ++ drop last cs))
joined-distinct zero zero next [] cs l m h below = h
joined-distinct zero zero next (v ∷ via) cs l m h below =
    grind (arith, elements, h, below, numbered-new (next + 1) via, joined-distinct zero zero (next + 1) via cs)
joined-distinct zero (suc last) next via (c ∷ cs) l m h below =
    joined-distinct zero last next via cs (omega arith) (omega arith) h.1 (λ k d l. below (suc k) d (omega arith))
joined-distinct (suc first) (suc last) next via (c ∷ cs) l m h below =
    let own : c.label < next = below 0 c (omega arith) in
    (grind (arith, elements, own, numbered-new next via, h.0), joined-distinct first last next via cs (omega arith) (omega arith) h.1 (λ k d l. below (suc k) d (omega arith)))
joined-distinct first last next via cs l m h below = absurd (omega arith)

-- a rerouting of a train: the calls strictly within a part were replaced by new ones, the row tells how many the train makes now, and
-- each of them knows its place and the first report after it
module _ {a : Inside} {t from to : ℕ} {p : Part} {r : TrainRecord} {n : NumberedTrain} {line : IsTrainStored a.slots.spare_calls a.calls.items t r.len n} {via : List NewCall} {mid : List StoredCall} (w : IsFoundPart a t from to p r n line) (loaded : (1 ≤ n.loaded) × (n.loaded ≤ length n.slots)) (fits : length via ≤ a.slots.spare_calls) (replaced : AreReplaced t p.from p.to p.first p.last (length n.slots) via a.calls.items mid) where
  abbrev size : ℕ
  size = r.len - (p.last - p.first - 1) + length via

  abbrev at : ℕ → ℕ
  at = spliced line.at p.first p.last (length a.calls.items) (length via)

  abbrev nb : Numbering
  nb = with_more t (length via) a.slots

  abbrev m : NumberedTrain
  m = record n { slots = n.slots ++ slots_from a.slots.used (length via) }

  splice : IsSplice a.calls.items mid t r.len p.from p.to p.first p.last (length n.slots) line.at via
  splice = grind (arith, w, replaced)

  starts : first_slot m ≡ at 0
  starts = grind (arith, get-old n.slots (slots_from a.slots.used (length via)) 0, spliced-begins splice, line.begins)

  more-slots : length m.slots ≡ length n.slots + length via
  more-slots = omega (arith, slots-from a.slots.used (length via), length-append n.slots (slots_from a.slots.used (length via)))

  mid-labelled : AreLabelled (a.slots.spare_calls - length via) (length n.slots + length via) (map call_of (walk mid size (at 0)))
  mid-labelled =
      let calls = map call_of (walk a.calls.items r.len (line.at 0)) in
      let old = rw (← line.begins) at line.labels in
      let long : p.last < length calls = omega (arith, line-length a.calls.items t r.len line.at line.placed.line.calls, length-map (walk a.calls.items r.len (line.at 0)) call_of) in
      let made = numbered-new (length n.slots) via in
      let distinct = joined-distinct (p.first + 1) p.last (length n.slots) via calls (omega arith) long old.distinct old.below in
      rw (spliced-calls splice, append_assoc) (grind (arith, elements, w, long, old, distinct, made))

  -- the line can be renewed
  reroute-line : IsTrainLine nb t (at 0) size mid
  reroute-line k last known slot =
      let same = one-of nb.trains t m k (rw (change-get, nat_eq-same t, w.of.number) refl) known in
      let whole = line-of mid t size at (spliced-line splice).calls mid-labelled.distinct in
      let is : at (size - 1) ≡ last = grind (arith, spliced-ends splice, (calls-grown t (length via) a.slots n w.of.number).only t (n.loaded - 1) last (rw (← same) at slot), row-last a t r n w.of line, loaded) in
      rw (← is) whole

  -- the calls up to the one with which the part begins are as they were
  before-part : (k : ℕ) (x : StoredCall) → k ≤ p.first → slice_get (walk mid size (at 0)) k ≡ Some x → (z : StoredCall) × (slice_get (line_of a.calls.items r.len n) k ≡ Some z) × (z.place ≡ k) × (x ≡ record z { current = x.current; before = x.before; after = x.after })
  before-part k x l h =
      let inside : k < r.len = omega (arith, w.part.order, w.within) in
      let c = line.placed.line.calls k inside in
      let was = (line-by a.calls.items t r.len n line.at line.placed.line.calls line.begins).1 k inside in
      let is = line-at mid t size at (spliced-line splice).calls k (omega (arith, w.part.order, w.within)) in
      (c.call, was ∙ c.stored, line.placed.places k c.call inside c.stored, grind (arith, nat_tests, l, h, is, replaced.calls (line.at k) c.call c.stored))

  -- so they know their places, and the first reports after them as far as the next one does
  reroute-known : AreKnown (p.first + 1) (walk mid size (at 0))
  reroute-known = record {
    places = λ k x l h. grind (arith, before-part k x (omega (arith, l)) h);
    reports = λ k x y l h g.
        let u = before-part k x (omega (arith, l)) h in
        let v = before-part (k + 1) y (omega (arith, l)) g in
        grind (arith, u, v, next-told (line_of a.calls.items r.len n) k (k + 1) u.0 v.0 (omega arith) line.reports u.1 v.1);
  }

  -- what became of a call that was there
  old-call : (ys : List StoredCall) → IsRenewed t (at 0) size mid ys → (i : ℕ) (x : StoredCall) → slice_get a.calls.items i ≡ Some x → (y : StoredCall) × (slice_get ys i ≡ Some y) × (y.train ≡ x.train) × (y.label ≡ x.label) × (x.train ≢ t → y ≡ x)
  old-call ys q i x h =
      let z = replaced.calls i x h in
      let part = found-part w in
      grind (arith, nat_tests, h, z, q.alike i z.0 z.1, begins part, ends part, w.part.train_is)

  -- the new calls
  made-call : (ys : List StoredCall) → IsRenewed t (at 0) size mid ys → (j : ℕ) → j < length via → (y : StoredCall) × (slice_get ys (length a.calls.items + j) ≡ Some y) × (y.train ≡ t) × (y.label ≡ length n.slots + j)
  made-call ys q j l =
      let v = some-of via j l in
      let x = replaced.made j v.0 v.1 in
      grind (arith, x, q.alike (length a.calls.items + j) x.0 x.1)

  abbrev row : TrainRecord
  row = record r { len = size }

  module _ (records : Vec TrainRecord Global) (ys : Vec StoredCall Global) (o : Overrides) (row_is : records.items ≡ set a.records.items t row) (q : IsRenewed t (at 0) size mid ys.items) (room : vec_capacity records ≡ vec_capacity a.records) (capacity : vec_capacity ys ≡ vec_capacity a.calls) where
    abbrev b : Inside
    b = record a { records = records; calls = ys; slots = nb; overrides = o }

    own-calls : map call_of (line_of ys.items size m) ≡ map call_of (walk mid size (at 0))
    own-calls =
        rw starts (calls-alike t size (at 0) mid ys.items q.same_count q.alike)

    reroute-change : IsTrainChange a b t (length n.slots) (length via) row m
    reroute-change =
        let number : slice_get nb.trains t ≡ Some m = rw (change-get, nat_eq-same t, w.of.number) refl in
        let numbers : (u : ℕ) → u ≢ t → slice_get nb.trains u ≡ slice_get a.slots.trains u = λ u ne. rw (change-get, nat_eq-apart t u (λ e. ne (sym e))) refl in
        let labels : AreLabelled nb.spare_calls (length m.slots) (map call_of (line_of ys.items size m)) = rw (own-calls, more-slots) mid-labelled in
        grind (arith, w.of.stored, row_is, slice_get-set_same a.records.items t row (slice_get_within a.records.items t r w.of.row), λ (u : ℕ). slice_get-set_other a.records.items t u row, numbers, number, calls-grown t (length via) a.slots n w.of.number, q.same_count, replaced.count, old-call ys.items q, made-call ys.items q, renewed-line mid ys.items t size at (spliced-line splice) q, starts, rw (← starts) at q.reports, labels, own-calls, spliced-last splice, line, length-set a.records.items t row, change-length t (length via) a.slots)

    -- it is stored, and seen as the model's
    reroute-done : (xs : List StoredCall) → xs ≡ a.calls.items → o.choices ≡ retain_keys a.overrides.choices (λ q. not (names_removed p.train (is_between xs a.slots p.train p.first p.last) None q)) → o.spare ≡ a.overrides.spare + (len a.overrides.choices - len o.choices) → IsStored b × (seen b ≡ effect (seen a) (Reroute t from to via))
    unfolding effect
    reroute-done xs same choices spare =
        let order = rw (row-calls a t r n w.of) at w.order in
        let head = first-up_to (is_call from) p.first _ order.start in
        let tail = first-from (is_call to) p.last _ order.end in
        let own : train_by ys.items row m ≡ rerouted from to via (train_by a.calls.items r n) = rw (own-calls, spliced-calls splice, line.begins, more-slots, head, tail, add-one) refl in
        let trains = one-changed a b t row m (change-anew reroute-change) (rerouted from to via) r n w.of.row w.of.number own in
        (change-stored reroute-change, rw (trains, spare, removed-left w None (events_between (seen a) t from to) o same (λ v. (among-test w v).1) choices) refl)

-- after all steps, trains are stored, and seen as the model's
pub rerouted-as : {a : Inside} {cs ds : List StoredCall} {t from to label k l : ℕ} {p : Part} (x y : TrainRecord) (via : List NewCall) (mid : List StoredCall) (records : Vec TrainRecord Global) (ys : Vec StoredCall Global) (nb : Numbering) (st : State) (o : Overrides) → IsStored a → seen a ≡ st → cs ≡ a.calls.items → IsPartOf cs a.slots t from to p → length via ≤ st.spare_calls → ds ≡ a.calls.items → o.choices ≡ retain_keys a.overrides.choices (λ q. not (names_removed p.train (is_between ds a.slots p.train p.first p.last) None q)) → o.spare ≡ a.overrides.spare + (len a.overrides.choices - len o.choices) → ((u : ℕ) (n : NumberedTrain) → slice_get a.slots.trains u ≡ Some n → (1 ≤ n.loaded) × (n.loaded ≤ length n.slots)) → option_map (λ (n : NumberedTrain). length n.slots) (slice_get a.slots.trains t) ≡ Some label → nb ≡ with_more t (length via) a.slots → AreReplaced p.train p.from p.to p.first p.last label via a.calls.items mid → k ≡ t → x ≡ get_or a.records.items k x → l ≡ t → y ≡ get_or a.records.items l y → (let told : TrainRecord = record y { len = x.len - (p.last - p.first - 1) + length via } in records.items ≡ set a.records.items l told) → vec_capacity records ≡ vec_capacity a.records → vec_capacity ys ≡ vec_capacity a.calls → ((first : ℕ) → IsTrainLine nb t first (x.len - (p.last - p.first - 1) + length via) mid → AreKnown (p.first + 1) (walk mid (x.len - (p.last - p.first - 1) + length via) first) → IsRenewed t first (x.len - (p.last - p.first - 1) + length via) mid ys.items) → IsStored (record a { records = records; calls = ys; slots = nb; overrides = o }) × (seen (record a { records = records; calls = ys; slots = nb; overrides = o }) ≡ effect st (Reroute t from to via))
rerouted-as {a} {cs} {ds} {t} {from} {to} {label} {k} {l} {p} x y via mid records ys nb st o s view read part fits same choices spare loaded next more replaced at row at-2 row-2 told rows_same calls_same renew =
    let f = part-found s read part in
    let w = f.3 in
    let label_is : label ≡ length f.1.slots = grind (arith, w.of.number, next) in
    let made = rw (w.part.train_is, label_is) at replaced in
    let law = loaded t f.1 w.of.number in
    let room = rw (← view) at fits in
    let x_is = row-of x w.of at row in
    let renewed = (rw (more, x_is) at renew) _ (reroute-line w law room made) (reroute-known w law room made) in
    rw (more, ← view) (reroute-done w law room made records ys o (rw (at-2, x_is, row-of y w.of at-2 row-2) at told) renewed rows_same calls_same ds same choices spare)
