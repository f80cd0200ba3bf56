-- Stored trains and seen ones.
use Rattle.train_nodes.proofs.Words.{IsLineCall, map-map, IsLineAt, IsPlacedAt, line-at, line-length, line-of, placed-at, renewed-line, same-within, ◌^◌, AreLabelled}
use Rattle.train_nodes.proofs.Words.{last_label, inl, inr, ◌≡◌, ◌≢◌, ℕ, suc, ◌-◌, ◌<◌, ◌≤◌, List, [], ◌∷◌, length, refl, sym, ◌∙◌, ap, arith, Option}
use Rattle.train_nodes.proofs.Words.{Some, None, slice_get, find, map, vec_capacity, Vec, Global, option_map, option_and_then, cases_eq, length-map}
use Rattle.train_nodes.proofs.Words.{slice_get_within, slice_get_cases, slice_get-map, get_or_from_slice_get, option_and_then_some, Call, Train, is_call}
use Rattle.train_nodes.proofs.Words.{change_train, change_calls, calls_of, TrainRecord, StoredCall, Inside, call_named, call_of, HasNextReports, IsCurrentAt}
use Rattle.train_nodes.proofs.Words.{HasNoCurrent, IsRenewed, IsTrainLine, NumberedTrain, slot_of, IsCallAt, IsFirst, Overrides, first_slot, line_of}
use Rattle.train_nodes.proofs.Words.{train_by, trains_by, seen, IsTrainStored, IsStored, nat_eq-apart, label_of, labels-length, All-labels, distinct-labels}
use Rattle.train_nodes.proofs.Words.{HasDistinctLabels, call_report, next_report_of, option_or, walk, zero}
use Rattle.train_nodes.proofs.Words.{at-label, same-gets, get_or, first-cut, IsLineChange, changed-back, last-at, cond, nat_eq, nat_tests}

-- what stands at a place of the trains that are seen
abbrev pub seen_at : List StoredCall → Option TrainRecord → Option NumberedTrain → Option Train
seen_at cs r n = option_and_then (λ (r : TrainRecord). option_map (λ (n : NumberedTrain). train_by cs r n) n) r

pub trains-get : (cs : List StoredCall) (rs : List TrainRecord) (ns : List NumberedTrain) (u : ℕ) → slice_get (trains_by cs rs ns) u ≡ seen_at cs (slice_get rs u) (slice_get ns u)
trains-get cs (r ∷ rs) (n ∷ ns) (suc u) = trains-get cs rs ns u
trains-get cs rs ns u = grind arith

-- the next label of each train is the number of its slots
pub trains-labels : (cs : List StoredCall) (rs : List TrainRecord) (ns : List NumberedTrain) → length rs ≡ length ns → map (λ (t : Train). t.next_label) (trains_by cs rs ns) ≡ map (λ (n : NumberedTrain). length n.slots) ns
trains-labels cs rs ns e =
    same-gets _ _ (λ u. grind (arith, e, slice_get-map (λ (t : Train). t.next_label) (trains_by cs rs ns) u, slice_get-map (λ (n : NumberedTrain). length n.slots) ns u, trains-get cs rs ns u, slice_get_cases rs u, slice_get_cases ns u))

-- as many trains are seen as are numbered
pub seen-length : (a : Inside) → IsStored a → length (seen a).trains ≡ length a.slots.trains
seen-length a s = simp length-map at (ap length (trains-labels a.calls.items a.records.items a.slots.trains s.records_count))

change_train-get : (ts : List Train) (t u : ℕ) (f : Train → Train) → slice_get (change_train t f ts) u ≡ cond (nat_eq u t) (option_map f (slice_get ts u)) (slice_get ts u)
change_train-get [] t u f = grind arith
change_train-get (s ∷ ts) t u f = grind (arith, nat_tests, λ (v w : ℕ). change_train-get ts v w f)

-- the calls of a line, by their places
pub line-by : (cs : List StoredCall) (t len : ℕ) (n : NumberedTrain) (at : ℕ → ℕ) → ((k : ℕ) → k < len → IsLineCall cs t len at k) → at 0 ≡ first_slot n → (length (line_of cs len n) ≡ len) × ((k : ℕ) → k < len → slice_get (line_of cs len n) k ≡ slice_get cs (at k))
line-by cs t len n at w b = (rw b at (line-length cs t len at w), rw b at (line-at cs t len at w))

-- the row of a train that is there, and its numbers
pub record IsRowAt (a : Inside) (t : ℕ) (r : TrainRecord) (n : NumberedTrain) : Type 0 where
  pub stored : IsStored a
  pub row : slice_get a.records.items t ≡ Some r
  pub number : slice_get a.slots.trains t ≡ Some n

pub row-numbered : (a : Inside) (t : ℕ) (n : NumberedTrain) → IsStored a → slice_get a.slots.trains t ≡ Some n → (r : TrainRecord) × IsRowAt a t r n
row-numbered a t n s h =
    grind (arith, s, h, s.records_count, slice_get_cases a.records.items t, slice_get_within a.slots.trains t n h)

-- the row that is read
pub row-of : {a : Inside} {t i : ℕ} {r : TrainRecord} {n : NumberedTrain} (q : TrainRecord) → IsRowAt a t r n → i ≡ t → q ≡ get_or a.records.items i q → q ≡ r
row-of {a} {t} {i} {r} q w e is = is ∙ get_or_from_slice_get a.records.items i r q (ap (slice_get a.records.items) e ∙ w.row)

module _ (a : Inside) (t : ℕ) (r : TrainRecord) (n : NumberedTrain) (w : IsRowAt a t r n) where
  -- what is known of it
  pub row-stored : IsTrainStored a.slots.spare_calls a.calls.items t r.len n
  row-stored = w.stored.trains t r n w.row w.number

  pub row-line : (length (line_of a.calls.items r.len n) ≡ r.len) × ((k : ℕ) → k < r.len → slice_get (line_of a.calls.items r.len n) k ≡ slice_get a.calls.items (row-stored.at k))
  row-line = line-by a.calls.items t r.len n row-stored.at row-stored.placed.line.calls row-stored.begins

  -- its last call is the last one that it was loaded with
  pub row-last : (own : IsTrainStored a.slots.spare_calls a.calls.items t r.len n) → slot_of a.slots t (n.loaded - 1) ≡ Some (own.at (r.len - 1))
  row-last own =
      let line = line_of a.calls.items r.len n in
      let by = line-by a.calls.items t r.len n own.at own.placed.line.calls own.begins in
      let c = own.placed.line.calls (r.len - 1) (omega (arith, own.labels.some, by.0, length-map line call_of)) in
      grind (arith, w, own.last, own.labels.some, c, by, slice_get-map call_of line (r.len - 1), length-map line call_of, last-at (map call_of line), w.stored.numbered (own.at (r.len - 1)) c.call)

  -- the train that is seen
  pub row-train : slice_get (seen a).trains t ≡ Some (train_by a.calls.items r n)
  row-train = rw (trains-get a.calls.items a.records.items a.slots.trains t, w.row, w.number) refl

  -- its calls
  pub row-calls : calls_of (seen a) t ≡ map call_of (line_of a.calls.items r.len n)
  row-calls = rw row-train refl

-- a call of a train, in its slot and at its place
pub record IsFound (a : Inside) (t label slot : ℕ) (x : StoredCall) (r : TrainRecord) (n : NumberedTrain) : Type 0 where
  pub of : IsRowAt a t r n
  pub train_is : x.train ≡ t
  pub label_is : x.label ≡ label
  pub stored : slice_get a.calls.items slot ≡ Some x
  pub within : x.place < r.len
  pub slot_is : (row-stored a t r n of).at x.place ≡ slot
  pub few : r.len < 2 ^ 31
  pub place : slice_get (line_of a.calls.items r.len n) x.place ≡ Some x
  pub first : IsFirst (is_call label) x.place (map call_of (line_of a.calls.items r.len n))

-- the call with a label that is one of the train's calls now
pub found : (a : Inside) (t l slot : ℕ) (x : StoredCall) → IsStored a → IsCurrentAt a.calls.items a.slots t l slot → slice_get a.calls.items slot ≡ Some x → (r : TrainRecord) × (n : NumberedTrain) × IsFound a t l slot x r n
found a t l slot x s c stored =
    option_and_then_some (λ (n : NumberedTrain). slice_get n.slots l) (slice_get a.slots.trains t) slot c.number (λ n is _.
    let w = row-numbered a t n s is in
    let line = line_of a.calls.items w.0.len n in
    let own = row-stored a t w.0 n w.1 in
    let at = row-line a t w.0 n w.1 in
    (w.0, n, grind (arith, c, w.1, own.labels, s.named t l slot c.number, placed-at a.calls.items t w.0.len own.at own.placed slot x stored, at.0, at.1 x.place, slice_get-map call_of line x.place, get_or_from_slice_get (map call_of line) x.place (call_of x) (call_of x), at-label (map call_of line) x.place l (call_of x), length-map line call_of)))

-- it is the one that is seen
pub found-named : (a : Inside) (t l slot : ℕ) (x : StoredCall) (r : TrainRecord) (n : NumberedTrain) → IsFound a t l slot x r n → call_named (seen a) t l ≡ Some (call_of x)
found-named a t l slot x r n w =
    let line = line_of a.calls.items r.len n in
    rw (row-calls a t r n w.of, (first-cut (is_call l) x.place (map call_of line) w.first).found, slice_get-map call_of line x.place, w.place) refl

none-labelled : (xs : List StoredCall) (l : ℕ) → ((k : ℕ) (x : StoredCall) → slice_get xs k ≡ Some x → x.label ≢ l) → find (is_call l) (map call_of xs) ≡ None
none-labelled [] l h = refl
none-labelled (x ∷ xs) l h = rw (nat_eq-apart x.label l (h 0 x refl)) (none-labelled xs l (λ k. h (suc k)))

-- where no call has the label now, none is seen
pub none-named : (a : Inside) (t l : ℕ) → IsStored a → HasNoCurrent a.calls.items a.slots t l → call_named (seen a) t l ≡ None
none-named a t l s none =
    let unseen : (r : TrainRecord) (n : NumberedTrain) → IsRowAt a t r n → find (is_call l) (map call_of (line_of a.calls.items r.len n)) ≡ None = λ r n w. none-labelled (line_of a.calls.items r.len n) l (λ k x h label.
    let within = slice_get_within (line_of a.calls.items r.len n) k x h in
    let m : k < r.len = omega (arith, (row-line a t r n w).0, within) in
    let line = (row-stored a t r n w).placed.line in
    absurd (grind (arith, line.calls k m, line.current k x m, row-line a t r n w, h, label, within, s.numbered ((row-stored a t r n w).at k) x, none ((row-stored a t r n w).at k) x))) in
    grind (arith, s, trains-get a.calls.items a.records.items a.slots.trains t, unseen)

-- one train is stored anew, and nothing of other trains changes
pub record IsOneAnew (a b : Inside) (t : ℕ) (q : TrainRecord) (m : NumberedTrain) : Type 0 where
  pub before : IsStored a
  pub row : slice_get b.records.items t ≡ Some q
  pub number : slice_get b.slots.trains t ≡ Some m
  pub other_rows : (u : ℕ) → u ≢ t → slice_get b.records.items u ≡ slice_get a.records.items u
  pub other_numbers : (u : ℕ) → u ≢ t → slice_get b.slots.trains u ≡ slice_get a.slots.trains u
  pub kept : (i : ℕ) (x : StoredCall) → slice_get a.calls.items i ≡ Some x → x.train ≢ t → slice_get b.calls.items i ≡ Some x
  pub back : (i : ℕ) (x : StoredCall) → slice_get b.calls.items i ≡ Some x → x.train ≢ t → slice_get a.calls.items i ≡ Some x
  pub spare : b.slots.spare_calls ≤ a.slots.spare_calls
  pub own : IsTrainStored b.slots.spare_calls b.calls.items t q.len m

module _ (a b : Inside) (t : ℕ) (q : TrainRecord) (m : NumberedTrain) (w : IsOneAnew a b t q m) where
  -- the line of another train stands as before, and is the same one
  other-line : (u : ℕ) (p : TrainRecord) (k : NumberedTrain) → u ≢ t → (r : IsRowAt a u p k) → IsPlacedAt b.calls.items u p.len (row-stored a u p k r).at × (line_of b.calls.items p.len k ≡ line_of a.calls.items p.len k)
  other-line u p k ne r =
      let own = row-stored a u p k r in
      let kept : (j : ℕ) (l : j < p.len) → slice_get b.calls.items (own.at j) ≡ Some (own.placed.line.calls j l).call = λ j l. (let c = own.placed.line.calls j l in w.kept (own.at j) c.call c.stored (λ e. ne (sym c.train_is ∙ e))) in
      let placed : IsPlacedAt b.calls.items u p.len own.at = record {
        line = record {
          calls = λ j l. grind (arith, own.placed.line.calls j l, kept j l);
          current = λ j x l h. own.placed.line.current j x l (let c = own.placed.line.calls j l in cc (kept j l, h, c.stored));
          covers = λ i x h e c. own.placed.line.covers i x (w.back i x h (λ f. ne (sym e ∙ f))) e c;
        };
        places = λ j x l h. own.placed.places j x l (let c = own.placed.line.calls j l in cc (kept j l, h, c.stored));
      } in
      let now = line-by b.calls.items u p.len k own.at placed.line.calls own.begins in
      let was = row-line a u p k r in
      (placed, same-within _ _ (now.0 ∙ sym was.0) (λ j l. grind (arith, l, now.0, now.1 j, was.1 j, kept j, own.placed.line.calls j)))

  -- each train is stored as before
  pub anew-stored : (u : ℕ) (p : TrainRecord) (k : NumberedTrain) → slice_get b.records.items u ≡ Some p → slice_get b.slots.trains u ≡ Some k → IsTrainStored b.slots.spare_calls b.calls.items u p.len k
  anew-stored u p k row number = elim (cases_eq u t) [
    | inl same ↦ (
        let own : (p ≡ q) × (k ≡ m) = grind (arith, same, row, w.row, number, w.number) in
        rw (same, own.0, own.1) w.own)
    | inr ne ↦ (
        let r : IsRowAt a u p k = record { stored = w.before; row = rw (w.other_rows u ne) at row; number = rw (w.other_numbers u ne) at number } in
        let own = row-stored a u p k r in
        let line = other-line u p k ne r in
        let labels : AreLabelled b.slots.spare_calls (length k.slots) (map call_of (line_of b.calls.items p.len k)) = grind (arith, own.labels, line.1, w.spare) in
        record { at = own.at; placed = line.0; begins = own.begins; reports = rw line.1 own.reports; labels = labels; last = rw line.1 own.last })
  ]

  -- and other trains are seen as before
  pub other-seen : (u : ℕ) (p : TrainRecord) (k : NumberedTrain) → u ≢ t → slice_get a.records.items u ≡ Some p → slice_get a.slots.trains u ≡ Some k → train_by b.calls.items p k ≡ train_by a.calls.items p k
  other-seen u p k ne row number = rw (other-line u p k ne (record { stored = w.before; row = row; number = number })).1 refl

  -- so one train that is seen is changed
  pub one-changed : (f : Train → Train) (r : TrainRecord) (n : NumberedTrain) → slice_get a.records.items t ≡ Some r → slice_get a.slots.trains t ≡ Some n → train_by b.calls.items q m ≡ f (train_by a.calls.items r n) → trains_by b.calls.items b.records.items b.slots.trains ≡ change_train t f (trains_by a.calls.items a.records.items a.slots.trains)
  one-changed f r n row number e =
      let now = trains-get b.calls.items b.records.items b.slots.trains in
      let was = trains-get a.calls.items a.records.items a.slots.trains in
      same-gets _ _ (λ u. grind (arith, cases_eq u t, nat_tests, change_train-get (trains_by a.calls.items a.records.items a.slots.trains) t u f, now u, was u, now t, was t, w.row, w.number, w.other_rows u, w.other_numbers u, row, number, e, λ (p : TrainRecord) (k : NumberedTrain). other-seen u p k))

-- a change of a train's calls
module _ (a : Inside) (t : ℕ) (g : Call → Call) (ds : List StoredCall) (r : TrainRecord) (n : NumberedTrain) (w : IsRowAt a t r n) (k : IsLineChange t g a.calls.items ds) where
  -- its line stands in the same slots
  pub line-changed : IsLineAt ds t r.len (row-stored a t r n w).at
  line-changed = record {
    calls = λ j l. (let c = (row-stored a t r n w).placed.line.calls j l in let y = k.at ((row-stored a t r n w).at j) c.call c.stored in grind (arith, c, y));
    current = λ j y l h. (let c = (row-stored a t r n w).placed.line.calls j l in grind (arith, h, (row-stored a t r n w).placed.line.current j c.call l c.stored, k.at ((row-stored a t r n w).at j) c.call c.stored));
    covers = λ i y h e c. (let x = changed-back t g a.calls.items ds k i y h in (row-stored a t r n w).placed.line.covers i x.0 x.1 (sym x.2.train_same ∙ e) (sym x.2.current_same ∙ c));
  }

  -- what each of its calls is mapped to, told slot by slot
  pub line-maps : {X : Type 0} (f h : StoredCall → X) → ((i : ℕ) (x y : StoredCall) → slice_get a.calls.items i ≡ Some x → slice_get ds i ≡ Some y → x.train ≡ t → f y ≡ h x) → map f (line_of ds r.len n) ≡ map h (line_of a.calls.items r.len n)
  line-maps f h e =
      let own = row-stored a t r n w in
      let now = line-by ds t r.len n own.at line-changed.calls own.begins in
      let was = row-line a t r n w in
      let same : (j : ℕ) (l : j < r.len) → f (line-changed.calls j l).call ≡ h (own.placed.line.calls j l).call = λ j l. (let x = own.placed.line.calls j l in e (own.at j) x.call (line-changed.calls j l).call x.stored (line-changed.calls j l).stored x.train_is) in
      same-within _ _ (simp length-map (now.0 ∙ sym was.0)) (λ j l. grind (arith, l, now, was, now.1 j, was.1 j, length-map (line_of ds r.len n) f, slice_get-map f (line_of ds r.len n) j, slice_get-map h (line_of a.calls.items r.len n) j, own.placed.line.calls j, line-changed.calls j, same j))

  calls-changed : map call_of (line_of ds r.len n) ≡ map g (map call_of (line_of a.calls.items r.len n))
  calls-changed = simp map-map (line-maps call_of (λ x. g (call_of x)) (λ i x y h m e. grind (arith, k.at i x h, m, e)))

  labels-changed : map label_of (map call_of (line_of a.calls.items r.len n)) ≡ map label_of (map call_of (line_of ds r.len n))
  labels-changed = simp map-map (sym (line-maps (λ x. x.label) (λ x. x.label) (λ i x y h m e. grind (arith, k.at i x h, m))))

  -- no two of its calls have one label
  pub changed-apart : HasDistinctLabels (map call_of (walk ds r.len ((row-stored a t r n w).at 0)))
  changed-apart = let own = row-stored a t r n w in rw (← own.begins) at (distinct-labels _ _ labels-changed own.labels.distinct)

  -- it is a line of the train still
  pub changed-line : IsTrainLine a.slots t (first_slot n) r.len ds
  changed-line m last number slot =
      let own = row-stored a t r n w in
      let ends : own.at (r.len - 1) ≡ last = grind (arith, number, w.number, slot, row-last a t r n w own) in
      rw (← own.begins, ← ends) (line-of ds t r.len own.at line-changed.calls changed-apart)

  -- where each call knows its place and the first report after it, it is stored
  changed-stored : IsPlacedAt ds t r.len (row-stored a t r n w).at → HasNextReports (line_of ds r.len n) → IsTrainStored a.slots.spare_calls ds t r.len n
  changed-stored placed reports =
      let own = row-stored a t r n w in
      let at = λ (cs : List Call). last-at cs ∙ sym (slice_get-map label_of cs (length cs - 1)) in
      let was = map call_of (line_of a.calls.items r.len n) in
      let now = map call_of (line_of ds r.len n) in
      let count = labels-length was now labels-changed in
      let labels : AreLabelled a.slots.spare_calls (length n.slots) now = grind (arith, own.labels, All-labels (λ j. j < length n.slots) was now labels-changed own.labels.below, distinct-labels was now labels-changed own.labels.distinct, count) in
      let last : last_label now ≡ Some (n.loaded - 1) = grind (arith, own.last, count, labels-changed, at was, at now) in
      record { at = own.at; placed = placed; begins = own.begins; reports = reports; labels = labels; last = last }

-- a change of a train's calls, after which each knows its place and the first report after it
pub record IsEdit (a : Inside) (calls : Vec StoredCall Global) (t : ℕ) (g : Call → Call) (r : TrainRecord) (n : NumberedTrain) : Type 0 where
  pub of : IsRowAt a t r n
  pub change : IsLineChange t g a.calls.items calls.items
  pub capacity : vec_capacity calls ≡ vec_capacity a.calls
  pub placed : IsPlacedAt calls.items t r.len (row-stored a t r n of).at
  pub reports : HasNextReports (line_of calls.items r.len n)

module _ (a : Inside) (calls : Vec StoredCall Global) (overrides : Overrides) (t : ℕ) (g : Call → Call) (r : TrainRecord) (n : NumberedTrain) (w : IsEdit a calls t g r n) where
  abbrev b : Inside
  b = record a { calls = calls; overrides = overrides }

  edit-anew : IsOneAnew a b t r n
  edit-anew =
      grind (arith, w.of, w.of.stored, changed-stored a t g calls.items r n w.of w.change w.placed w.reports, w.change.at, changed-back t g a.calls.items calls.items w.change)

  -- it keeps what holds of all trains
  pub edited-stored : IsStored b
  edited-stored =
      let s = w.of.stored in
      let numbered : (i : ℕ) (y : StoredCall) → slice_get calls.items i ≡ Some y → slot_of a.slots y.train y.label ≡ Some i = λ i y h. grind (arith, changed-back t g a.calls.items calls.items w.change i y h, s.numbered i) in
      let named : (u l i : ℕ) → slot_of a.slots u l ≡ Some i → IsCallAt calls.items u l i = λ u l i h. grind (arith, s.named u l i h, w.change.at i) in
      grind (arith, s, w, w.change.count, anew-stored a b t r n edit-anew, numbered, named)

  -- and changes the calls of one train
  pub edited-trains : trains_by calls.items a.records.items a.slots.trains ≡ change_train t (change_calls (map g)) (trains_by a.calls.items a.records.items a.slots.trains)
  edited-trains =
      one-changed a b t r n edit-anew (change_calls (map g)) r n w.of.row w.of.number (rw (calls-changed a t g calls.items r n w.of w.change) refl)

then-renewed : (t len first : ℕ) (g : Call → Call) (xs mid ys : List StoredCall) → IsLineChange t g xs mid → IsRenewed t first len mid ys → IsLineChange t g xs ys
then-renewed t len first g xs mid ys w h = record { count = h.same_count ∙ w.count; at = λ i x is. let k = w.at i x is in grind (arith, k, h.alike i k.0 k.1) }

-- calls that were changed and then renewed
pub renewed-at : (a : Inside) (calls : Vec StoredCall Global) (t : ℕ) (g : Call → Call) (mid : List StoredCall) (r : TrainRecord) (n : NumberedTrain) (w : IsRowAt a t r n) → IsLineChange t g a.calls.items mid → IsRenewed t ((row-stored a t r n w).at 0) r.len mid calls.items → vec_capacity calls ≡ vec_capacity a.calls → IsEdit a calls t g r n
renewed-at a calls t g mid r n w k done capacity =
    let own = row-stored a t r n w in
    let placed = renewed-line mid calls.items t r.len own.at (line-changed a t g mid r n w k) done in
    record { of = w; change = then-renewed t r.len (own.at 0) g a.calls.items mid calls.items k done; capacity = capacity; placed = placed; reports = rw own.begins at done.reports }

-- the same where any line of the train is renewed
pub renewed-edit : (a : Inside) (calls : Vec StoredCall Global) (t len : ℕ) (g : Call → Call) (mid : List StoredCall) (r : TrainRecord) (n : NumberedTrain) → IsRowAt a t r n → IsLineChange t g a.calls.items mid → len ≡ r.len → ((first : ℕ) → IsTrainLine a.slots t first len mid → IsRenewed t first len mid calls.items) → vec_capacity calls ≡ vec_capacity a.calls → IsEdit a calls t g r n
renewed-edit a calls t len g mid r n w k e renew capacity =
    let done = (rw e at renew) (first_slot n) (changed-line a t g mid r n w k) in
    renewed-at a calls t g mid r n w k (rw (← (row-stored a t r n w).begins) at done) capacity

-- the first report after a call by what the next one tells
pub next-told : (xs : List StoredCall) (k j : ℕ) (x y : StoredCall) → j ≡ suc k → HasNextReports xs → slice_get xs k ≡ Some x → slice_get xs j ≡ Some y → next_report_of x ≡ option_or (call_report (call_of y)) (next_report_of y)
next-told [] k j x y is h e f = absurd (cc)
next-told (u ∷ xs) k zero x y is h e f = absurd (omega arith)
next-told (u ∷ []) k (suc j) x y is h e f = absurd (cc)
next-told (u ∷ v ∷ xs) zero (suc zero) x y is h e f = grind (arith, h.0, h.1.0, e, f)
next-told (u ∷ v ∷ xs) zero (suc (suc j)) x y is h e f = absurd (omega arith)
next-told (u ∷ v ∷ xs) (suc k) (suc j) x y is h e f = next-told (v ∷ xs) k j x y (omega arith) h.1 e f
