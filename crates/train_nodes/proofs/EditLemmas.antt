-- A change of one event's values, in the storage and in the state.
use Rattle.train_nodes.proofs.Words.{IsPlacedAt, ◌≡◌, ℕ, List, Some, refl, arith, ap, with_item, slice_get, get_or, vec_capacity, set, Vec, Global, inl, inr}
use Rattle.train_nodes.proofs.Words.{cases_eq, length-set, slice_get_within, Call, Node, State, change_event, change_labelled, with_event, TrainRecord}
use Rattle.train_nodes.proofs.Words.{StoredCall, Inside, call_of, call_report, IsCurrentAt, IsEdited, IsRenewed, IsStored, NumberedTrain, seen}
use Rattle.train_nodes.proofs.Words.{eq-eqb, nat_tests, slice_get-set_same, slice_get-set_other, IsLineChange, map, ◌∙◌, HasNextReports, next_report_of}
use Rattle.train_nodes.proofs.Words.{report_of, [], ◌∷◌, ◌≢◌, ◌+◌, ◌-◌, ◌<◌, zero, suc, drop, length, sym, option_or, walk, cases_lt, same-gets}
use Rattle.train_nodes.proofs.Words.{AreKnown, subst, IsKnownFrom, IsLineAt, IsTrainStored, line-at, line-length, slice_get_past}
use Rattle.delay_model.specs.declared.state.EventValues.{EventValues}
use Rattle.train_nodes.proofs.ReadLemmas.{found-read}
use Rattle.train_nodes.proofs.StoredLemmas.{row-stored, IsEdit, IsFound, changed-apart, edited-stored, edited-trains, line-changed, line-maps, next-told, renewed-at}

-- calls with the same reports, which know the same ones after them, know them still
kept-next : (ys xs : List StoredCall) → map (λ (x : StoredCall). call_report (call_of x)) ys ≡ map (λ (x : StoredCall). call_report (call_of x)) xs → map next_report_of ys ≡ map next_report_of xs → HasNextReports xs → HasNextReports ys × (report_of (map call_of ys) ≡ report_of (map call_of xs))
kept-next [] [] e d h = (tt, refl)
kept-next (y ∷ ys) (x ∷ xs) e d h = grind (arith, e, d, h.0, kept-next ys xs (cc) (cc) h.1)
kept-next ys xs e d h = absurd (cc)

-- where one call of a list got other reports, it and those behind it know the first report after them still
edit-behind : (ys xs : List StoredCall) (j : ℕ) (y x : StoredCall) → ((k : ℕ) → k ≢ j → slice_get ys k ≡ slice_get xs k) → slice_get ys j ≡ Some y → slice_get xs j ≡ Some x → next_report_of y ≡ next_report_of x → HasNextReports xs → HasNextReports (drop j ys) × (option_or (call_report (call_of y)) (next_report_of y) ≡ report_of (map call_of (drop j ys)))
edit-behind (u ∷ ys) (z ∷ xs) zero y x same e f n h =
    let rest : ys ≡ xs = same-gets ys xs (λ k. same (suc k) (omega arith)) in grind (arith, rest, e, f, n, h)
edit-behind (u ∷ ys) (z ∷ xs) (suc j) y x same e f n h = edit-behind ys xs j y x (λ k ne. same (suc k) (omega (arith, ne))) e f n h.1
edit-behind [] xs j y x same e f n h = absurd (cc)
edit-behind (u ∷ ys) [] j y x same e f n h = absurd (cc)

module _ {a : Inside} {st : State} {cs : List StoredCall} {slot : ℕ} {x : StoredCall} (n : Node) (f : EventValues → EventValues) (y : StoredCall) (s : IsStored a) (v : seen a ≡ st) (e : cs ≡ a.calls.items) (c : IsCurrentAt cs a.slots n.train n.label slot) (is : x ≡ get_or a.calls.items slot x) (call : call_of y ≡ change_event n.dep f (call_of x)) (rest : IsEdited x y) where
  abbrev g : Call → Call
  g = change_labelled n.label (change_event n.dep f)

  -- the row and the numbers of its train
  w : (r : TrainRecord) × (m : NumberedTrain) × IsFound a n.train n.label slot x r m
  w = found-read s v e c is

  abbrev own : IsTrainStored a.slots.spare_calls a.calls.items n.train w.0.len w.1
  own = row-stored a n.train w.0 w.1 w.2.of

  abbrev ds : List StoredCall
  ds = set a.calls.items slot y

  there : slice_get ds slot ≡ Some y
  there = slice_get-set_same a.calls.items slot y (slice_get_within a.calls.items slot x w.2.stored)

  -- to change the call in a slot is to change the call with its label
  slot-changed : IsLineChange n.train g a.calls.items ds
  slot-changed =
      record {
        count = length-set a.calls.items slot y;
        at = λ i z h. elim (cases_eq i slot) [
          | inl same ↦ grind (arith, same, h, call, rest, w.2, eq-eqb x.label n.label w.2.label_is, there)
          | inr ne ↦ grind (arith, nat_tests, ne, h, slice_get-set_other a.calls.items slot i y ne, s.numbered i z h, s.numbered slot x w.2.stored, w.2)
        ];
      }

  -- places and next reports stay
  slot-keeps : (i : ℕ) (z u : StoredCall) → slice_get a.calls.items i ≡ Some z → slice_get ds i ≡ Some u → (u.place ≡ z.place) × (next_report_of u ≡ next_report_of z)
  slot-keeps i z u before now =
      grind (arith, cases_eq i slot, rest, before, now, w.2.stored, there, slice_get-set_other a.calls.items slot i y)

  -- its train's calls stand in the same slots
  now-line : IsLineAt ds n.train w.0.len own.at
  now-line = line-changed a n.train g ds w.0 w.1 w.2.of slot-changed

  -- an edit of the calls is seen as a change of the event's values
  edit-seen : (calls : Vec StoredCall Global) (r : TrainRecord) (m : NumberedTrain) → IsEdit a calls n.train g r m → IsStored (record a { calls = calls }) × (seen (record a { calls = calls }) ≡ with_event n f st)
  edit-seen calls r m w =
      (edited-stored a calls a.overrides n.train g r m w, rw (edited-trains a calls a.overrides n.train g r m w) (ap (with_event n f) v))

  -- where no report changes, all stays in place
  pub slot-edited : ((c : Call) → call_report (change_event n.dep f c) ≡ call_report c) → IsStored (record a { calls = with_item a.calls slot y }) × (seen (record a { calls = with_item a.calls slot y }) ≡ with_event n f st)
  slot-edited same =
      let maps = line-maps a n.train g ds w.0 w.1 w.2.of slot-changed in
      let reports : (z : Call) → call_report (g z) ≡ call_report z = λ z. grind (arith, same z) in
      let next = kept-next _ _ (maps (λ z. call_report (call_of z)) (λ z. call_report (call_of z)) (λ i z u h k t. grind (arith, slot-changed.at i z h, k, t, reports (call_of z)))) (maps next_report_of next_report_of (λ i z u h k t. (slot-keeps i z u h k).1)) own.reports in
      let placed : IsPlacedAt ds n.train w.0.len own.at = record {
        line = now-line;
        places = λ j z l h. (let x = own.placed.line.calls j l in (slot-keeps (own.at j) x.call z x.stored h).0 ∙ own.placed.places j x.call l x.stored);
      } in
      edit-seen (with_item a.calls slot y) w.0 w.1 (record { of = w.2.of; change = slot-changed; capacity = refl; placed = placed; reports = next.0 })

  -- the calls of its train before and after
  abbrev was : List StoredCall
  was = walk a.calls.items w.0.len (own.at 0)

  abbrev now : List StoredCall
  now = walk ds w.0.len (own.at 0)

  was-at : (length was ≡ w.0.len) × ((k : ℕ) → k < w.0.len → slice_get was k ≡ slice_get a.calls.items (own.at k))
  was-at = (line-length a.calls.items n.train w.0.len own.at own.placed.line.calls, line-at a.calls.items n.train w.0.len own.at own.placed.line.calls)

  now-at : (length now ≡ w.0.len) × ((k : ℕ) → k < w.0.len → slice_get now k ≡ slice_get ds (own.at k))
  now-at = (line-length ds n.train w.0.len own.at now-line.calls, line-at ds n.train w.0.len own.at now-line.calls)

  -- all but that call are as they were
  beside : (k : ℕ) → k ≢ x.place → slice_get now k ≡ slice_get was k
  beside k ne = elim (cases_lt k w.0.len) [
    | inl l ↦ (
        let z = own.placed.line.calls k l in
        let other : own.at k ≢ slot = λ same. ne (grind (arith, same, z.stored, w.2.stored, own.placed.places k z.call l z.stored)) in
        now-at.1 k l ∙ slice_get-set_other a.calls.items slot (own.at k) y other ∙ sym (was-at.1 k l))
    | inr past ↦ slice_get_past now k (omega (arith, past, now-at.0)) ∙ sym (slice_get_past was k (omega (arith, past, was-at.0)))
  ]

  -- each knows its place
  now-places : (k : ℕ) (z : StoredCall) → slice_get now k ≡ Some z → z.place ≡ k
  now-places k z h =
      let l : k < w.0.len = omega (arith, now-at.0, slice_get_within now k z h) in
      let b = own.placed.line.calls k l in
      (slot-keeps (own.at k) b.call z b.stored (sym (now-at.1 k l) ∙ h)).0 ∙ own.placed.places k b.call l b.stored

  -- from that call on each knows the first report after it
  now-known : IsKnownFrom n.train (own.at 0) (own.at (w.0.len - 1)) w.0.len x.place y.before (option_or (call_report (call_of y)) (next_report_of y)) ds
  now-known =
      let f = w.2 in
      let here : slice_get now x.place ≡ Some y = now-at.1 x.place f.within ∙ ap (slice_get ds) f.slot_is ∙ there in
      let before : slice_get was x.place ≡ Some x = was-at.1 x.place f.within ∙ ap (slice_get a.calls.items) f.slot_is ∙ f.stored in
      let behind = edit-behind now was x.place y x beside here before (slot-keeps slot x y f.stored there).1 (rw (← own.begins) at own.reports) in
      let b = own.placed.line.calls x.place f.within in
      record {
        line = record { at = own.at; calls = now-line.calls; begins = refl; ends = refl; apart = changed-apart a n.train g ds w.0 w.1 f.of slot-changed };
        within = omega (arith, f.within);
        slot_is = λ l. grind (arith, rest, b.before_is, b.stored, f.slot_is, f.stored);
        next_is = behind.1;
        places = λ k z l. now-places k z;
        reports = behind.0;
      }

  -- and so do those before it, as far as the next one tells it
  now-knows : AreKnown x.place now
  now-knows = record {
    places = λ k z l. now-places k z;
    reports = λ k z u l h f. next-told was k (k + 1) z u (omega arith) (rw (← own.begins) at own.reports) (sym (beside k (omega (arith, l))) ∙ h) (sym (beside (k + 1) (omega (arith, l))) ∙ f);
  }

  -- or the calls before it are renewed
  pub slot-renewed : (calls : Vec StoredCall Global) → ((train first last len : ℕ) (z : StoredCall) → slice_get ds slot ≡ Some z → IsKnownFrom train first last len z.place z.before (option_or (call_report (call_of z)) (next_report_of z)) ds → AreKnown z.place (walk ds len first) → IsRenewed train first len ds calls.items) → vec_capacity calls ≡ vec_capacity a.calls → IsStored (record a { calls = calls }) × (seen (record a { calls = calls }) ≡ with_event n f st)
  slot-renewed calls renew capacity =
      let place : x.place ≡ y.place = sym (ap (λ (z : StoredCall). z.place) rest) in
      let known = subst (λ (p : ℕ). IsKnownFrom n.train (own.at 0) (own.at (w.0.len - 1)) w.0.len p y.before (option_or (call_report (call_of y)) (next_report_of y)) ds) place now-known in
      let done = renew n.train (own.at 0) (own.at (w.0.len - 1)) w.0.len y there known (subst (λ (p : ℕ). AreKnown p now) place now-knows) in
      edit-seen calls w.0 w.1 (renewed-at a calls n.train g ds w.0 w.1 w.2.of slot-changed done capacity)
