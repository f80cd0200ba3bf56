-- A cancellation, by the places of calls.
use Rattle.train_nodes.proofs.Words.{node_at, kill_in, stretch, Cancel, State, ◌≡◌, ℕ, ◌+◌, ◌-◌, List, Bool, not, Some, refl, ◌∙◌, ap, arith, slice_get, get_or}
use Rattle.train_nodes.proofs.Words.{nat_tests, retain_keys, len, Vec, Global, IsLineChange, killed_by, IsKilled, IsPartOf, call_of, is_between, IsTrainLine}
use Rattle.train_nodes.proofs.Words.{IsRenewed, NumberedTrain, names_removed, seen, IsStored, IsTrainStored, Overrides, TrainRecord, Part, StoredCall, Inside}
use Rattle.train_nodes.proofs.Words.{effect, begins, ends, standing-test, cases_eq}
use Rattle.std.specs.Prelude.{vec_capacity}
use Rattle.train_nodes.proofs.FoundParts.{IsFoundPart, among-test, found-part, part-found, removed-left}
use Rattle.train_nodes.proofs.StoredLemmas.{row-of, edited-stored, edited-trains, renewed-edit}

module _ {a : Inside} {t from to : ℕ} {p : Part} {r : TrainRecord} {n : NumberedTrain} {line : IsTrainStored a.slots.spare_calls a.calls.items t r.len n} (w : IsFoundPart a t from to p r n line) where
  -- what is killed by places is killed by the model
  killed-call : (i : ℕ) (x : StoredCall) → slice_get a.calls.items i ≡ Some x → x.train ≡ t → killed_by t p.first p.last x ≡ kill_in (stretch (seen a) t from to) t (call_of x)
  killed-call i x h e =
      let part = rw w.part.train_is at (found-part w) in
      let s = w.of.stored in
      grind (arith, nat_tests, h, e, s.numbered i x h, λ (d : Bool). among-test w (node_at t x.label d), standing-test part i x (begins part) h, standing-test part i x (ends part) h, w.part, w.part.start.number, w.part.end.number, s.named t from p.from w.part.start.number, s.named t to p.to w.part.end.number, cases_eq x.label from, cases_eq x.label to)

-- after all steps, trains are stored, and seen as the model's
pub cancelled : {a : Inside} {cs ds : List StoredCall} {t from to k : ℕ} {p : Part} {x : TrainRecord} (mid ys : Vec StoredCall Global) (st : State) (o : Overrides) → IsStored a → seen a ≡ st → cs ≡ a.calls.items → IsPartOf cs a.slots t from to p → ds ≡ a.calls.items → o.choices ≡ retain_keys a.overrides.choices (λ q. not (names_removed p.train (is_between ds a.slots p.train p.first p.last) (Some (from, to)) q)) → o.spare ≡ a.overrides.spare + (len a.overrides.choices - len o.choices) → k ≡ t → x ≡ get_or a.records.items k x → IsKilled p.train p.first p.last a.calls.items mid.items → vec_capacity mid ≡ vec_capacity a.calls → vec_capacity ys ≡ vec_capacity mid → ((first : ℕ) → IsTrainLine a.slots t first x.len mid.items → IsRenewed t first x.len mid.items ys.items) → IsStored (record a { calls = ys; overrides = o }) × (seen (record a { calls = ys; overrides = o }) ≡ effect st (Cancel t from to))
unfolding effect
cancelled {a} {cs} {ds} {t} {from} {to} {k} {p} {x} mid ys st o s view read part same choices spare at row kills capacity more renew =
    let f = part-found s read part in
    let w = f.3 in
    let es = stretch (seen a) t from to in
    let g = kill_in es t in
    let change : IsLineChange t g a.calls.items mid.items = record {
      count = kills.same_count;
      at = λ i x h. grind (arith, nat_tests, killed-call w i x h, kills.calls i x h, w.part.train_is);
    } in
    let edit = renewed-edit a ys t x.len g mid.items f.0 f.1 w.of change (ap (λ (r : TrainRecord). r.len) (row-of x w.of at row)) renew (more ∙ capacity) in
    (edited-stored a ys o t g f.0 f.1 edit, rw (← view, edited-trains a ys o t g f.0 f.1 edit, spare, removed-left w (Some (from, to)) es o same (λ v. (among-test w v).0) choices) refl)
