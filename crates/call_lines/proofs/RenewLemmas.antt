-- A line of calls that is gone through backwards, each call given its place and the first report after it.
use Rattle.call_lines.proofs.Words.{slice_get-set_same, slice_get-set_other, ◌≡◌, ◌≢◌, ℕ, zero, suc, ◌+◌, ◌-◌, ◌<◌, ◌≤◌, List, ◌∷◌, length, get_or, map, refl}
use Rattle.call_lines.proofs.Words.{◌∙◌, arith, Option, Some, slice_get, set, slice_get-get_or, slice_get_within, length-set, cases_eq}
use Rattle.call_lines.proofs.Words.{inl, inr, option_or, StoredCall, walk, call_of, call_report, report_of, next_report_of, All, slice_get_cases, slice_get_past}
use Rattle.call_lines.proofs.Words.{None, drop, get_or_from_slice_get, length-drop, IsKnownFrom}
use Rattle.call_lines.proofs.Words.{IsLineCall, IsPlaced, HasNextReports, IsRenewed, IsRenewedCall, IsLine, HasDistinctLabels, AreKnown, Call, [], same-gets, sym, subst, slice_get-map}
use Rattle.call_lines.proofs.CallPlaces.{get-drop}
use Rattle.call_lines.proofs.TrainLines.{line-at, line-length, same-within, walked}

abbrev Alike : ℕ → List StoredCall → List StoredCall → Type 0
Alike train old new = (i : ℕ) (x : StoredCall) → slice_get old i ≡ Some x → IsRenewedCall train old new i x

-- the calls along a line stay what they are
pub calls-alike : (train n slot : ℕ) (old new : List StoredCall) → length new ≡ length old → Alike train old new → map call_of (walk new n slot) ≡ map call_of (walk old n slot)
calls-alike train zero slot old new c h = refl
calls-alike train (suc n) slot old new c h = elim (slice_get_cases old slot).1 [
  | inl x ↦ grind (arith, x.2, h slot x.0 x.2, calls-alike train n x.0.after old new c h)
  | inr none ↦ grind (arith, none, c, slice_get_past new slot)
]

-- the calls after a place of a walk have other labels than the one there
labels-after : (cs : List StoredCall) (n s q m : ℕ) (x : StoredCall) → n ≡ m + suc q → HasDistinctLabels (map call_of (walk cs n s)) → slice_get (walk cs n s) q ≡ Some x → All (λ d. x.label ≢ d.label) (map call_of (walk cs m x.after))
labels-after cs zero s q m x e d h = absurd (cc)
labels-after cs (suc n) s zero m x e d h = let same : n ≡ m = omega arith in grind (arith, same, d, h, slice_get_cases cs s)
labels-after cs (suc n) s (suc q) m x e d h = grind (arith, d, h, slice_get_cases cs s, λ (z : ℕ). labels-after cs n z q m x (omega arith))

-- where the calls of a walk have other labels than the one in a slot, to set that one leaves the walk
walk-set : (cs : List StoredCall) (n s slot l : ℕ) (x y : StoredCall) → slice_get cs slot ≡ Some x → x.label ≡ l → All (λ d. l ≢ d.label) (map call_of (walk cs n s)) → walk (set cs slot y) n s ≡ walk cs n s
walk-set cs zero s slot l x y h e a = refl
walk-set cs (suc n) s slot l x y h e a = elim (slice_get_cases cs s).1 [
  | inl z ↦ (let b = rw z.2 at a in grind (arith, h, e, b 0 (call_of z.0) (omega arith), z.2, slice_get-set_other cs slot s y, walk-set cs n z.0.after slot l x y h e (λ k d m. b (suc k) d (omega arith))))
  | inr none ↦ grind (arith, h, none, slice_get-set_other cs slot s y)
]

-- of a line, the calls from the place `todo` on were gone through; the next one stands in the slot, before the first report `next`
pub record IsPartlyRenewed (train len todo : ℕ) (at : ℕ → ℕ) (old new : List StoredCall) (slot : ℕ) (next : Option ℕ) : Type 0 where
  pub within : todo ≤ len
  pub same_count : length new ≡ length old
  pub alike : Alike train old new
  pub slot_is : 0 < todo → slot ≡ at (todo - 1)
  pub next_is : next ≡ report_of (map call_of (walk new (len - todo) (at todo)))
  pub places : (j : ℕ) (x : StoredCall) → slice_get (walk new (len - todo) (at todo)) j ≡ Some x → x.place ≡ todo + j
  pub reports : HasNextReports (walk new (len - todo) (at todo))

-- the calls of a line from a place on
rest-of : {train first last len : ℕ} {cs : List StoredCall} (h : IsLine train first last len cs) (place : ℕ) → place ≤ len → drop place (walk cs len first) ≡ walk cs (len - place) (h.at place)
rest-of {train} {first} {last} {len} {cs} h place l =
    let all = rw h.begins at (line-length cs train len h.at h.calls) in
    let rest = walked cs train len h.at h.calls (len - place) place (h.at place) (omega (arith, l)) (λ m. refl) in
    let by = rw h.begins at (line-at cs train len h.at h.calls) in
    same-within _ _ (length-drop place (walk cs len first) ∙ (rw all (sym rest.0))) (λ k m.
    let inside : k < len - place = omega (arith, m, length-drop place (walk cs len first), all) in
    get-drop place (walk cs len first) k ∙ by (place + k) (omega (arith, inside)) ∙ sym (rest.1 k (place + k) inside refl))

-- where those know their places and the first reports after them, they are gone through as they are
pub from-known : {train first last len place slot : ℕ} {next : Option ℕ} {cs : List StoredCall} (w : IsKnownFrom train first last len place slot next cs) → IsPartlyRenewed train len place w.line.at cs cs slot next
from-known {first = first} {len = len} {place = place} {cs = cs} w =
    let rest = rest-of w.line place w.within in
    record {
      within = w.within;
      same_count = refl;
      alike = λ i x e. record { now = x; there = e; same = refl; other = λ ne. refl };
      slot_is = w.slot_is;
      next_is = rw rest at w.next_is;
      places = λ j x e. w.places (place + j) x (omega arith) (sym (get-drop place (walk cs len first) j) ∙ (rw (← rest) at e));
      reports = rw rest at w.reports;
    }

-- and behind the last of a line is none
pub known-end : {train first last len : ℕ} {cs : List StoredCall} → IsLine train first last len cs → IsKnownFrom train first last len len last None cs
known-end {train} {first} {last} {len} {cs} h =
    let none : len - len ≡ 0 = omega arith in
    let rest = rest-of {train = train} {last = last} h len (omega arith) in
    let empty : drop len (walk cs len first) ≡ [] = rw none at rest in
    let count = rw h.begins at (line-length cs train len h.at h.calls) in
    record {
      line = h;
      within = omega arith;
      slot_is = λ l. sym h.ends;
      next_is = rw empty refl;
      places = λ k x l e. absurd (omega (arith, l, count, slice_get_within (walk cs len first) k x e));
      reports = rw empty tt;
    }

module _ {train first last len : ℕ} {old : List StoredCall} (h : IsLine train first last len old) {todo slot : ℕ} {new : List StoredCall} {next : Option ℕ} (w : IsPartlyRenewed train len todo h.at old new slot next) (q : ℕ) (step : todo ≡ suc q) where
  -- the call before the place, and what stands in its slot now
  was : IsLineCall old train len h.at q
  was = h.calls q (omega (arith, w.within))

  now : IsRenewedCall train old new slot was.call
  now = w.alike slot was.call (grind (arith, w.slot_is, step, was.stored))

  pub inside : slot < length new
  inside = slice_get_within new slot now.now now.there

  module _ {x y : StoredCall} {report : Option ℕ} {before : ℕ} (at : x ≡ get_or new slot x) (placed : IsPlaced q x y) (noted : next_report_of y ≡ next) (told : report ≡ option_or (call_report (call_of x)) next) (leads : before ≡ y.before) where
    same_y : y ≡ record was.call { place = y.place; next_report = y.next_report }
    same_y = grind (arith, placed, now, slice_get-get_or new slot x inside, at)

    -- what was gone through stays, behind this call
    rest : walk (set new slot y) (len - q) (h.at q) ≡ y ∷ walk new (len - todo) (h.at todo)
    rest =
        let there = line-at old train len h.at h.calls q (omega (arith, w.within)) ∙ was.stored in
        let others = rw (← calls-alike train (len - todo) was.call.after old new w.same_count w.alike) at (labels-after old len first q (len - todo) was.call (omega (arith, w.within, step)) h.apart (rw h.begins at there)) in
        let more : len - q ≡ suc (len - todo) = omega (arith, w.within, step) in
        grind (arith, more, w.slot_is, step, slice_get-set_same new slot y inside, same_y, cases_eq (len - todo) 0, was.after_is, walk-set new (len - todo) was.call.after slot was.call.label now.now y now.there (grind (arith, now)) others)

    pub goes-on : IsPartlyRenewed train len q h.at old (set new slot y) before report
    goes-on =
        let alike : Alike train old (set new slot y) = λ i z e. grind (arith, e, cases_eq i slot, w.slot_is, step, was, same_y, slice_get-set_same new slot y inside, slice_get-set_other new slot i y, w.alike i z e) in
        grind (arith, w, rest, alike, λ (j : ℕ). w.places (j - 1), placed, step, noted, told, leads, same_y, length-set new slot y, was.before_is)

-- to set what stands in a slot changes nothing
set-itself : {X : Type 0} (xs : List X) (i : ℕ) (x : X) → slice_get xs i ≡ Some x → set xs i x ≡ xs
set-itself xs i x h =
    same-gets (set xs i x) xs (λ k. grind (arith, h, cases_eq k i, slice_get-set_same xs i x (slice_get_within xs i x h), slice_get-set_other xs i k x))

-- calls at two places have different labels
labels-differ : (cs : List Call) (j k : ℕ) (c d : Call) → HasDistinctLabels cs → j < k → slice_get cs j ≡ Some c → slice_get cs k ≡ Some d → c.label ≢ d.label
labels-differ [] j k c d h l e f = absurd (cc)
labels-differ (b ∷ bs) zero (suc k) c d h l e f = grind (arith, e, f, h.0 k d (slice_get_within bs k d f), slice_get-get_or bs k d (slice_get_within bs k d f))
labels-differ (b ∷ bs) (suc j) (suc k) c d h l e f = labels-differ bs j k c d h.1 (omega arith) e f
labels-differ (b ∷ bs) j zero c d h l e f = absurd (omega arith)

-- the calls at the places that are still to come are as they were
abbrev pub StaysBelow : ℕ → (ℕ → ℕ) → List StoredCall → List StoredCall → Type 0
StaysBelow todo at old new = (j : ℕ) → j < todo → slice_get new (at j) ≡ slice_get old (at j)

module _ {train first last len : ℕ} {old : List StoredCall} (h : IsLine train first last len old) where
  walk-at : (j : ℕ) → j < len → slice_get (walk old len first) j ≡ slice_get old (h.at j)
  walk-at j l = rw h.begins at (line-at old train len h.at h.calls j l)

  -- at two places stand two calls
  slots-differ : (j k : ℕ) → j < k → k < len → h.at j ≢ h.at k
  slots-differ j k l m e =
      let c = h.calls j (omega arith) in
      let d = h.calls k m in
      let calls = walk old len first in
      let stands : (i : ℕ) (x : StoredCall) → i < len → slice_get old (h.at i) ≡ Some x → slice_get (map call_of calls) i ≡ Some (call_of x) = λ i x n g. grind (arith, slice_get-map call_of calls i, walk-at i n, g) in
      labels-differ (map call_of calls) j k (call_of c.call) (call_of d.call) h.apart l (stands j c.call (omega arith) c.stored) (stands k d.call m d.stored) (grind (arith, e, c.stored, d.stored))

  pub stays-below : (q slot : ℕ) (y : StoredCall) (new : List StoredCall) → q < len → slot ≡ h.at q → StaysBelow (suc q) h.at old new → StaysBelow q h.at old (set new slot y)
  stays-below q slot y new l e k j m = slice_get-set_other new slot (h.at j) y (λ same. slots-differ j q m l (same ∙ e)) ∙ k j (omega arith)

  slot-at : {q slot : ℕ} {new : List StoredCall} {next : Option ℕ} → IsPartlyRenewed train len (suc q) h.at old new slot next → slot ≡ h.at q
  slot-at {q} w = let back : suc q - 1 ≡ q = omega arith in rw back at (w.slot_is (omega arith))

  -- once all were gone through they are renewed
  pub all-renewed : (new : List StoredCall) (slot : ℕ) (next : Option ℕ) → IsPartlyRenewed train len 0 h.at old new slot next → IsRenewed train first len old new
  all-renewed new slot next w = grind (arith, h.begins, w)

  module _ {known : ℕ} (knows : AreKnown known (walk old len first)) where
    -- a call that knows its place and the first report after it is gone through as it is
    known-one : (q slot : ℕ) (new : List StoredCall) (next : Option ℕ) (x : StoredCall) → IsPartlyRenewed train len (suc q) h.at old new slot next → StaysBelow (suc q) h.at old new → q < known → slice_get new slot ≡ Some x → next_report_of x ≡ next → IsPartlyRenewed train len q h.at old new x.before (option_or (call_report (call_of x)) next)
    known-one q slot new next x w stays l there noted =
        let is = slot-at w in
        let place : x.place ≡ q = knows.places q x l (walk-at q (omega (arith, w.within)) ∙ sym (stays q (omega arith)) ∙ (rw is at there)) in
        let placed : IsPlaced q x x = grind (arith, place) in
        rw (set-itself new slot x there) at (goes-on h w q refl {x = x} {y = x} {report = option_or (call_report (call_of x)) next} {before = x.before} (sym (get_or_from_slice_get new slot x x there)) placed noted refl refl)

    -- and so are those before it
    pub known-rest : (q slot : ℕ) (new : List StoredCall) (next : Option ℕ) (x : StoredCall) → IsPartlyRenewed train len (suc q) h.at old new slot next → StaysBelow (suc q) h.at old new → q < known → slice_get new slot ≡ Some x → next_report_of x ≡ next → IsRenewed train first len old new
    known-rest zero slot new next x w stays l there noted = all-renewed new _ _ (known-one zero slot new next x w stays l there noted)
    known-rest (suc q) slot new next x w stays l there noted =
        let more = known-one (suc q) slot new next x w stays l there noted in
        let c = h.calls q (omega (arith, w.within)) in
        let before = walk-at q (omega (arith, w.within)) ∙ c.stored in
        let here = walk-at (suc q) (omega (arith, w.within)) ∙ sym (stays (suc q) (omega arith)) ∙ (rw (slot-at w) at there) in
        let more-is : suc q ≡ q + 1 = omega arith in
        let report : next_report_of c.call ≡ option_or (call_report (call_of x)) next = grind (arith, knows.reports q c.call x (omega (arith, l)) before (subst (λ (i : ℕ). slice_get (walk old len first) i ≡ Some x) more-is here), noted) in
        known-rest q x.before new (option_or (call_report (call_of x)) next) c.call more (λ j m. stays j (omega arith)) (omega (arith, l)) (rw (slot-at more) (stays q (omega arith) ∙ c.stored)) report
