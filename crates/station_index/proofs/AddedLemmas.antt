-- Flags of the stops and kinds of events where entries were added.
use Rattle.station_index.proofs.Words.{◌≡◌, ℕ, zero, suc, List, [], ◌∷◌, Bool, true, false, get_or, refl, sym, ◌∙◌, ap, inl, inr, All, set, filter, and_parts, cases_Bool, eqb-true, All-weaker, Entry, is_in_range, with_entry, slot_number, slot_of}
use Rattle.station_index.proofs.EntryLemmas.{beq-true}
use Rattle.station_index.proofs.OrderLemmas.{with-all}
use Rattle.station_index.proofs.PlaceLemmas.{none-pass}

-- the flag of the stop and kind of the entry is set, or there is none
abbrev pub IsEverAdded : List Bool → Entry → Type 0
IsEverAdded flags e = get_or flags (slot_of e) true ≡ true

set-keeps : (flags : List Bool) (s k : ℕ) → get_or flags k true ≡ true → get_or (set flags s true) k true ≡ true
set-keeps [] s k h = h
set-keeps (b ∷ flags) zero zero h = refl
set-keeps (b ∷ flags) zero (suc k) h = h
set-keeps (b ∷ flags) (suc s) zero h = h
set-keeps (b ∷ flags) (suc s) (suc k) h = set-keeps flags s k h

set-now : (flags : List Bool) (s : ℕ) → get_or (set flags s true) s true ≡ true
set-now [] s = refl
set-now (b ∷ flags) zero = refl
set-now (b ∷ flags) (suc s) = set-now flags s

-- an entry more
pub with-added : (flags : List Bool) (e : Entry) (es : List Entry) → All (IsEverAdded flags) es → All (IsEverAdded (set flags (slot_of e) true)) (with_entry e es)
with-added flags e es h =
    let now = set flags (slot_of e) true in
    with-all (IsEverAdded now) e es (set-now flags (slot_of e)) (All-weaker (IsEverAdded flags) (IsEverAdded now) (λ x. set-keeps flags (slot_of e) (slot_of x)) es h)

-- where none was ever added, none is in a range
pub none-ever_added : (flags : List Bool) (stop : ℕ) (dep : Bool) (lo hi : ℕ) (es : List Entry) → All (IsEverAdded flags) es → get_or flags (slot_number stop dep) true ≡ false → [] ≡ filter (is_in_range stop dep lo hi) es
none-ever_added flags stop dep lo hi es h none =
    sym (none-pass (is_in_range stop dep lo hi) es (λ k d l.
    let e = get_or es k d in
    elim (cases_Bool (is_in_range stop dep lo hi e)) [
      | inl inside ↦
          (let here = and_parts _ _ inside in
          let kind = and_parts _ _ here.1 in
          let same : slot_of e ≡ slot_number stop dep = ap (λ s. slot_number s e.dep) (eqb-true _ _ here.0) ∙ ap (slot_number stop) (beq-true _ _ kind.0) in
          let set : get_or flags (slot_number stop dep) true ≡ true = ap (λ s. get_or flags s true) (sym same) ∙ h k d l in
          cc)
      | inr outside ↦ outside
    ]))
