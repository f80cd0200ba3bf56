-- Stored slots, with one more train and with one more call.
use Rattle.event_numbers.proofs.Words.{◌≡◌, ℕ, ◌+◌, ◌-◌, ◌<◌, ◌≤◌, [], ◌∷◌, ◌++◌, length, append-nil, append_assoc, Vec, Global, arith, Some, slice_get, set, length-append, length-set, slice_get_cases}
use Rattle.event_numbers.proofs.Words.{vec_capacity, AddedCall, TrainSlots, with_numbered, with_more, AreStored, IsLink, IsSlotRow, nat_tests}
use Rattle.std.specs.Vec.{with_item}
use Rattle.event_numbers.specs.declared.slots.Slots.TheInside.{Inside}
use Rattle.event_numbers.specs.StoredSlots.{seen}
use Rattle.event_numbers.proofs.ListLemmas.{change-get, get-append, same-gets, set-get}
use Rattle.event_numbers.proofs.LinkLemmas.{entry-more, linked-more, added-push}
use Rattle.event_numbers.proofs.SlotLemmas.{numbered-get, numbered-length}
use Rattle.event_numbers.proofs.NumberingLemmas.{grown-numbering, train-grown, calls-grown}

-- the row of a new train, whose calls have the slots from the first on
abbrev pub new_row : ℕ → ℕ → TrainSlots
new_row first calls = record { first = first; loaded = calls; added = 0; last = 0 }

-- one more train
abbrev pub with_row : ℕ → Vec TrainSlots Global → Inside → Inside
with_row calls rows a = record a { records = rows; used = a.used + calls; spare_trains = a.spare_trains - 1; spare_calls = a.spare_calls - calls }

pub pushed_seen : (calls : ℕ) (rows : Vec TrainSlots Global) (a : Inside) → AreStored a → rows.items ≡ a.records.items ++ new_row a.used calls ∷ [] → seen (with_row calls rows a) ≡ with_numbered calls (seen a)
pushed_seen calls rows a h is =
    grind (arith, same-gets (seen (with_row calls rows a)).trains (with_numbered calls (seen a)).trains (λ u. grind (arith, nat_tests, is, numbered-get, get-append, numbered-length, slice_get_cases a.records.items u, h.owned u, append-nil {A = ℕ})))

pub pushed-stored : (calls : ℕ) (rows : Vec TrainSlots Global) (a : Inside) → AreStored a → rows.items ≡ a.records.items ++ new_row a.used calls ∷ [] → vec_capacity rows ≡ vec_capacity a.records → 0 < a.spare_trains → calls ≤ a.spare_calls → 1 ≤ calls → AreStored (with_row calls rows a)
pushed-stored calls rows a old is capacity spare enough some =
    let numbering = grown-numbering _ 0 calls _ _ (train-grown calls (seen a)) old.numbering in
    grind (arith, nat_tests, old, is, capacity, spare, enough, length-append {A = TrainSlots}, some, get-append, pushed_seen calls rows a old is, numbering)

-- one more call of a train
abbrev pub with_entry : ℕ → ℕ → TrainSlots → Vec AddedCall Global → Inside → Inside
with_entry i last old calls a = record a { records = with_item a.records i record old { added = old.added + 1; last = last }; added = calls; used = a.used + 1; spare_calls = a.spare_calls - 1 }

pub record IsAdded (t i last : ℕ) (old : TrainSlots) (e : AddedCall) (calls : Vec AddedCall Global) (a : Inside) : Type 0 where
  pub stored : AreStored a
  pub is : slice_get a.records.items t ≡ Some old
  pub place : i ≡ t
  pub end : last ≡ length a.added.items
  pub items : calls.items ≡ a.added.items ++ e ∷ []
  pub train : e.train ≡ t
  pub nth : e.nth ≡ old.added
  pub slot : e.slot ≡ a.used
  pub link : IsLink (a.added.items ++ e ∷ []) e
  pub capacity : vec_capacity calls ≡ vec_capacity a.added
  pub some : 0 < a.spare_calls

module _ {t i last : ℕ} {old : TrainSlots} {e : AddedCall} {calls : Vec AddedCall Global} {a : Inside} (h : IsAdded t i last old e calls a) where
  pub added-seen : seen (with_entry i last old calls a) ≡ with_more t 1 (seen a)
  added-seen =
      grind (arith, same-gets (seen (with_entry i last old calls a)).trains (with_more t 1 (seen a)).trains (λ u. grind (arith, nat_tests, h, numbered-get, change-get, set-get, added-push, append_assoc {A = ℕ}, slice_get_cases a.records.items u)))

  added-row : (u : ℕ) (r : TrainSlots) → slice_get (set a.records.items i record old { added = old.added + 1; last = last }) u ≡ Some r → IsSlotRow calls.items (a.used + 1) u r
  added-row u r is = grind (arith, nat_tests, h, is, set-get, added-push, length-append {A = ℕ}, h.stored.records u, get-append, entry-more)

  pub added-stored : AreStored (with_entry i last old calls a)
  added-stored =
      let row = rw h.is at (numbered-get a.added.items 0 a.records.items t) in
      let numbering = grown-numbering _ _ 1 _ _ (calls-grown t 1 (seen a) _ row) h.stored.numbering in
      let linked = rw (← h.items) at (linked-more a.added.items e h.stored.linked h.link) in
      grind (arith, nat_tests, h, slice_get_cases a.records.items t, length-set {A = TrainSlots}, length-append {A = AddedCall}, linked, added-push, added-row, added-seen, numbering)
