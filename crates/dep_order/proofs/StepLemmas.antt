-- What is read of a number.
use Rattle.dep_order.proofs.Words.{◌≡◌, ◌<◌, ◌≤◌, ℕ, zero, suc, List, [], ◌∷◌, None, Some, true, refl, sym, ◌∙◌, ap, arith, length, length-map, map, get_or, slice_get_past, Departure, Hot, Lists, Slot, held, AreKept, blank_onward, departure_in, entries_of, hot_part, leaving, leaving_among, onward_in, onwards_of, slot_at, stored_in}
use Rattle.dep_order.proofs.NumberLemmas.{leaving-is}
use Rattle.dep_order.proofs.SlotLemmas.{held-slot, there-in-slot}
use Rattle.dep_order.proofs.StoredLemmas.{read}

onward-slot : (ss : List Slot) (i : ℕ) → i < length ss → get_or (map onward_in ss) i blank_onward ≡ onward_in (slot_at ss i)
onward-slot [] i l = absurd (omega arith)
onward-slot (s ∷ ss) zero l = refl
onward-slot (s ∷ ss) (suc i) l = onward-slot ss i (omega arith)

pub onward-read : (ss : List Slot) (i : ℕ) (h : Hot) → i < length (map onward_in ss) → h ≡ hot_part (slot_at ss i) → record { arrival = h.arrival; to = h.to; next = h.next } ≡ get_or (map onward_in ss) i blank_onward
onward-read ss i h l e = rw (e, onward-slot ss i (omega (arith, length-map ss onward_in))) refl

leaving-from : (l : Lists) (i : ℕ) (d : Departure) (h : Hot) → h ≡ hot_part (slot_at l.slots i) → stored_in (slot_at l.slots i) ≡ d → get_or (onwards_of l) i blank_onward ≡ onward_in (slot_at l.slots i) → record { number = i; time = h.time; stop = h.stop; arrival = h.arrival; to = h.to; next = h.next } ≡ leaving i d (get_or (onwards_of l) i blank_onward)
leaving-from l i d h e own beside = rw (e, ← own, beside) refl

-- a departure as a scan comes to it
pub leaving-read : (l : Lists) → AreKept l → (i : ℕ) (d : Departure) (h : Hot) → i < length l.slots → held (entries_of l) i ≡ Some d → h ≡ hot_part (slot_at l.slots i) → record { number = i; time = h.time; stop = h.stop; arrival = h.arrival; to = h.to; next = h.next } ≡ leaving_among (entries_of l) (onwards_of l) d
leaving-read l k i d h low is e =
    let own : stored_in (slot_at l.slots i) ≡ d = (read l i d k is).departure in
    let beside = onward-slot l.slots i low in
    leaving-from l i d h e own beside ∙ sym (leaving-is (entries_of l) (onwards_of l) i d k.calls is)

-- whether a departure has a number
pub past-none : (l : Lists) (n : ℕ) → length l.slots ≤ n → None ≡ held (entries_of l) n
past-none l n past = let none = slice_get_past (entries_of l) n (omega (arith, length-map l.slots departure_in)) in rw none refl

-- each departure that is kept is one
pub all-depart : (l : Lists) (i : ℕ) (d : Departure) → held (entries_of l) i ≡ Some d → d.key.dep ≡ true
all-depart l i d is =
    let own = (there-in-slot (slot_at l.slots i) d (sym (held-slot l.slots i) ∙ is)).0 in
    sym (ap (λ (d : Departure). d.key.dep) own)
