-- The calls of a part of a train, changed one after the other.
use Rattle.call_lines.proofs.Words.{change_event, ◌≡◌, ℕ, ◌+◌, ◌-◌, ◌<◌, ◌≤◌, List, Bool, true, false, cond, ◌&&◌, nat_eq, Some, length, refl, ◌∙◌, arith, slice_get, get_or, set, nat_tests}
use Rattle.call_lines.proofs.Words.{length-set, get_or-set_same, killed, slice_get_within, slice_get_read, slice_get_cases, set-get, edited, IsPart, IsKilledCall, IsKilled}
use Rattle.call_lines.proofs.Words.{AreTakenOut, call_of, IsEdited, Kill, StoredCall}
use Rattle.call_lines.proofs.TrainLines.{placed-at}

-- what is read in a list, also where one element is set
pub ruleset slots = (set-get, slice_get_cases, length-set, slice_get_read, slice_get_within, nat_tests)

-- what stands in a list where one element is set that was read before
read-set : {X : Type 0} (xs : List X) (s i : ℕ) (x y z : X) → s < length xs → x ≡ get_or xs s x → slice_get xs i ≡ Some z → (slice_get (set xs s y) i ≡ Some (cond (nat_eq i s) y z)) × (nat_eq i s ≡ true → z ≡ x)
read-set xs s i x y z l e h = grind (arith, slots, h)

-- the call at a place of a train stands in this slot
pub record IsStanding (cs : List StoredCall) (train place slot : ℕ) : Type 0 where
  pub call : StoredCall
  pub stored : slice_get cs slot ≡ Some call
  pub within : slot < length cs
  pub train_is : call.train ≡ train
  pub is_current : call.current ≡ true
  pub place_is : call.place ≡ place

-- an event of a call is killed, if a test says so
record IsKilledIf (dep b : Bool) (x y : StoredCall) : Type 0 where
  pub rest : IsEdited x y
  pub call : call_of y ≡ cond b (change_event dep (killed true) (call_of x)) (call_of x)
  pub other : b ≡ false → y ≡ x

killed-if : (dep : Bool) (xs : List StoredCall) (s i : ℕ) (x y z : StoredCall) → s < length xs → x ≡ get_or xs s x → call_of y ≡ change_event dep (edited Kill) (call_of x) → IsEdited x y → slice_get xs i ≡ Some z → (u : StoredCall) × (slice_get (set xs s y) i ≡ Some u) × IsKilledIf dep (nat_eq i s) z u
killed-if dep xs s i x y z l e f g h = grind (arith, nat_tests, read-set xs s i x y z l e h)

-- one ride more
ride-killed : (train first place : ℕ) (b d : Bool) (x y u v : StoredCall) → first ≤ place → IsKilledCall train first place x y → IsKilledIf true b y u → IsKilledIf false d u v → b ≡ ((nat_eq x.train train && x.current) && nat_eq x.place place) → d ≡ ((nat_eq x.train train && x.current) && nat_eq x.place (place + 1)) → IsKilledCall train first (place + 1) x v
ride-killed train first place b d x y u v l h k m e f = grind (arith, nat_tests)

module _ {cs : List StoredCall} {train from to first last : ℕ} (w : IsPart cs train from to first last) where
  -- each place of the train is that of a slot
  stands-at : (place slot : ℕ) → place < w.len → w.at place ≡ slot → IsStanding cs train place slot
  stands-at place slot l e = grind (arith, w.placed.line.calls place l, w.placed.line.current place, w.placed.places place, slice_get_within cs slot)

  -- the part begins and ends so
  pub begins : IsStanding cs train first from
  begins = stands-at first from (omega arith) w.start

  pub ends : IsStanding cs train last to
  ends = stands-at last to w.within w.end

  -- and of no other
  standing-at : {place slot : ℕ} → IsStanding cs train place slot → w.at place ≡ slot
  standing-at {slot = slot} s = grind (arith, placed-at cs train w.len w.at w.placed slot s.call s.stored s.train_is s.is_current)

  -- a call stands in that slot exactly where it is the train's at that place
  pub standing-test : {place slot : ℕ} (i : ℕ) (x : StoredCall) → IsStanding cs train place slot → slice_get cs i ≡ Some x → nat_eq i slot ≡ ((nat_eq x.train train && x.current) && nat_eq x.place place)
  standing-test {place} {slot} i x s h = grind (arith, nat_tests, s, h, standing-at s, placed-at cs train w.len w.at w.placed i x h)

  -- the slot to which a call leads that was read there
  pub next-slot : {mid : List StoredCall} {place slot next : ℕ} (x y z : StoredCall) → IsKilled train first place cs mid → IsStanding cs train place slot → place < last → x ≡ get_or mid slot x → IsEdited x y → z ≡ get_or (set mid slot y) slot z → next ≡ z.after → IsStanding cs train (place + 1) next
  next-slot {mid} {place} {slot} {next} x y z k s l x_at y_rest z_at e =
      stands-at (place + 1) next (omega arith) (grind (arith, standing-at s, s.stored, w.placed.line.calls place (omega arith), k.calls slot s.call s.stored, get_or-set_same mid slot y z, slice_get_read mid (length mid) slot x refl (omega arith) x_at))

  pub next-left : {mid : List StoredCall} {place slot next : ℕ} (x : StoredCall) → AreTakenOut train first place cs mid → IsStanding cs train (place - 1) slot → first < place → place < last → x ≡ get_or mid slot x → next ≡ x.after → IsStanding cs train place next
  next-left {mid} {place} {slot} {next} x k s m l x_at e =
      stands-at place next (omega arith) (grind (arith, standing-at s, s.stored, w.placed.line.calls (place - 1) (omega arith), k.calls slot s.call s.stored, slice_get_read mid (length mid) slot x refl (omega arith) x_at))

  -- a step of the loop: the departure of the call in one slot, and the arrival of the next
  pub kill-more : {mid : List StoredCall} {place slot next : ℕ} (x y u v : StoredCall) → first ≤ place → IsKilled train first place cs mid → IsStanding cs train place slot → IsStanding cs train (place + 1) next → x ≡ get_or mid slot x → call_of y ≡ change_event true (edited Kill) (call_of x) → IsEdited x y → u ≡ get_or (set mid slot y) next u → call_of v ≡ change_event false (edited Kill) (call_of u) → IsEdited u v → IsKilled train first (place + 1) cs (set (set mid slot y) next v)
  kill-more {mid} {place} {slot} {next} x y u v l k s t x_at y_call y_rest u_at v_call v_rest =
      record {
        same_count = length-set (set mid slot y) next v ∙ length-set mid slot y ∙ k.same_count;
        calls = λ i z h.
            let a = k.calls i z h in
            let b = killed-if true mid slot i x y a.0 (omega arith) x_at y_call y_rest a.1 in
            let c = killed-if false (set mid slot y) next i u v b.0 (omega (arith, length-set mid slot y)) u_at v_call v_rest b.1 in
            (c.0, c.1, ride-killed train first place _ _ z a.0 b.0 c.0 l a.2 b.2 c.2 (standing-test i z s h) (standing-test i z t h));
      }

  -- the call at one place more
  pub out-next : {mid : List StoredCall} {place slot : ℕ} (x y : StoredCall) → first < place → AreTakenOut train first place cs mid → IsStanding cs train place slot → x ≡ get_or mid slot x → y ≡ record x { current = false } → AreTakenOut train first (place + 1) cs (set mid slot y)
  out-next {mid} {place} {slot} x y l k s x_at e =
      record {
        same_count = length-set mid slot y ∙ k.same_count;
        calls = λ i z h.
            let a = k.calls i z h in
            grind (arith, nat_tests, a, standing-test i z s h, read-set mid slot i x y a.0 (omega arith) x_at a.1);
      }
