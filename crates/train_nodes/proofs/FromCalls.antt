-- The events of a train from the arrival at one of its calls on.
use Rattle.train_nodes.proofs.Words.{◌≡◌, ℕ, zero, suc, ◌+◌, ◌-◌, ◌<◌, ◌≤◌, List, [], ◌∷◌, Bool, true, false, None, Some, length, drop, get_or, refl, sym, ◌∙◌, ap, arith, inl, inr}
use Rattle.train_nodes.proofs.Words.{slice_get, slice_get_cases, find, map, after, Call, Node, State, calls_of, is_call, is_event, is_same_node, node_at, events_at, nat_tests, first-from}
use Rattle.train_nodes.proofs.Words.{walk, call_of, call_named, StoredCall, TrainRecord, NumberedTrain, Inside, IsStored, IsCurrentAt, HasNoCurrent, first_slot, line_of, seen, Train}
use Rattle.delay_model.specs.Cuts as Cuts
use Rattle.delay_model.specs.Events.{train_events}
use Rattle.train_nodes.proofs.ReadLemmas.{found-read}
use Rattle.train_nodes.proofs.StoredLemmas.{IsFound, none-named, row-train, row-of}

-- they are those of the calls from that one on
from-calls : (t route l : ℕ) (cs : List Call) → Cuts.from (is_event (node_at t l false)) (events_at t route cs) ≡ events_at t route (Cuts.from (is_call l) cs)
unfolding is_same_node
from-calls t route l [] = refl
from-calls t route l (c ∷ cs) = grind (arith, nat_tests, from-calls t route l cs)

from-none : (l : ℕ) (cs : List Call) → find (is_call l) cs ≡ None → Cuts.from (is_call l) cs ≡ []
from-none l [] h = refl
from-none l (c ∷ cs) h = grind (arith, h, from-none l cs)

-- a walk from one of its calls on
walk-from : (cs : List StoredCall) (n s k m slot : ℕ) (x : StoredCall) → n ≡ k + m → slice_get (walk cs n s) k ≡ Some x → slice_get cs slot ≡ Some x → drop k (map call_of (walk cs n s)) ≡ map call_of (walk cs m slot)
walk-from cs zero s k m slot x l e h = absurd (cc)
walk-from cs (suc n) s zero zero slot x l e h = absurd (omega arith)
walk-from cs (suc n) s zero (suc m) slot x l e h = let same : n ≡ m = omega arith in grind (arith, same, e, h, slice_get_cases cs s)
walk-from cs (suc n) s (suc k) m slot x l e h = grind (arith, e, h, slice_get_cases cs s, λ (z : ℕ). walk-from cs n z k m slot x (omega arith))

-- none, where the train has no such call
pub missing-from : {a : Inside} {st : State} {cs : List StoredCall} (t l : ℕ) → IsStored a → seen a ≡ st → cs ≡ a.calls.items → HasNoCurrent cs a.slots t l → Cuts.from (is_event (node_at t l false)) (train_events st t) ≡ []
missing-from {a} t l s v e c =
    let none : call_named (seen a) t l ≡ None = none-named a t l s (rw e at c) in
    rw (← v) (grind (arith, none, λ (r : Train). from-calls t r.route l r.calls, λ (r : Train). from-none l r.calls))

-- as many calls as stand from its place on
from-found : {a : Inside} {t l slot : ℕ} {x : StoredCall} {r : TrainRecord} {n : NumberedTrain} → IsFound a t l slot x r n → Cuts.from (is_event (node_at t l false)) (train_events (seen a) t) ≡ events_at t r.route (map call_of (walk a.calls.items (r.len - x.place) slot))
from-found {a} {t} {l} {slot} {x} {r} {n} w =
    let calls = map call_of (line_of a.calls.items r.len n) in
    let tail : drop x.place calls ≡ map call_of (walk a.calls.items (r.len - x.place) slot) = walk-from a.calls.items r.len (first_slot n) x.place (r.len - x.place) slot x (omega (arith, w.within)) w.place w.stored in
    rw (row-train a t r n w.of) (from-calls t r.route l calls ∙ ap (events_at t r.route) (first-from (is_call l) x.place calls w.first ∙ tail))

pub from-read : {a : Inside} {st : State} {cs : List StoredCall} {t l slot : ℕ} {x : StoredCall} (s : IsStored a) (v : seen a ≡ st) (e : cs ≡ a.calls.items) (c : IsCurrentAt cs a.slots t l slot) (is : x ≡ get_or a.calls.items slot x) → (let r = (found-read s v e c is).0 in (x.place ≤ r.len) × (Cuts.from (is_event (node_at t l false)) (train_events st t) ≡ events_at t r.route (map call_of (walk a.calls.items (r.len - x.place) slot))))
from-read {t = t} {l} s v e c is =
    let w = (found-read s v e c is).2 in
    (omega (arith, w.within), ap (λ st. Cuts.from (is_event (node_at t l false)) (train_events st t)) (sym v) ∙ from-found w)

-- what stands from or after an event of the call on is the same in them
cut-from : (n : Node) (route : ℕ) (cs : List Call) → (let es = events_at n.train route cs in let left = Cuts.from (is_event (node_at n.train n.label false)) es in (Cuts.from (is_event n) left ≡ Cuts.from (is_event n) es) × (after (is_event n) left ≡ after (is_event n) es))
unfolding is_same_node
cut-from n route [] = (refl, refl)
cut-from n route (c ∷ cs) = grind (arith, nat_tests, cut-from n route cs)

pub since-call : (st : State) (n : Node) → (let es = train_events st n.train in let left = Cuts.from (is_event (node_at n.train n.label false)) es in (Cuts.from (is_event n) left ≡ Cuts.from (is_event n) es) × (after (is_event n) left ≡ after (is_event n) es))
since-call st n = grind (arith, λ (t : Train). cut-from n t.route t.calls)
