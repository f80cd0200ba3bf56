-- A forecast or a report changes one event, and of the others only the caps.
use Rattle.state_laws.proofs.Words.{◌≡◌, ℕ, ◌^◌, ◌<◌, true, false, [], ◌∷◌, None, refl, sym, ◌∙◌, ap, ◌≢◌, false_from_ne_true, All-head, arith, All, Contains, node_of, Node, with_event}
use Rattle.state_laws.proofs.Words.{Option, IfSome, with_forecast, change_labelled, change_event, events, is_event, cap, IsValid, Network, Event, EventValues, State, same_node-is}
use Rattle.state_laws.proofs.Values.{IsSetting, set_at, set-shape, set-mapped, other-train, put_forecast, sets-forecast, forecast-valid}
use Rattle.state_laws.proofs.Untouched.{IsLeft}
use Rattle.state_laws.proofs.Joined.{left-by}
use Rattle.state_laws.proofs.Caps.{cap-mapped}
use Rattle.state_laws.proofs.Mappings.{IsMapping, contains-unmap, mapping-events, mapping-joined}

-- an event of another name has not this name
pub not-event : (n : Node) (v : Event) → n ≢ node_of v.key → is_event n v ≡ false
not-event n v ne = false_from_ne_true (is_event n v) (λ same. ne (sym (same_node-is (node_of v.key) n same)))

pub set-mapping : (st : State) (n : Node) (f : EventValues → EventValues) (k : Event → Event) → IsSetting f k → IsMapping st (with_event n f st) n.train (change_labelled n.label (change_event n.dep f)) (set_at n k)
set-mapping st n f k s =
    record { mapped = set-mapped n f k s; others = λ v ne. rw (other-train n v ne); shape = λ v _. set-shape n f k s v; trains = refl }

-- an event of another name was there before
pub set-there : (st : State) (n : Node) (f : EventValues → EventValues) (k : Event → Event) → IsSetting f k → (w : Event) → Contains (events (with_event n f st)) w → n ≢ node_of w.key → Contains (events st) w
set-there st n f k s w h ne =
    let m = set-mapping st n f k s in
    let r = contains-unmap (set_at n k) (events st) w (rw (mapping-events st _ n.train _ (set_at n k) m) at h) in
    let key : node_of r.0.key ≡ node_of w.key = ap node_of (rw r.2 at (sym (m.mapped.keys r.0))) in
    let same : r.0 ≡ w = rw (not-event n r.0 (λ e. ne (e ∙ key))) at r.2 in
    rw same at r.1

-- what is left, where the cap is
pub set-left : (nw : Network) (st : State) (n : Node) (f : EventValues → EventValues) (k : Event → Event) → IsSetting f k → IsValid nw st → IsValid nw (with_event n f st) → (w : Event) → Contains (events (with_event n f st)) w → w.live ≡ true → n ≢ node_of w.key → (w.report ≡ None → cap (events st) w ≡ cap (events (with_event n f st)) w) → IsLeft nw st (with_event n f st) w
set-left nw st n f k s before after w h live ne caps =
    let new = with_event n f st in
    left-by nw st new w before after (set-there st n f k s w h ne) h caps
    (mapping-joined nw st new n.train _ (set_at n k) (set-mapping st n f k s) before w h live (λ _ _ _. refl))

-- a forecast that is given or taken back
pub forecast-left : (nw : Network) (st : State) (n : Node) (o : Option ℕ) → IsValid nw st → IfSome o (λ t. t < 2 ^ 24) → (w : Event) → Contains (events (with_event n (with_forecast o) st)) w → w.live ≡ true → All (λ k. k ≢ node_of w.key) (n ∷ []) → IsLeft nw st (with_event n (with_forecast o) st) w
forecast-left nw st n o valid small w h live free =
    let k = put_forecast o in
    let g = set_at n k in
    let f = with_forecast o in
    let s = sets-forecast o in
    let m = set-mapping st n f k s in
    set-left nw st n f k s valid (forecast-valid nw st n o valid small) w h live (All-head (λ k. k ≢ node_of w.key) n [] free) (λ _.
    rw (mapping-events st _ n.train _ g m) (sym (cap-mapped g m.mapped.keys (events st) w (λ i d l. grind arith))))
