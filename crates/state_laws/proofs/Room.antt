-- There stays room: what an accepted message takes was spare.
use Rattle.state_laws.proofs.Words.{◌≡◌, ℕ, zero, suc, ◌+◌, ◌-◌, ◌^◌, ◌<◌, ◌≤◌, Bool, true, not, cond, List, [], ◌∷◌, None, length, is_some, refl, sym, ◌∙◌, ap, arith, length-append, ◌≢◌}
use Rattle.state_laws.proofs.Words.{All-push, All-weaker, All-cons, All-nil, All-head, All-tail, FinMap, get, retain_keys, len, entries, entries_sorted, from_sorted, get-empty}
use Rattle.state_laws.proofs.Words.{get-retain_keys, get-entries, get-from_sorted, entries-from_sorted, len-insert, len-remove, len-entries, empty_of_len, same_map, All, Equal, Node, effect}
use Rattle.state_laws.proofs.Words.{change_train, with_override, without_override, without_overrides_of, names_one_of, stretch, events_between, new_train, connection, connection_cmp}
use Rattle.state_laws.proofs.Words.{refusal, overrides_short, HasRoom, Message, Report, Forecast, Correct, Withdraw, Cancel, Reroute, Extra, Keep, Drop, Rule, Network, Connection, Override, Kept, Dropped}
use Rattle.state_laws.proofs.Words.{Event, State, Train, connections_total, exact_connections}
use Rattle.std.specs.FinMap.Entries.{where_key, is_sorted-where_key, find-where_key}
use Rattle.state_laws.proofs.Accepted.{accepted-by}

where-le : (p : Connection → Bool) (es : List (Connection × Override)) → length (where_key connection_cmp p es) ≤ length es
where-le p [] = omega arith
where-le p (e ∷ es) = grind (arith, where-le p es)

-- of the entries that pass there are no more than entries
retain-le : (m : FinMap connection_cmp Override) (p : Connection → Bool) → len (retain_keys m p) ≤ len m
retain-le m p =
    let R = connection_cmp in
    let es = where_key R p (entries m) in
    let sorted = is_sorted-where_key R p (entries m) (entries_sorted m) in
    let same : retain_keys m p ≡ from_sorted es = same_map connections_total exact_connections _ _ (λ q.
    let alike : (x : Connection) → R q x ≡ Equal → p x ≡ p q = λ x e. rw (exact_connections q x e) in
    get-retain_keys m p q alike ∙ ap (λ o. cond (p q) o None) (get-entries m q) ∙ sym (get-from_sorted R es q sorted ∙ find-where_key R p q alike (entries m)))
    in
    let now : len (from_sorted es) ≡ length es = rw (entries-from_sorted R es sorted) at (len-entries {R = R} (from_sorted es)) in
    let all = len-entries m in let le = where-le p (entries m) in rw same (omega arith)

-- a map that has a key has an entry
has-some : (m : FinMap connection_cmp Override) (k : Connection) → is_some (get m k) ≡ true → 1 ≤ len m
has-some m k h = let none = empty_of_len m in let gone = get-empty {X = Override} connection_cmp k in grind arith

-- after a train is changed there are as many
length-change : (f : Train → Train) (n : ℕ) (ts : List Train) → length (change_train n f ts) ≡ length ts
length-change f n [] = refl
length-change f zero (t ∷ ts) = refl
length-change f (suc n) (t ∷ ts) = rw (length-change f n ts)

abbrev FitsWith : ℕ → Train → Type 0
FitsWith spare t = t.next_label + spare < 2 ^ 32

-- the trains have room where each does, and the changed one
fits-change : (spare left n : ℕ) (f : Train → Train) (ts : List Train) → left ≤ spare → ((t : Train) → FitsWith spare t → FitsWith left (f t)) → All (FitsWith spare) ts → All (FitsWith left) (change_train n f ts)
fits-change spare left n f [] le keeps h = All-nil (FitsWith left)
fits-change spare left zero f (t ∷ ts) le keeps h =
    All-cons (FitsWith left) (f t) ts (keeps t (All-head (FitsWith spare) t ts h)) (All-weaker (FitsWith spare) (FitsWith left) (λ t fits. omega arith) ts (All-tail (FitsWith spare) t ts h))
fits-change spare left (suc n) f (t ∷ ts) le keeps h =
    let here = All-head (FitsWith spare) t ts h in
    All-cons (FitsWith left) t _ (omega arith) (fits-change spare left n f ts le keeps (All-tail (FitsWith spare) t ts h))

-- one train is changed, and some calls are no longer spare
room-changed : (st : State) (n left : ℕ) (f : Train → Train) → HasRoom st → left ≤ st.spare_calls → ((t : Train) → FitsWith st.spare_calls t → FitsWith left (f t)) → HasRoom (record st { trains = change_train n f st.trains; spare_calls = left })
room-changed st n left f room le keeps =
    let same = length-change f n st.trains in let calls = fits-change st.spare_calls left n f st.trains le keeps room.calls in grind arith

-- some overrides are spare again
room-without : (es : List Event) (st : State) → HasRoom st → HasRoom (without_overrides_of es st)
room-without es st room = let less = retain-le st.overrides (λ p. not (names_one_of es p)) in grind arith

room-with : (st : State) (feeder train : Node) (o : Override) → HasRoom st → overrides_short st feeder train ≡ None → HasRoom (with_override (connection feeder train) o st)
room-with st feeder train o room h = let now = len-insert connections_total st.overrides (connection feeder train) o in grind arith

room-free : (st : State) (p : Connection) → HasRoom st → HasRoom (without_override p st)
room-free st p room = let now = len-remove connections_total st.overrides p in let some = has-some st.overrides p in grind arith

-- an accepted message leaves room
pub room-kept : (nw : Network) (st : State) (m : Message) → HasRoom st → refusal nw st m ≡ None → HasRoom (effect st m)
unfolding effect
room-kept nw st (Report n t) room h = room-changed st n.train st.spare_calls _ room (omega arith) (λ t fits. fits)
room-kept nw st (Forecast n t) room h = room-changed st n.train st.spare_calls _ room (omega arith) (λ t fits. fits)
room-kept nw st (Correct n o) room h = room-changed st n.train st.spare_calls _ room (omega arith) (λ t fits. fits)
room-kept nw st (Withdraw n) room h = room-changed st n.train st.spare_calls _ room (omega arith) (λ t fits. fits)
room-kept nw st (Cancel n from to) room h = room-without (stretch st n from to) _ (room-changed st n st.spare_calls _ room (omega arith) (λ t fits. fits))
room-kept nw st (Reroute n from to via) room h =
    let a = accepted-by nw st (Reroute n from to via) h in
    let enough : length via ≤ st.spare_calls = grind (arith, a.room) in
    room-without (events_between st n from to) _ (room-changed st n (st.spare_calls - length via) _ room (omega arith) (λ t fits. omega arith))
room-kept nw st (Extra n day route cs) room h =
    let a = accepted-by nw st (Extra n day route cs) h in
    let enough : (st.spare_trains ≢ 0) × (length cs ≤ st.spare_calls) = grind (arith, a.room) in
    let more = length-append st.trains (new_train day route cs ∷ []) in
    let left = st.spare_calls - length cs in
    let old = All-weaker (FitsWith st.spare_calls) (FitsWith left) (λ t fits. omega arith) st.trains room.calls in
    let calls = All-push (FitsWith left) st.trains (new_train day route cs) old (omega arith) in grind arith
room-kept nw st (Keep feeder train) room h = room-with st feeder train Kept room (accepted-by nw st (Keep feeder train) h).room
room-kept nw st (Drop feeder train) room h = room-with st feeder train Dropped room (accepted-by nw st (Drop feeder train) h).room
room-kept nw st (Rule feeder train) room h = room-free st (connection feeder train) room
