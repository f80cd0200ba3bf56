-- How the definitions compute over a state of which it is known what was chosen for each connection.
use Rattle.model_examples.proofs.Words.{◌≡◌, ℕ, ◌+◌, List, ◌∷◌, ◌++◌, Bool, true, false, length, Option, Some, None, refl, sym, ◌∙◌, ap, len-empty, is_same_node, Network, State, Event, Full, Overrides, Override, connection_cmp, events, effect, time, event_time, refusal}
use Rattle.std.proofs.Common.{◌-◌, cond, if◌then◌else◌, not, ◌&&◌, ◌||◌, filter, nat_eq, is_some, map}
use Rattle.std.specs.Option.{option_or}
use Rattle.std.specs.FinMap.{FinMap, empty, get, insert, remove, retain_keys, len, get-empty, len-insert, same_map, get-insert, get-remove, get-retain_keys}
use Rattle.std.specs.Ordering.{eq_by_cmp, is_eq}
use Rattle.std.specs.declared.cmp.Ordering.{Ordering}
use Rattle.std.specs.declared.cmp.Ordering.TheVariants.{Less, Equal, Greater}
use Rattle.mt_base.specs.Order.{node_of}
use Rattle.mt_base.specs.declared.keys.Key.{Key}
use Rattle.mt_base.specs.declared.keys.Node.{Node}
use Rattle.delay_model.specs.declared.state.Edge.{Edge}
use Rattle.delay_model.specs.declared.messages.Message.{Message}
use Rattle.delay_model.specs.declared.messages.Message.TheVariants.{Keep, Drop}
use Rattle.delay_model.specs.declared.messages.Refusal.{Refusal}
use Rattle.delay_model.specs.declared.messages.Refusal.TheVariants.{Unknown, Known, NoConnection, Nothing}
use Rattle.delay_model.specs.declared.overrides.Connection.{Connection}
use Rattle.delay_model.specs.Overrides.{connection}
use Rattle.delay_model.specs.Events.{live_events}
use Rattle.delay_model.specs.Edges.{edges, override_of, train_edges, transfer_edges}
use Rattle.std.specs.List.{list_any}
use Rattle.delay_model.specs.Touched.{changed, differing, touched, named, is_fed_by}
use Rattle.delay_model.specs.Refusals.{refused_if, is_unknown, is_known, has_no_connection, contradiction, against_rank, has_nothing}
use Rattle.delay_model.proofs.ConnectionLemmas.{connections_total, exact_connections}
use Rattle.model_examples.specs.TwoTrains.{times}

-- what was chosen for each connection
abbrev pub Choices : Type 0
Choices = Connection → Option Override

-- these are the choices of a map
pub record Has (m : FinMap connection_cmp Override) (f : Choices) : Type 0 where
  pub all : (q : Connection) → get m q ≡ f q

abbrev pub none : Choices
none q = None

abbrev pub chosen : Connection → Override → Choices → Choices
chosen p o f q = cond (eq_by_cmp connection_cmp q p) (Some o) (f q)

abbrev pub cleared : Connection → Choices → Choices
cleared p f q = cond (eq_by_cmp connection_cmp q p) None (f q)

abbrev pub kept_where : (Connection → Bool) → Choices → Choices
kept_where p f q = cond (p q) (f q) None

pub no_overrides : Has (empty {R = connection_cmp}) none
no_overrides = record { all = λ q. get-empty connection_cmp q }

pub with_override : {m : FinMap connection_cmp Override} {f : Choices} (p : Connection) (o : Override) → Has m f → Has (insert m p o) (chosen p o f)
with_override {m = m} p o h = record { all = λ q. get-insert connections_total m p o q ∙ ap (cond (eq_by_cmp connection_cmp q p) (Some o)) (h.all q) }

pub without_override : {m : FinMap connection_cmp Override} {f : Choices} (p : Connection) → Has m f → Has (remove m p) (cleared p f)
without_override {m = m} p h = record { all = λ q. get-remove connections_total m p q ∙ ap (cond (eq_by_cmp connection_cmp q p) None) (h.all q) }

pub with_those : {m : FinMap connection_cmp Override} {f : Choices} (p : Connection → Bool) → Has m f → Has (retain_keys m p) (kept_where p f)
with_those {m = m} p h = record { all = λ q. get-retain_keys m p q (λ x t. ap p (sym (exact_connections q x t))) ∙ ap (λ x. cond (p q) x None) (h.all q) }

none_twice : (b : Bool) → ◌≡◌ {A = Option Override} (cond b None None) None
none_twice true = refl
none_twice false = refl

pub still_none : {m : FinMap connection_cmp Override} (p : Connection → Bool) → Has m none → Has (retain_keys m p) none
still_none p h = let k = with_those p h in record { all = λ q. k.all q ∙ none_twice (p q) }

abbrev pub by : Choices → Event → Event → Option Override
by f u v = f (connection (node_of u.key) (node_of v.key))

overrides-are : (st : State) {f : Choices} → Has st.overrides f → override_of st ≡ by f
overrides-are st h = λ i u v. h.all (connection (node_of u.key) (node_of v.key)) i

-- the edges where these are the choices
abbrev pub edges_by : Network → (Event → Event → Option Override) → State → List Edge
edges_by nw choices st = train_edges nw.opts 0 st.trains ++ transfer_edges nw choices (events st)

abbrev pub time_by : Network → (Event → Event → Option Override) → State → Key → ℕ
time_by nw choices st k = time (events st) (edges_by nw choices st) k

abbrev pub times_by : Network → (Event → Event → Option Override) → State → List ℕ
times_by nw choices st = map (λ (v : Event). time_by nw choices st v.key) (live_events (events st))

pub times-are : (nw : Network) (st : State) {f : Choices} → Has st.overrides f → (ts : List ℕ) → times_by nw (by f) st ≡ ts → times nw st ≡ ts
unfolding times event_time edges
times-are nw st h ts e = ap (λ o. times_by nw o st) (overrides-are st h) ∙ e

abbrev pub changed_by : Network → State → (Event → Event → Option Override) → State → (Event → Event → Option Override) → List Event
changed_by nw old before new after = differing (time_by nw before old) (time_by nw after new) (events old) (events new)

pub count-is : (nw : Network) (old new : State) {f g : Choices} → Has old.overrides f → Has new.overrides g → (n : ℕ) → length (changed_by nw old (by f) new (by g)) ≡ n → length (changed nw old new) ≡ n
unfolding changed event_time edges
count-is nw old new {f = f} h k n e =
    ap (λ o. length (changed_by nw old o new (override_of new))) (overrides-are old h) ∙ (ap (λ o. length (changed_by nw old (by f) new o)) (overrides-are new k) ∙ e)

abbrev pub answer_by : Network → State → Message → Option Refusal → Option Refusal
answer_by nw st m short =
    option_or (refused_if (is_unknown nw st m) Unknown)
    (option_or (refused_if (is_known st m) Known)
    (option_or (refused_if (has_no_connection nw st m) NoConnection)
    (option_or (contradiction st m)
    (option_or (against_rank nw st m)
    (option_or short (refused_if (has_nothing st m) Nothing))))))

abbrev pub short_by : ℕ → Option Override → Option Refusal
short_by spare o = refused_if (not (is_some o) && nat_eq spare 0) (Full Overrides)

pub keep-answer : (nw : Network) (st : State) (feeder train : Node) {f : Choices} → Has st.overrides f → (n : ℕ) → st.spare_overrides ≡ n → (r : Option Refusal) → answer_by nw st (Keep feeder train) (short_by n (f (connection feeder train))) ≡ r → refusal nw st (Keep feeder train) ≡ r
unfolding refusal
keep-answer nw st feeder train {f = f} h n s r e =
    ap (λ o. answer_by nw st (Keep feeder train) (short_by st.spare_overrides o)) (h.all (connection feeder train))
    ∙ (ap (λ k. answer_by nw st (Keep feeder train) (short_by k (f (connection feeder train)))) s ∙ e)

pub drop-answer : (nw : Network) (st : State) (feeder train : Node) {f : Choices} → Has st.overrides f → (n : ℕ) → st.spare_overrides ≡ n → (r : Option Refusal) → answer_by nw st (Drop feeder train) (short_by n (f (connection feeder train))) ≡ r → refusal nw st (Drop feeder train) ≡ r
unfolding refusal
drop-answer nw st feeder train {f = f} h n s r e =
    ap (λ o. answer_by nw st (Drop feeder train) (short_by st.spare_overrides o)) (h.all (connection feeder train))
    ∙ (ap (λ k. answer_by nw st (Drop feeder train) (short_by k (f (connection feeder train)))) s ∙ e)

infixr 30 ◌and◌
pub ◌and◌ : {x y : ℕ} {xs ys : List ℕ} → x ≡ y → xs ≡ ys → ◌≡◌ {A = List ℕ} (x ∷ xs) (y ∷ ys)
◌and◌ p q i = p i ∷ q i

-- an override of a connection that has none takes a spare one, and one of a connection that has one does not
pub spare-less : (n : ℕ) {m : FinMap connection_cmp Override} {f : Choices} → Has m f → (p : Connection) → (k : ℕ) → (if is_some (f p) then n else n - 1) ≡ k → (if is_some (get m p) then n else n - 1) ≡ k
spare-less n h p k e = ap (λ o. if is_some o then n else n - 1) (h.all p) ∙ e

-- an override that is taken back is spare again
pub spare-more : (n : ℕ) {m : FinMap connection_cmp Override} {f : Choices} → Has m f → (p : Connection) → (k : ℕ) → (if is_some (f p) then n + 1 else n) ≡ k → (if is_some (get m p) then n + 1 else n) ≡ k
spare-more n h p k e = ap (λ o. if is_some o then n + 1 else n) (h.all p) ∙ e

pub time-is : (nw : Network) (st : State) {f : Choices} → Has st.overrides f → (k : Key) (t : ℕ) → time_by nw (by f) st k ≡ t → event_time nw st k ≡ t
unfolding event_time edges
time-is nw st h k t e = ap (λ o. time_by nw o st k) (overrides-are st h) ∙ e

gone_at : (b : Bool) (r : Ordering) (o : Override) → (r ≡ Equal → b ≡ false) → cond b (cond (is_eq r) (Some o) None) None ≡ None
gone_at true Equal o h = let f : true ≡ false = h refl in absurd (cc)
gone_at true Less o h = refl
gone_at true Greater o h = refl
gone_at false r o h = refl

stays_at : (b : Bool) (r : Ordering) (o : Override) → (r ≡ Equal → b ≡ true) → cond b (cond (is_eq r) (Some o) None) None ≡ cond (is_eq r) (Some o) None
stays_at true r o h = refl
stays_at false Equal o h = let f : false ≡ true = h refl in absurd (cc)
stays_at false Less o h = refl
stays_at false Greater o h = refl

-- a map of one override, of which nothing is retained,
pub gone : (p : Connection) (o : Override) (test : Connection → Bool) → test p ≡ false → retain_keys (insert (empty {R = connection_cmp}) p o) test ≡ empty
gone p o test e =
    let k = with_those test (with_override p o no_overrides) in
    same_map connections_total exact_connections _ _ (λ q.
    k.all q ∙ (gone_at (test q) (connection_cmp q p) o (λ t. ap test (exact_connections q p t) ∙ e) ∙ sym (get-empty connection_cmp q)))

-- and one that stays
pub stays : (p : Connection) (o : Override) (test : Connection → Bool) → test p ≡ true → retain_keys (insert (empty {R = connection_cmp}) p o) test ≡ insert empty p o
stays p o test e =
    let m = with_override p o no_overrides in
    let k = with_those test m in
    same_map connections_total exact_connections _ _ (λ q.
    k.all q ∙ (stays_at (test q) (connection_cmp q p) o (λ t. ap test (exact_connections q p t) ∙ e) ∙ sym (m.all q)))

len-one : (p : Connection) (o : Override) → len (insert (empty {R = connection_cmp}) p o) ≡ 1
len-one p o =
    len-insert connections_total empty p o
    ∙ (ap (λ x. cond (is_some x) (len (empty {X = Override} {R = connection_cmp})) (len (empty {X = Override} {R = connection_cmp}) + 1)) (get-empty connection_cmp p)
    ∙ ap (λ n. n + 1) (len-empty connection_cmp Override))

pub given-back : (p : Connection) (o : Override) (test : Connection → Bool) → test p ≡ false → (n k : ℕ) → n ≡ k → n + (len (insert (empty {R = connection_cmp}) p o) - len (retain_keys (insert (empty {R = connection_cmp}) p o) test)) ≡ k + 1
given-back p o test e n k s =
    ap (λ x. x + (len (insert (empty {R = connection_cmp}) p o) - len (retain_keys (insert (empty {R = connection_cmp}) p o) test))) s
    ∙ (ap (λ x. k + (x - len (retain_keys (insert (empty {R = connection_cmp}) p o) test))) (len-one p o)
    ∙ ap (λ x. k + (1 - x)) (ap len (gone p o test e) ∙ len-empty connection_cmp Override))

abbrev pub touched_by : Network → State → (Event → Event → Option Override) → State → (Event → Event → Option Override) → List Node → List Event
touched_by nw old before new after names =
    filter (λ v. list_any (is_same_node (node_of v.key)) names
    || is_fed_by (edges_by nw before old ++ edges_by nw after new) (changed_by nw old before new after) v.key)
    (live_events (events new))

pub touched-are : (nw : Network) (st : State) (m : Message) {f g : Choices} → Has st.overrides f → Has (effect st m).overrides g → (ns : List Node) → map (λ (v : Event). node_of v.key) (touched_by nw st (by f) (effect st m) (by g) (named st m)) ≡ ns → map (λ (v : Event). node_of v.key) (touched nw st m) ≡ ns
unfolding touched changed event_time edges
touched-are nw st m {f = f} h k ns e =
    ap (λ o. map (λ (v : Event). node_of v.key) (touched_by nw st o (effect st m) (override_of (effect st m)) (named st m))) (overrides-are st h)
    ∙ (ap (λ o. map (λ (v : Event). node_of v.key) (touched_by nw st (by f) (effect st m) o (named st m))) (overrides-are (effect st m) k) ∙ e)

pub edges-are : (nw : Network) (st : State) {f : Choices} → Has st.overrides f → edges nw st ≡ edges_by nw (by f) st
unfolding edges
edges-are nw st h = ap (λ o. edges_by nw o st) (overrides-are st h)
