-- Journeys that are watched, whose standings are found again one after the other.
use Rattle.std.proofs.Common.{◌≡◌, inl, inr, ◌⊎◌, ℕ, zero, suc, get_or, ◌+◌, ◌-◌, ◌*◌, ◌≤◌, ◌<◌, true, false, cond, List, [], ◌∷◌, ◌++◌, Option, Some, None, drop, map, length, slice_get, slice_set, refl, sym, ◌∙◌, ap, subst, arith}
use Rattle.std.specs.List.{All, AllPairs, Contains}
use Rattle.std.specs.Option.{option_and_then, option_map_or}
use Rattle.std.proofs.lemmas.Bool.{cases_Bool, cases_eq}
use Rattle.std.proofs.lemmas.List.{append_assoc, append-nil, drop_more, get_or_default, get_or-drop, length-drop}
use Rattle.std.proofs.lemmas.List.Elements.{All-cons, All-contains, All-nil}
use Rattle.std.proofs.lemmas.Option.{none-some, same_Some, slice_get_within}
use Rattle.mt_base.specs.declared.certificates.CertRide.{CertRide}
use Rattle.mt_base.specs.declared.journeys.PlanRide.{PlanRide}
use Rattle.mt_base.specs.declared.keys.Node.{Node}
use Rattle.delay_model.specs.declared.network.Network.{Network}
use Rattle.delay_model.specs.declared.state.State.{State}
use Rattle.standing_laws.specs.declared.standings.Alert.{Alert}
use Rattle.standing_laws.specs.Standings.{first_arrival, is_on_one}
use Rattle.journey_watch.specs.declared.watched.Watched.{Watched}
use Rattle.journey_watch.specs.Renewing.{AreDue, is_on_any, reads_on, told_of}
use Rattle.journey_watch.specs.Watching.{AreElsewhereKept, alert_of, alerts_of, has_kept_standing, reads_for, renewed}
use Rattle.journey_watch.proofs.RenewLemmas.{IsKept, alerts-none, alerts-set, at-other, at-own, has-kept, reads-set, reads-split, renewed-none, renewed-set, rides-set}

-- what holds of all holds at each place, and the other way
pub get-all : {X : Type 0} (P : X → Type 0) (xs : List X) → All P xs → (k : ℕ) (x : X) → slice_get xs k ≡ Some x → P x
get-all P [] all k x at = absurd (none-some x at)
get-all P (y ∷ xs) all zero x at = subst P (same_Some y x at) (all 0 y (omega arith))
get-all P (y ∷ xs) all (suc k) x at = get-all P xs (λ i d l. all (suc i) d (omega arith)) k x at

pub all-get : {X : Type 0} (P : X → Type 0) (xs : List X) → ((k : ℕ) (x : X) → slice_get xs k ≡ Some x → P x) → All P xs
all-get P [] each = All-nil P
all-get P (x ∷ xs) each = All-cons P x xs (each 0 x refl) (all-get P xs (λ k y at. each (suc k) y at))

contains-cases : (j : ℕ) (rest : List ℕ) (k : ℕ) → Contains (j ∷ rest) k → (j ≡ k) ⊎ Contains rest k
contains-cases j rest k (zero, within, at) = inl at
contains-cases j rest k (suc i, within, at) = inr (i, omega arith, at)

reads-none : (nodes : List Node) (b : ℕ) → reads_for nodes (drop b []) ≡ 0
reads-none nodes zero = refl
reads-none nodes (suc b) = refl

-- fewer journeys have no more reads
reads-less : (nodes : List Node) (ws : List Watched) (b c : ℕ) → b ≤ c → reads_for nodes (drop c ws) ≤ reads_for nodes (drop b ws)
reads-less nodes [] b c l =
    let none = reads-none nodes c in
    let none-too = reads-none nodes b in
    omega (arith, none, none-too)
reads-less nodes (w ∷ ws) zero zero l = omega arith
reads-less nodes (w ∷ ws) zero (suc c) l =
    let rest = reads-less nodes ws 0 c (omega arith) in
    let first = cond (is_on_one nodes w.rides) (2 * length w.rides) 0 in
    omega (arith, rest)
reads-less nodes (w ∷ ws) (suc b) zero l = absurd (omega arith)
reads-less nodes (w ∷ ws) (suc b) (suc c) l = reads-less nodes ws b c (omega arith)

-- the journeys at the places that are left are to be found again; all others are kept
pub record IsBeingRenewed (nw : Network) (st : State) (nodes : List Node) (trains : List ℕ) (old now : List Watched) (alerts : List Alert) (left : List ℕ) (steps steps_now : ℕ) : Type 0 where
  pub elsewhere : (k : ℕ) (w : Watched) → slice_get now k ≡ Some w → is_on_one nodes w.rides ≡ false → IsKept nw st w
  pub on : (k : ℕ) (w : Watched) → slice_get now k ≡ Some w → is_on_one nodes w.rides ≡ true → is_on_any trains w.rides ≡ true
  pub few : (k : ℕ) (w : Watched) → slice_get now k ≡ Some w → length w.rides < 4294967296
  pub kept : (k : ℕ) (w : Watched) → slice_get now k ≡ Some w → IsKept nw st w ⊎ Contains left k
  pub rides : map (λ (w : Watched). w.rides) now ≡ map (λ (w : Watched). w.rides) old
  pub renews : map (renewed nw st) now ≡ map (renewed nw st) old
  pub tells : alerts ++ alerts_of nw st now ≡ alerts_of nw st old
  pub bound : ℕ
  pub ahead : All (λ k. bound ≤ k) left
  pub cost : steps_now + reads_for nodes (drop bound now) ≤ steps + reads_for nodes old

pub begins : (nw : Network) (st : State) (nodes : List Node) (trains due : List ℕ) (old : List Watched) (alerts : List Alert) (steps : ℕ) → AreDue nodes trains due old
    → AreElsewhereKept nw st nodes old
    → All (λ (w : Watched). length w.rides < 4294967296) old → alerts ≡ [] → IsBeingRenewed nw st nodes trains old old alerts due steps steps
begins nw st nodes trains due old alerts steps are elsewhere few none = record {
  elsewhere = λ k w at off. get-all (λ (w : Watched). is_on_one nodes w.rides ≡ false → IsKept nw st w) old elsewhere k w at off;
  on = are.on;
  few = get-all (λ (w : Watched). length w.rides < 4294967296) old few;
  kept = λ k w at. elim (cases_Bool (is_on_one nodes w.rides)) [
    | inl on ↦ inr (are.each k w at on)
    | inr off ↦ inl (get-all (λ (w : Watched). is_on_one nodes w.rides ≡ false → IsKept nw st w) old elsewhere k w at off)
  ];
  rides = refl;
  renews = refl;
  tells = rw none refl;
  bound = 0;
  ahead = λ k d l. omega arith;
  cost = omega arith;
}

module _ (nw : Network) (st : State) (nodes : List Node) (trains : List ℕ) (only : (rides : List CertRide) → is_on_any trains rides ≡ true → is_on_one nodes rides ≡ true)
    (old now : List Watched) (alerts : List Alert) (j : ℕ) (rest : List ℕ) (rises : All (λ k. j < k) rest) (steps steps_now : ℕ)
    (is : IsBeingRenewed nw st nodes trains old now alerts (j ∷ rest) steps steps_now) where
  kept-before : (k : ℕ) (v : Watched) → k < j → slice_get now k ≡ Some v → IsKept nw st v
  kept-before k v before at = elim (is.kept k v at) [
    | inl kept ↦ kept
    | inr left ↦ elim (contains-cases j rest k left) [
      | inl same ↦ absurd (omega (arith, same))
      | inr later ↦ let after : j < k = All-contains (λ k. j < k) rest k rises later in absurd (omega arith)
    ]
  ]

  ahead-still : All (λ k. suc j ≤ k) rest
  ahead-still = λ k d l. let after : j < get_or rest k d = rises k d l in omega arith

  bound-first : is.bound ≤ j
  bound-first = is.ahead 0 j (omega arith)

  reads-few : (w : Watched) → reads_on trains w ≤ cond (is_on_one nodes w.rides) (2 * length w.rides) 0
  reads-few w = elim (cases_Bool (is_on_any trains w.rides)) [
    | inl on ↦ rw (on, only w.rides on) (omega arith)
    | inr off ↦ rw off (omega arith)
  ]

  -- the reads of the journey at the place, and of those behind it
  costs : (o : Option Watched) → slice_get now j ≡ o → (steps_next : ℕ) → steps_next ≤ steps_now + option_map_or (reads_on trains) o 0
      → steps_next + reads_for nodes (drop (suc j) now) ≤ steps + reads_for nodes old
  costs None at steps_next few =
      let less = reads-less nodes now is.bound (suc j) (let first = bound-first in omega (arith, first)) in
      let cost = is.cost in
      omega (arith, less, cost, few)
  costs (Some w) at steps_next few =
      let split = reads-split nodes now is.bound j w bound-first at in
      let own = reads-few w in
      let cost = is.cost in
      omega (arith, split, own, cost, few)

  told-not : (w : Watched) → told_of nw st trains w ≡ None → slice_get now j ≡ Some w → IsKept nw st w
  told-not w none at = elim (cases_Bool (has_kept_standing nw st w)) [
    | inl has ↦ has-kept nw st w has
    | inr lacks ↦ elim (cases_Bool (is_on_one nodes w.rides)) [
      | inr off ↦ is.elsewhere j w at off
      | inl on ↦ absurd (none-some (alert_of nw st w) (sym none ∙ rw (is.on j w at on, lacks) refl))
    ]
  ]

  kept-at : (o : Option Watched) → slice_get now j ≡ o → option_and_then (told_of nw st trains) o ≡ None → (w : Watched) → slice_get now j ≡ Some w → IsKept nw st w
  kept-at None at none w here = absurd (none-some w (sym at ∙ here))
  kept-at (Some v) at none w here = told-not w (subst (λ v. told_of nw st trains v ≡ None) (same_Some v w (sym at ∙ here)) none) here

  -- a journey of which nothing is told
  pub goes-on : option_and_then (told_of nw st trains) (slice_get now j) ≡ None → (next : List Watched) → next ≡ now → (steps_next : ℕ)
      → steps_next ≤ steps_now + option_map_or (reads_on trains) (slice_get now j) 0
      → IsBeingRenewed nw st nodes trains old next alerts rest steps steps_next
  goes-on none next same steps_next few = rw same (record {
    elsewhere = is.elsewhere;
    on = is.on;
    few = is.few;
    kept = λ k w at. elim (is.kept k w at) [
      | inl kept ↦ inl kept
      | inr left ↦ elim (contains-cases j rest k left) [
        | inl here ↦ inl (kept-at (slice_get now j) refl none w (rw here at))
        | inr later ↦ inr later
      ]
    ];
    rides = is.rides;
    renews = is.renews;
    tells = is.tells;
    bound = suc j;
    ahead = ahead-still;
    cost = costs (slice_get now j) refl steps_next few;
  })

  module _ (w : Watched) (at : slice_get now j ≡ Some w) (a : Alert) (told : told_of nw st trains w ≡ Some a) where
    not-kept : has_kept_standing nw st w ≡ false
    not-kept = elim (cases_Bool (has_kept_standing nw st w)) [
      | inr lacks ↦ lacks
      | inl has ↦ absurd (none-some a (sym (none-told has) ∙ told))
    ]
      where
        none-told : has_kept_standing nw st w ≡ true → told_of nw st trains w ≡ None
        none-told has = elim (cases_Bool (is_on_any trains w.rides)) [
          | inl on ↦ rw (on, has) refl
          | inr off ↦ rw off refl
        ]

    is-alert : alert_of nw st w ≡ a
    is-alert = elim (cases_Bool (is_on_any trains w.rides)) [
      | inl on ↦ same_Some (alert_of nw st w) a (rw (on, not-kept) at told)
      | inr off ↦ absurd (none-some a (rw off at told))
    ]

    abbrev next : List Watched
    next = slice_set now j (renewed nw st w)

    own : (v : Watched) → slice_get next j ≡ Some v → renewed nw st w ≡ v
    own v here = at-own now j v (renewed nw st w) w at here

    -- what holds of each journey and of the one that is found again
    each : (P : ℕ → Watched → Type 0) → ((k : ℕ) (v : Watched) → slice_get now k ≡ Some v → (k ≡ j → ⊥) → P k v)
        → P j (renewed nw st w) → (k : ℕ) (v : Watched) → slice_get next k ≡ Some v → P k v
    each P others here k v found = elim (cases_eq k j) [
      | inl same ↦ rw same (subst (P j) (own v (rw same at found)) here)
      | inr apart ↦ others k v (at-other now j k v (renewed nw st w) apart found) apart
    ]

    -- a journey that is told
    pub tells-one : (journeys : List Watched) → journeys ≡ next → (alerts_now : List Alert) → alerts_now ≡ alerts ++ a ∷ [] → (steps_next : ℕ)
        → steps_next ≤ steps_now + option_map_or (reads_on trains) (slice_get now j) 0
        → IsBeingRenewed nw st nodes trains old journeys alerts_now rest steps steps_next
    tells-one journeys same alerts_now more steps_next few = rw (same, more) (record {
      elsewhere = each (λ k v. is_on_one nodes v.rides ≡ false → IsKept nw st v) (λ k v found apart off. is.elsewhere k v found off) (λ off. refl);
      on = each (λ k v. is_on_one nodes v.rides ≡ true → is_on_any trains v.rides ≡ true) (λ k v found apart on. is.on k v found on) (λ on. is.on j w at on);
      few = each (λ k v. length v.rides < 4294967296) (λ k v found apart. is.few k v found) (is.few j w at);
      kept = each (λ k v. IsKept nw st v ⊎ Contains rest k) (λ k v found apart. elim (is.kept k v found) [
        | inl kept ↦ inl kept
        | inr left ↦ elim (contains-cases j rest k left) [
          | inl here ↦ absurd (apart (sym here))
          | inr later ↦ inr later
        ]
      ]) (inl refl);
      rides = rides-set nw st now j w at ∙ is.rides;
      renews = renewed-set nw st now j w at ∙ is.renews;
      tells =
          append_assoc alerts (a ∷ []) (alerts_of nw st next)
          ∙ ap (λ b. alerts ++ b ∷ alerts_of nw st next) (sym is-alert)
          ∙ ap (λ l. alerts ++ l) (sym (alerts-set nw st now j w at kept-before not-kept))
          ∙ is.tells;
      bound = suc j;
      ahead = ahead-still;
      cost = rw (reads-set nw st nodes now j (suc j) w at) (costs (slice_get now j) refl steps_next few);
    })

-- in the end all are kept
module _ (nw : Network) (st : State) (nodes : List Node) (trains : List ℕ) (old now : List Watched) (alerts : List Alert) (left : List ℕ) (steps steps_now : ℕ)
    (is : IsBeingRenewed nw st nodes trains old now alerts left steps steps_now) where
  pub cost-so-far : steps_now ≤ steps + reads_for nodes old
  cost-so-far = let cost = is.cost in omega (arith, cost)

  module _ (none : left ≡ []) where
    all-kept : All (IsKept nw st) now
    all-kept = all-get (IsKept nw st) now (λ k w at. elim (is.kept k w at) [
      | inl kept ↦ kept
      | inr there ↦ let within = (subst (λ l. Contains l k) none there).1 in absurd (omega (arith, within))
    ])

    pub all-told : alerts ≡ alerts_of nw st old
    all-told = sym (append-nil alerts) ∙ ap (λ l. alerts ++ l) (sym (alerts-none nw st now all-kept)) ∙ is.tells

    pub all-renewed : now ≡ map (renewed nw st) old
    all-renewed = sym (renewed-none nw st now all-kept) ∙ is.renews

-- the place that comes next, those behind it, and that they rise
pub left-at : (due : List ℕ) (i : ℕ) → i < length due → drop i due ≡ get_or due i 0 ∷ drop (i + 1) due
left-at due i within = drop_more due i 0 within

pub rises-behind : (due : List ℕ) (i : ℕ) → AllPairs (λ a b. a < b) due → i < length due → All (λ k. get_or due i 0 < k) (drop (i + 1) due)
rises-behind due i order within = λ k d l.
    let size : length (drop (i + 1) due) ≡ length due - (i + 1) = length-drop (i + 1) due in
    let at : get_or (drop (i + 1) due) k d ≡ get_or due (i + 1 + k) d = get_or-drop (i + 1) due k d in
    let less : get_or due i d < get_or due (i + 1 + k) d = order i (i + 1 + k) d (omega arith) (omega (arith, size, l)) in
    let same : get_or due i d ≡ get_or due i 0 = get_or_default due i d 0 within in
    omega (arith, at, less, same)

some-at : (f : Watched → Option Alert) (o : Option Watched) (a : Alert) → option_and_then f o ≡ Some a → (w : Watched) × (o ≡ Some w) × (f w ≡ Some a)
some-at f None a none = absurd (none-some a none)
some-at f (Some w) a told = (w, refl, told)

-- one place more
module _ (nw : Network) (st : State) (nodes : List Node) (trains due : List ℕ) (old : List Watched) (are : AreDue nodes trains due old) (now : List Watched) (alerts : List Alert) (i : ℕ)
    (within : i < length due) (steps steps_now : ℕ)
    (is : IsBeingRenewed nw st nodes trains old now alerts (drop i due) steps steps_now) (next : List Watched) (steps_next : ℕ)
    (cost : steps_next ≤ steps_now + option_map_or (reads_on trains) (slice_get now (get_or due i 0)) 0) where
  here : IsBeingRenewed nw st nodes trains old now alerts (get_or due i 0 ∷ drop (i + 1) due) steps steps_now
  here = subst (λ left. IsBeingRenewed nw st nodes trains old now alerts left steps steps_now) (left-at due i within) is

  pub none-more : None ≡ option_and_then (told_of nw st trains) (slice_get now (get_or due i 0)) → next ≡ now
      → IsBeingRenewed nw st nodes trains old next alerts (drop (i + 1) due) steps steps_next
  none-more told same =
      goes-on nw st nodes trains are.only old now alerts (get_or due i 0) (drop (i + 1) due) (rises-behind due i are.order within) steps steps_now here (sym told) next same steps_next cost

  pub one-more : (a : Alert) → Some a ≡ option_and_then (told_of nw st trains) (slice_get now (get_or due i 0))
      → ((w : Watched) → slice_get now (get_or due i 0) ≡ Some w → next ≡ slice_set now (get_or due i 0) (renewed nw st w))
      → (alerts_now : List Alert) → alerts_now ≡ alerts ++ a ∷ []
      → IsBeingRenewed nw st nodes trains old next alerts_now (drop (i + 1) due) steps steps_next
  one-more a told set alerts_now more =
      let w = some-at (told_of nw st trains) (slice_get now (get_or due i 0)) a (sym told) in
      tells-one nw st nodes trains are.only old now alerts (get_or due i 0) (drop (i + 1) due) (rises-behind due i are.order within) steps steps_now here w.0 w.1 a w.2 next
      (set w.0 w.1) alerts_now more steps_next cost

-- a journey arrives when its last ride does
first-at : (t : ℕ) (rides : List PlanRide) (i : ℕ) (r : PlanRide) → suc i ≡ length rides → Some r ≡ slice_get rides i → r.alight_time ≡ first_arrival t rides
first-at t [] i r size at = absurd (omega (arith, size))
first-at t (q ∷ []) zero r size at = ap (λ (r : PlanRide). r.alight_time) (same_Some r q at)
first-at t (q ∷ []) (suc i) r size at = absurd (omega (arith, size))
first-at t (q ∷ p ∷ rides) zero r size at = absurd (omega (arith, size))
first-at t (q ∷ p ∷ rides) (suc i) r size at = first-at q.alight_time (p ∷ rides) i r (omega (arith, size)) at

pub first-last : (t : ℕ) (rides : List PlanRide) (r : PlanRide) → Some r ≡ slice_get rides (length rides - 1) → r.alight_time ≡ first_arrival t rides
first-last t rides r at =
    let some : length rides - 1 < length rides = slice_get_within rides (length rides - 1) r (sym at) in
    first-at t rides (length rides - 1) r (omega (arith, some)) at
