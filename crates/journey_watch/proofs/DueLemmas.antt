-- Which watched journeys are to be looked at again.
use Rattle.std.proofs.Common.{◌≡◌, inl, inr, ◌⊎◌, ℕ, zero, suc, ◌<◌, Bool, true, false, nat_eq, get_or, drop, List, [], ◌∷◌, ◌++◌, Some, map, length, slice_get, refl, sym, ◌∙◌, ap, subst, arith}
use Rattle.std.specs.List.{AllPairs, Contains, list_any}
use Rattle.std.proofs.lemmas.Bool.{cases_Bool, eq-eqb, eqb-true}
use Rattle.std.proofs.lemmas.List.{length-map, length_push}
use Rattle.std.proofs.lemmas.List.Elements.{All-contains, Contains-append_left, Contains-append_right}
use Rattle.std.proofs.lemmas.List.Folds.{list_any_at}
use Rattle.std.proofs.lemmas.Option.{none-some, same_Some}
use Rattle.mt_base.specs.declared.certificates.CertRide.{CertRide}
use Rattle.mt_base.specs.declared.keys.Node.{Node}
use Rattle.standing_laws.specs.Standings.{is_on_one}
use Rattle.journey_watch.specs.declared.watched.Watched.{Watched}
use Rattle.journey_watch.specs.Renewing.{AreDue}
use Rattle.journey_watch.specs.Trains.{AreBesideTrains, StandsBesideTrains, is_empty, journeys_on, journeys_on_any, watched_trains}
use Rattle.journey_watch.proofs.WatchLemmas.{all-get, get-all}

-- ---- lists

first-is : {X : Type 0} (x : X) (xs : List X) → Contains (x ∷ xs) x
first-is x xs = (0, omega arith, refl)

later-is : {X : Type 0} (y : X) (xs : List X) (x : X) → Contains xs x → Contains (y ∷ xs) x
later-is y xs x (i, within, at) = (suc i, omega (arith, within), at)

-- where one passes there is one that does
any-there : {X : Type 0} (p : X → Bool) (xs : List X) → list_any p xs ≡ true → (x : X) × Contains xs x × (p x ≡ true)
any-there p [] some = absurd (cc)
any-there p (x ∷ xs) some = elim (cases_Bool (p x)) [
  | inl passes ↦ (x, first-is x xs, passes)
  | inr fails ↦ let r = any-there p xs (rw fails at some) in (r.0, later-is x xs r.0 r.1, r.2)
]

there-any : {X : Type 0} (p : X → Bool) (xs : List X) (x : X) → Contains xs x → p x ≡ true → list_any p xs ≡ true
there-any p xs x (i, within, at) passes = list_any_at p xs i x within (rw at passes)

-- ---- trains

not-empty : (ns : List ℕ) (n : ℕ) → Contains ns n → is_empty ns ≡ false
not-empty [] n (i, within, at) = absurd (omega (arith, within))
not-empty (m ∷ ns) n there = refl

module _ (rows : List (List ℕ)) where
  -- the train of an event beside which a journey stands
  watched-there : (nodes : List Node) (n : Node) (place : ℕ) → Contains nodes n → Contains (journeys_on rows n.train) place → Contains (watched_trains rows nodes) n.train
  watched-there [] n place (i, within, at) beside = absurd (omega (arith, within))
  watched-there (m ∷ nodes) n place (zero, within, at) beside =
      let full : is_empty (journeys_on rows m.train) ≡ false = not-empty (journeys_on rows m.train) place (subst (λ (x : Node). Contains (journeys_on rows x.train) place) (sym at) beside) in
      rw full (subst (λ (x : Node). Contains (m.train ∷ watched_trains rows nodes) x.train) at (first-is m.train (watched_trains rows nodes)))
  watched-there (m ∷ nodes) n place (suc i, within, at) beside =
      let later = watched-there nodes n place (i, omega (arith, within), at) beside in
      elim (cases_Bool (is_empty (journeys_on rows m.train))) [
        | inl empty ↦ rw empty later
        | inr full ↦ rw full (later-is m.train (watched_trains rows nodes) n.train later)
      ]

  -- such a train is that of an event
  first-only : (m : Node) (nodes : List Node) (t : ℕ)
      → (Contains (watched_trains rows nodes) t → (n : Node) × Contains nodes n × (n.train ≡ t)) → Contains (m.train ∷ watched_trains rows nodes) t
      → (n : Node) × Contains (m ∷ nodes) n × (n.train ≡ t)
  first-only m nodes t rest (zero, within, at) = (m, first-is m nodes, at)
  first-only m nodes t rest (suc i, within, at) = let r = rest (i, omega (arith, within), at) in (r.0, later-is m nodes r.0 r.1, r.2)

  watched-only : (nodes : List Node) (t : ℕ) → Contains (watched_trains rows nodes) t → (n : Node) × Contains nodes n × (n.train ≡ t)
  watched-only [] t (i, within, at) = absurd (omega (arith, within))
  watched-only (m ∷ nodes) t there = elim (cases_Bool (is_empty (journeys_on rows m.train))) [
    | inl empty ↦ let r = watched-only nodes t (rw empty at there) in (r.0, later-is m nodes r.0 r.1, r.2)
    | inr full ↦ first-only m nodes t (watched-only nodes t) (rw full at there)
  ]

  -- a journey beside one of these trains
  listed-there : (trains : List ℕ) (t place : ℕ) → Contains trains t → Contains (journeys_on rows t) place → Contains (journeys_on_any rows trains) place
  listed-there [] t place (i, within, at) beside = absurd (omega (arith, within))
  listed-there (u ∷ trains) t place (zero, within, at) beside = Contains-append_left (journeys_on rows u) (journeys_on_any rows trains) place (rw at beside)
  listed-there (u ∷ trains) t place (suc i, within, at) beside =
      Contains-append_right (journeys_on rows u) (journeys_on_any rows trains) place (listed-there trains t place (i, omega (arith, within), at) beside)

-- ---- journeys

module _ (room : ℕ) (rows : List (List ℕ)) (ws : List Watched) (are : AreBesideTrains room rows ws) (nodes : List Node) (trains due : List ℕ)
    (each : (n : ℕ) → Contains (watched_trains rows nodes) n → Contains trains n) (only : (n : ℕ) → Contains trains n → Contains (watched_trains rows nodes) n)
    (all : (n : ℕ) → Contains (journeys_on_any rows trains) n → Contains due n) (order : AllPairs (λ a b. a < b) due) where
  -- a ride on a train of one of the events
  record IsOn (place : ℕ) (rides : List CertRide) : Type 0 where
    ride : CertRide
    there : Contains rides ride
    train : Contains trains ride.train
    beside : Contains (journeys_on rows ride.train) place

  is-on : (place : ℕ) (w : Watched) → slice_get ws place ≡ Some w → is_on_one nodes w.rides ≡ true → IsOn place w.rides
  is-on place w at on =
      let r = any-there (λ (c : CertRide). list_any (λ (n : Node). nat_eq n.train c.train) nodes) w.rides on in
      let n = any-there (λ (n : Node). nat_eq n.train r.0.train) nodes r.2 in
      let same : n.0.train ≡ r.0.train = eqb-true n.0.train r.0.train n.2 in
      let beside : Contains (journeys_on rows r.0.train) place = All-contains (λ (c : CertRide). Contains (journeys_on rows c.train) place) w.rides r.0 (are.beside place w at) r.1 in
      let watched : Contains (watched_trains rows nodes) r.0.train = subst (λ t. Contains (watched_trains rows nodes) t) same (watched-there rows nodes n.0 place n.1 (rw same beside)) in
      record { ride = r.0; there = r.1; train = each r.0.train watched; beside = beside }

  pub are-due : AreDue nodes trains due ws
  are-due = record {
    on = λ place w at on.
        let i = is-on place w at on in
        there-any (λ (c : CertRide). list_any (λ train. nat_eq train c.train) trains) w.rides i.ride i.there
        (there-any (λ train. nat_eq train i.ride.train) trains i.ride.train i.train (eq-eqb i.ride.train i.ride.train refl));
    each = λ place w at on. let i = is-on place w at on in all place (listed-there rows trains i.ride.train place i.train i.beside);
    only = λ rides on.
        let r = any-there (λ (c : CertRide). list_any (λ train. nat_eq train c.train) trains) rides on in
        let t = any-there (λ train. nat_eq train r.0.train) trains r.2 in
        let n = watched-only rows nodes t.0 (only t.0 t.1) in
        let same : n.0.train ≡ r.0.train = n.2 ∙ eqb-true t.0 r.0.train t.2 in
        there-any (λ (c : CertRide). list_any (λ (n : Node). nat_eq n.train c.train) nodes) rides r.0 r.1
        (there-any (λ (n : Node). nat_eq n.train r.0.train) nodes n.0 n.1 (eq-eqb n.0.train r.0.train same));
    order = order;
  }

-- the same rides stand beside the same trains
rides-at : (ws vs : List Watched) → map (λ (w : Watched). w.rides) ws ≡ map (λ (w : Watched). w.rides) vs → (k : ℕ) (w : Watched) → slice_get ws k ≡ Some w
    → (v : Watched) × (slice_get vs k ≡ Some v) × (v.rides ≡ w.rides)
rides-at [] vs same k w at = absurd (none-some w at)
rides-at (u ∷ ws) [] same k w at = absurd (cc)
rides-at (u ∷ ws) (v ∷ vs) same zero w at =
    (v, refl, sym (ap (λ l. get_or l 0 []) same) ∙ ap (λ (w : Watched). w.rides) (same_Some u w at))
rides-at (u ∷ ws) (v ∷ vs) same (suc k) w at = rides-at ws vs (ap (drop 1) same) k w at

pub beside-still : (room : ℕ) (rows : List (List ℕ)) (old now : List Watched) → map (λ (w : Watched). w.rides) now ≡ map (λ (w : Watched). w.rides) old → AreBesideTrains room rows old
    → AreBesideTrains room rows now
beside-still room rows old now same are = record {
  beside = λ place w at. let v = rides-at now old same place w at in subst (StandsBesideTrains rows place) v.2 (are.beside place v.0 v.1);
  few = all-get (λ (w : Watched). length w.rides < 4294967296) now (λ k w at.
      let v = rides-at now old same k w at in
      subst (λ rides. length rides < 4294967296) v.2 (get-all (λ (w : Watched). length w.rides < 4294967296) old are.few k v.0 v.1));
  fits = let size : length now ≡ length old = sym (length-map now (λ (w : Watched). w.rides)) ∙ ap length same
      ∙ length-map old (λ (w : Watched). w.rides) in let fits = are.fits in omega (arith, size, fits);
  room_few = are.room_few;
}

-- one journey more stands beside its trains, where they stand beside all that they did
more-at : {X : Type 0} (xs : List X) (x : X) (k : ℕ) (y : X) → slice_get (xs ++ x ∷ []) k ≡ Some y → (slice_get xs k ≡ Some y) ⊎ ((k ≡ length xs) × (x ≡ y))
more-at [] x zero y at = inr (refl, same_Some x y at)
more-at [] x (suc k) y at = absurd (none-some y at)
more-at (z ∷ xs) x zero y at = inl at
more-at (z ∷ xs) x (suc k) y at = elim (more-at xs x k y at) [
  | inl there ↦ inl there
  | inr last ↦ inr (ap suc last.0, last.1)
]

pub beside-more : (room : ℕ) (rows grown : List (List ℕ)) (ws : List Watched) (w : Watched) → AreBesideTrains room rows ws → length ws < room
    → ((other n : ℕ) → Contains (journeys_on rows other) n → Contains (journeys_on grown other) n) → StandsBesideTrains grown (length ws) w.rides → length w.rides < 4294967296
    → AreBesideTrains room grown (ws ++ w ∷ [])
beside-more room rows grown ws w are fits kept beside few = record {
  beside = λ place v at. elim (more-at ws w place v at) [
    | inl there ↦ λ k d within. kept _ place (are.beside place v there k d within)
    | inr last ↦ rw last.0 (subst (λ (v : Watched). StandsBesideTrains grown (length ws) v.rides) last.1 beside)
  ];
  few = all-get (λ (w : Watched). length w.rides < 4294967296) (ws ++ w ∷ []) (λ k v at. elim (more-at ws w k v at) [
    | inl there ↦ get-all (λ (w : Watched). length w.rides < 4294967296) ws are.few k v there
    | inr last ↦ subst (λ (v : Watched). length v.rides < 4294967296) last.1 few
  ]);
  fits = let size = length_push ws w in omega (arith, size, fits);
  room_few = are.room_few;
}
