-- What a scan keeps when it comes to one more departure.
use Rattle.conn_scan.proofs.Words.{◌≡◌, ◌≢◌, ◌⊎◌, inl, inr, ℕ, zero, suc, ◌+◌, ◌≤◌, ◌<◌, ◌&&◌, nat_lt, nat_le, not, Bool, true, false, List, [], ◌∷◌, ◌++◌, Option, Some, None, MatchOption, IfSome, length, map, set, get_or, refl, sym, ◌∙◌, ap, subst, arith, All, Contains, option_map, option_map_or, option_or, and_parts, both_ways, cond, cases_Bool, cases_eq, cases_lt, cond_both, leb-true, leb-false, ltb-true, ltb-false, All-contains, Contains-append_left, get_or-set_other, get_or-set_same, none-some, same_Some, PlanRide, Query, Network, State, is_stop, is_one_station, IsInTime, IsRide, IsValid, AreAtStops, held, Ordered, onward_at, Departure, Leaving, HasArrived, IsFromOrigin, IsOpen, MayBoard, IsScanOf, IsArrivalTaken, IsBestBy, IsBestTaken, boarding_at, boarding, arrived, better, departed, ends_there, is_before, is_first_arrival, ride_by, stayed, is_by, lowered, never, time_at, reached, Change, IsHeld, IsRideOf, IsStretch, departure_at, leaving_from, may_alight, may_board, ride_of, HasOpened, IsRidden, IsTakeable, ride_along, ride_at, Ending, Known, Openings, Stretch}
use Rattle.std.proofs.lemmas.Bool.{and_cases, lt-ltb}
use Rattle.std.proofs.lemmas.List.Elements.{Contains-append_cases}
use Rattle.delay_model.proofs.Lists.{Contains-cases, Contains-there}
use Rattle.journey_laws.proofs.Forward.{in_time-later}
use Rattle.journey_laws.proofs.Scanning.{scan-passes, scan-takes-at}
use Rattle.conn_scan.proofs.ChangeLemmas.{IsChange, change-listed, changes_of, reached-each, reached-within, stop-within}
use Rattle.conn_scan.proofs.Kept.{AreOpened, IsEnding, IsExplainedBy, IsKept, IsNoLater, IsSeen, best_time, at-x, best-still, boarding-right, boarding-there, by-has, by-is, ending-still, explained-still, mapped, number, ridden-still, takeable-still, x-held, x-is, x-next, x-stop, x-time}
use Rattle.conn_scan.proofs.LeavingFrom.{IsLeaving, IsLeavingAt, leaving-at, leaving-each}
use Rattle.conn_scan.proofs.NextDeparture.{AreNumbered}
use Rattle.conn_scan.proofs.OpeningsLemmas.{ArePlaces, lowered-from, lowered-kept, lowered-there}
use Rattle.conn_scan.proofs.Stretches.{after-first, after-last, alights-at_stop, departure-is, stretch-more, stretch-times}

-- the numbers that are done once one more is
pub now-cases : (done : List ℕ) (x n : ℕ) → Contains (done ++ x ∷ []) n → Contains done n ⊎ (n ≡ x)
now-cases done x n h = elim (Contains-append_cases done (x ∷ []) n h) [
  | inl before ↦ inl before
  | inr here ↦ inr (only here)
]
  where
    only : Contains (x ∷ []) n → n ≡ x
    only h = elim (Contains-cases x [] n h) [ inl same ↦ sym same | inr rest ↦ absurd (let l = rest.1 in omega arith) ]

pub unmapped : {X Y : Type 0} (f : X → Y) (xs : List X) (y : Y) → Contains (map f xs) y → (x : X) × Contains xs x × (f x ≡ y)
unmapped f [] y h = let l = h.1 in absurd (omega arith)
unmapped f (x ∷ xs) y h = elim (Contains-cases (f x) (map f xs) y h) [
  | inl same ↦ (x, (0, omega arith, refl), same)
  | inr later ↦ let r = unmapped f xs y later in (r.0, Contains-there x xs r.0 r.1, r.2)
]

pub turned : (b : Bool) → not b ≡ false → b ≡ true
turned true h = refl
turned false h = absurd (both_ways true h refl)

pub turned-false : (b : Bool) → not b ≡ true → b ≡ false
turned-false false h = refl
turned-false true h = absurd (both_ways false refl h)

-- a boarding that is noted beside others
noted-cases : (xs : List (Option ℕ)) (i b n c : ℕ) → boarding_at (set xs i (Some b)) n ≡ Some c → ((n ≡ i) × (b ≡ c)) ⊎ (boarding_at xs n ≡ Some c)
noted-cases [] i b n c at = inr at
noted-cases (x ∷ xs) zero b zero c at = inl (refl, same_Some b c at)
noted-cases (x ∷ xs) zero b (suc n) c at = inr at
noted-cases (x ∷ xs) (suc i) b zero c at = inr at
noted-cases (x ∷ xs) (suc i) b (suc n) c at = elim (noted-cases xs i b n c at) [ inl new ↦ inl (ap suc new.0, new.1) | inr old ↦ inr old ]

noted-still : (xs : List (Option ℕ)) (i b n c : ℕ) → i < length xs → boarding_at xs n ≡ Some c → (e : ℕ) × (boarding_at (set xs i (Some b)) n ≡ Some e)
noted-still xs i b n c within at = elim (cases_eq n i) [
  | inl same ↦ (b, ap (boarding_at (set xs i (Some b))) same ∙ get_or-set_same xs i (Some b) None within)
  | inr other ↦ (c, get_or-set_other xs i n (Some b) None other ∙ at)
]

-- what an arrival earlier than what is held makes of it
pub arrival-taken : (list : List (Option ℕ)) (b t : ℕ) → b < length list → is_by list b t ≡ false → IsArrivalTaken b t (time_at list) (time_at (set list b (Some t)))
arrival-taken list b t within late = record {
  no_later = λ c s h. elim (cases_eq c b) [
    | inl same ↦ (t, ap (time_at (set list b (Some t))) same ∙ get_or-set_same list b (Some t) None within, earlier c s same h)
    | inr other ↦ (h.0, get_or-set_other list b c (Some t) None other ∙ h.1, h.2)
  ];
  there = (t, get_or-set_same list b (Some t) None within, omega arith);
  others = λ c s at. elim (cases_eq c b) [
    | inl same ↦ inr (same, sym (same_Some t s (sym (ap (time_at (set list b (Some t))) same ∙ get_or-set_same list b (Some t) None within) ∙ at)))
    | inr other ↦ inl (sym (get_or-set_other list b c (Some t) None other) ∙ at)
  ];
}
  where
    earlier : (c s : ℕ) → c ≡ b → HasArrived (time_at list) c s → t ≤ s
    earlier c s same h = elim (cases_lt s t) [
      | inl before ↦ absurd (both_ways _ late (by-is list b t (h.0, ap (time_at list) (sym same) ∙ h.1, (let le = h.2 in omega arith))))
      | inr after ↦ after
    ]

-- what it makes of the best arrival
pub best-earlier : (t : ℕ) (best : Option Ending) (s : ℕ) → is_before t best ≡ true → IsBestBy (best_time best) s → t ≤ s
best-earlier t None s before h = absurd (none-some h.0 h.1)
best-earlier t (Some e) s before h = let same : e.time ≡ h.0 = same_Some e.time h.0 h.1 in let le = h.2 in omega (arith, ltb-true t e.time before)

pub best-by : (t : ℕ) (best : Option Ending) → is_before t best ≡ false → IsBestBy (best_time best) t
best-by t None late = absurd (both_ways true late refl)
best-by t (Some e) late = (e.time, refl, ltb-false t e.time late)

module _ (nw : Network) (q : Query) (x : Leaving) (r : Stretch) (best : Option Ending) where
  pub best-taken : IsBestTaken nw q x.to x.arrival (best_time best) (best_time (better (changes_of nw) q x r best))
  best-taken = record {
    no_later = λ s h. cond_both (ends_there (changes_of nw) q x.to && is_before x.arrival best) (Some (record { time = x.arrival; ride = r })) best (λ e. IsBestBy (best_time e) s)
        (λ both. (x.arrival, refl, best-earlier x.arrival best s (and_parts _ _ both).1 h)) (λ _. h);
    there = λ one. cond_both (ends_there (changes_of nw) q x.to && is_before x.arrival best) (Some (record { time = x.arrival; ride = r })) best (λ e. IsBestBy (best_time e) x.arrival)
        (λ both. (x.arrival, refl, omega arith)) (λ fails. elim (and_cases (ends_there (changes_of nw) q x.to) _ fails) [
          | inl apart ↦ absurd (both_ways _ apart one)
          | inr late ↦ best-by x.arrival best late
        ]);
  }

module _ (nw : Network) (st : State) (o : Ordered) (are : AreNumbered nw st o) (q : Query) (at_stops : AreAtStops nw.stops st) (small : (n : ℕ) (d : Departure) → held o.entries n ≡ Some d → d.time < never) (done : List Leaving) (x : Leaving) (rest : List Leaving) (split : leaving_from o q.time ≡ done ++ x ∷ rest) (k : Known) (kept : IsKept nw st q o (map number done) k) where
  abbrev pub before : List ℕ
  before = map number done

  abbrev pub now : List ℕ
  now = before ++ x.number ∷ []

  at : IsLeavingAt o q.time done x rest
  at = leaving-at nw st o are q.time done x rest split

  -- each departure that is done by now was no later
  done-time : (n : ℕ) → Contains now n → (d : Departure) × (held o.entries n ≡ Some d) × (d.time ≤ x.time)
  done-time n there = elim (now-cases before x.number n there) [
    | inl old ↦
        let y = unmapped number done n old in
        let leaving = All-contains (IsLeaving o q.time) (leaving_from o q.time) y.0 (leaving-each nw st o are q.time) (subst (λ xs. Contains xs y.0) (sym split) (Contains-append_left done (x ∷ rest) y.0 y.1)) in
        let earlier = All-contains (λ (y : Leaving). y.time ≤ x.time) done y.0 at.before y.1 in
        let same = leaving.its_time in
        (leaving.departure, ap (held o.entries) (sym y.2) ∙ leaving.there, omega arith)
    | inr here ↦ let same = at.leaving.its_time in (at.leaving.departure, ap (held o.entries) here ∙ at.leaving.there, omega arith)
  ]

  -- a ride whose last departure this is can be boarded: then a boarding is known
  ride-known : (s : PlanRide) (h : IsRideOf nw st o s) → h.last ≡ x.number → IsOpen nw q (time_at k.held) s → (c : ℕ) × (boarding x k ≡ Some c)
  ride-known s h same can =
      boarding-there nw st o are q at_stops done x rest split k small kept h.board (subst (IsStretch o h.board) same h.stretch) h.boards
      (subst (λ (s : PlanRide). MayBoard nw q (time_at k.held) s.board_stop s.board_time) (sym h.is) can)

  -- where nobody rides on it
  pub kept-passes : boarding x k ≡ None → IsKept nw st q o now k
  kept-passes nobody = record {
    scan = scan-passes nw st q (best_time k.best) (time_at k.held) (IsSeen nw st o before) (IsSeen nw st o now) (λ s ride seen can. elim (now-cases before x.number seen.along.last seen.seen) [
      | inl old ↦ record { along = seen.along; seen = old }
      | inr here ↦ let c = ride-known s seen.along here can in absurd (none-some c.0 (sym nobody ∙ c.1))
    ]) kept.scan;
    opened = kept.opened;
    aboard = λ n b there stretch boards may. elim (now-cases before x.number n there) [
      | inl old ↦ kept.aboard n b old stretch boards may
      | inr here ↦ let c = boarding-there nw st o are q at_stops done x rest split k small kept b (subst (IsStretch o b) here stretch) boards may in absurd (none-some c.0 (sym nobody ∙ c.1))
    ];
    noted = kept.noted;
    explained = kept.explained;
    best = kept.best;
    stops = kept.stops;
    places = kept.places;
  }

  -- those who ride on it have boarded at departure b
  module _ (b : ℕ) (known : boarding x k ≡ Some b) (next : x.next < length k.aboard) where
    abbrev pub stays : Known
    stays = stayed b x k

    ridden : IsRidden nw o k.openings b x.number
    ridden = boarding-right nw st o are q at_stops done x rest split k small kept b known

    -- their boarding is noted
    aboard-now : (n : ℕ) → Contains now n → (Contains before n → (c : ℕ) × (boarding_at k.aboard (onward_at o n).next ≡ Some c)) → (c : ℕ) × (boarding_at (set k.aboard x.next (Some b)) (onward_at o n).next ≡ Some c)
    aboard-now n there old = elim (now-cases before x.number n there) [
      | inl done ↦ let c = old done in noted-still k.aboard x.next b (onward_at o n).next c.0 next c.1
      | inr here ↦ (b, ap (boarding_at (set k.aboard x.next (Some b))) (ap (λ n. (onward_at o n).next) here ∙ x-next nw st o are q at_stops done x rest split k small kept) ∙ get_or-set_same k.aboard x.next (Some b) None next)
    ]

    noted-now : (n c : ℕ) → boarding_at (set k.aboard x.next (Some b)) n ≡ Some c → IsHeld o n → IsRidden nw o k.openings c n
    noted-now n c is there = elim (noted-cases k.aboard x.next b n c is) [
      | inl new ↦ subst (λ c. IsRidden nw o k.openings c n) new.1 (record {
        stretch = stretch-more o b x.number n ridden.stretch (x-next nw st o are q at_stops done x rest split k small kept ∙ sym new.0) there;
        boards = ridden.boards;
        opened = ridden.opened;
      })
      | inr old ↦ kept.noted n c old there
    ]

    x-to : (onward_at o x.number).to ≡ x.to
    x-to = ap (λ (w : Rattle.dep_order.specs.declared.departure.Onward.Onward). w.to) at.leaving.onward

    x-arrival : (onward_at o x.number).arrival ≡ x.arrival
    x-arrival = ap (λ (w : Rattle.dep_order.specs.declared.departure.Onward.Onward). w.arrival) at.leaving.onward

    -- a ride whose last departure this is ends where the train arrives next
    ends-here : (s : PlanRide) (h : IsRideOf nw st o s) → h.last ≡ x.number → (s.alight_stop ≡ x.to) × (s.alight_time ≡ x.arrival)
    ends-here s h same = (
      ap (λ (s : PlanRide). s.alight_stop) (sym h.is) ∙ ap (λ n. (onward_at o n).to) same ∙ x-to,
      ap (λ (s : PlanRide). s.alight_time) (sym h.is) ∙ ap (λ n. (onward_at o n).arrival) same ∙ x-arrival,
    )

    alights-here : (s : PlanRide) (h : IsRideOf nw st o s) → h.last ≡ x.number → nat_lt x.to (length nw.stops) ≡ true
    alights-here s h same = subst (λ b. nat_lt b (length nw.stops) ≡ true) (ap (λ n. (onward_at o n).to) same ∙ x-to) h.alights

    -- where there is no earlier arrival
    pub kept-stays : is_first_arrival (length nw.stops) x stays ≡ false → IsKept nw st q o now stays
    kept-stays late = record {
      scan = record { arrivals = arrivals; there = kept.scan.there; since = kept.scan.since };
      opened = kept.opened;
      aboard = λ n c there stretch boards may. aboard-now n there (λ old. kept.aboard n c old stretch boards may);
      noted = noted-now;
      explained = kept.explained;
      best = kept.best;
      stops = kept.stops;
      places = kept.places;
    }
      where
        arrives : (s : PlanRide) (h : IsRideOf nw st o s) → h.last ≡ x.number → HasArrived (time_at k.held) s.alight_stop s.alight_time
        arrives s h same =
            let ends = ends-here s h same in
            elim (and_cases (nat_lt x.to (length nw.stops)) (not (is_by k.held x.to x.arrival)) late) [
              | inl none ↦ absurd (both_ways _ none (alights-here s h same))
              | inr held ↦ subst (λ b. HasArrived (time_at k.held) b s.alight_time) (sym ends.0) (subst (HasArrived (time_at k.held) x.to) (sym ends.1) (by-has k.held x.to x.arrival (turned (is_by k.held x.to x.arrival) held)))
            ]

        arrivals : (s : PlanRide) → IsRide nw st s → IsSeen nw st o now s → IsOpen nw q (time_at k.held) s → HasArrived (time_at k.held) s.alight_stop s.alight_time
        arrivals s ride seen can = elim (now-cases before x.number seen.along.last seen.seen) [
          | inl old ↦ kept.scan.arrivals s ride (record { along = seen.along; seen = old }) can
          | inr here ↦ arrives s seen.along here
        ]

    -- where there is one
    module _ (first : is_first_arrival (length nw.stops) x stays ≡ true) (room_held : length nw.stops ≤ length k.held) (room_times : length nw.stops ≤ length k.openings.times) (room_rides : length nw.stops ≤ length k.openings.rides) where
      abbrev pub r : Stretch
      r = ride_by b x

      abbrev pub arrives : Known
      arrives = arrived (changes_of nw) q x r stays

      abbrev pub cs : List Change
      cs = reached (changes_of nw) x.to

      parts : (nat_lt x.to (length nw.stops) ≡ true) × (not (is_by k.held x.to x.arrival) ≡ true)
      parts = and_parts (nat_lt x.to (length nw.stops)) (not (is_by k.held x.to x.arrival)) first

      to-within : x.to < length nw.stops
      to-within = ltb-true x.to (length nw.stops) parts.0

      taken : IsArrivalTaken x.to x.arrival (time_at k.held) (time_at arrives.held)
      taken = arrival-taken k.held x.to x.arrival (omega (arith, to-within, room_held)) (turned-false (is_by k.held x.to x.arrival) parts.1)

      are-places : ArePlaces k.openings cs
      are-places = λ i c l. record {
        times = reached-within (changes_of nw) x.to (length k.openings.times) room_times i c l;
        rides = reached-within (changes_of nw) x.to (length k.openings.rides) room_rides i c l;
      }

      later : IsNoLater k.openings arrives.openings
      later = lowered-kept x.arrival (Some r) cs k.openings are-places

      x-alights : may_alight nw (onward_at o x.number) ≡ true
      x-alights = subst (λ b. nat_lt b (length nw.stops) ≡ true) (sym x-to) parts.0

      takeable : IsTakeable nw o arrives.openings r
      takeable = record { ridden = ridden-still nw q o k.openings arrives.openings later b x.number ridden; alights = x-alights }

      -- what was done departed by now
      done-by : (n c : ℕ) → Contains now n → IsStretch o c n → (departure_at o c).time ≤ x.arrival
      done-by n c there stretch =
          let d = done-time n there in
          let e = after-first o stretch.0 c n stretch.1 in
          let rises = (stretch-times nw st o are c n e.0 d.0 stretch e.1 d.1).0 in
          let same = ap (λ (d : Departure). d.time) (departure-is o c e.0 e.1) in
          let until = d.2 in
          let arrives_by = at.leaving.arrives in
          omega arith

      -- who can board by now, could before
      was-open : (a t : ℕ) → t ≤ x.arrival → MayBoard nw q (time_at arrives.held) a t → MayBoard nw q (time_at k.held) a t
      was-open a t le (inl straight) = inl straight
      was-open a t le (inr (c, s, is, change)) = elim (taken.others c s is) [
        | inl old ↦ inr (c, s, old, change)
        | inr new ↦ let after = in_time-later nw are.valid.options c s a t change in let same = new.1 in absurd (omega arith)
      ]

      -- the times by which passengers can board
      still-board : (a t : ℕ) → MayBoard nw q (time_at k.held) a t → MayBoard nw q (time_at arrives.held) a t
      still-board a t (inl straight) = inl straight
      still-board a t (inr (c, s, is, change)) =
          let new = taken.no_later c s (s, is, omega arith) in
          let le = new.2 in
          let ends = change.2 in
          inr (c, new.0, new.1, (change.0, change.1, omega arith))

      each-in-time : All (λ (c : Change). IsInTime nw x.to x.arrival c.stop (x.arrival + c.seconds)) cs
      each-in-time = λ i c l. let is = reached-each (changes_of nw) x.to i c l in (_, is.change, omega arith)

      board-behind : (a t s : ℕ) → IsInTime nw x.to x.arrival a s → s ≤ t → MayBoard nw q (time_at arrives.held) a t
      board-behind a t s change le =
          let by = taken.there in
          let early = by.2 in
          let ends = change.2 in
          inr (x.to, by.0, by.1, (change.0, change.1, omega arith))

      may-now : (a t : ℕ) → is_stop nw.stops a ≡ true → t < never → HasOpened arrives.openings a t → MayBoard nw q (time_at arrives.held) a t
      may-now a t stop fits h = elim (lowered-from x.arrival (Some r) (λ a s. IsInTime nw x.to x.arrival a s) cs k.openings are-places each-in-time a h.0 h.1) [
        | inl old ↦ still-board a t ((kept.opened a t stop fits).0 (h.0, old.0, h.2))
        | inr new ↦ board-behind a t h.0 new.1 h.2
      ]

      opens-behind : (a t : ℕ) → is_stop nw.stops a ≡ true → t < never → IsInTime nw x.to x.arrival a t → HasOpened arrives.openings a t
      opens-behind a t stop fits change =
          let w = change.0 in
          let ends = change.2 in
          let there = All-contains (λ (c : Change). (x.arrival + c.seconds < never) → HasOpened arrives.openings c.stop (x.arrival + c.seconds)) cs (record { stop = a; seconds = w }) (lowered-there x.arrival (Some r) cs k.openings are-places) (change-listed (changes_of nw) x.to a w stop change.1) (omega arith) in
          let le = there.2 in
          (there.0, there.1, omega arith)

      opens-now : (a t : ℕ) → is_stop nw.stops a ≡ true → t < never → MayBoard nw q (time_at arrives.held) a t → HasOpened arrives.openings a t
      opens-now a t stop fits (inl straight) = later a t ((kept.opened a t stop fits).1 (inl straight))
      opens-now a t stop fits (inr (c, s, is, change)) = elim (taken.others c s is) [
        | inl old ↦ later a t ((kept.opened a t stop fits).1 (inr (c, s, old, change)))
        | inr new ↦ opens-behind a t stop fits (subst (λ c. IsInTime nw c x.arrival a t) new.0 (subst (λ s. IsInTime nw c s a t) new.1 change))
      ]

      -- the rides that are seen now end here, or were seen
      seen-now : (s : PlanRide) → IsRide nw st s → IsSeen nw st o now s → (IsSeen nw st o before s ⊎ ((s.alight_stop ≡ x.to) × (s.alight_time ≡ x.arrival))) × (s.board_time ≤ x.arrival)
      seen-now s ride seen = (
        elim (now-cases before x.number seen.along.last seen.seen) [
          | inl old ↦ inl (record { along = seen.along; seen = old })
          | inr here ↦ let ends = ends-here s seen.along here in inr (ends.0, ends.1)
        ],
        subst (λ (s : PlanRide). s.board_time ≤ x.arrival) seen.along.is (done-by seen.along.last seen.along.board seen.seen seen.along.stretch),
      )

      explained-now : (a t : ℕ) → time_at arrives.openings.times a ≡ Some t → IsExplainedBy nw q o arrives.openings a t (ride_at arrives.openings a)
      explained-now a t is = elim (lowered-from x.arrival (Some r) (λ a s. IsInTime nw x.to x.arrival a s) cs k.openings are-places each-in-time a t is) [
        | inl old ↦ subst (IsExplainedBy nw q o arrives.openings a t) (sym old.1) (explained-still nw q o k.openings arrives.openings later a t (ride_at k.openings a) (kept.explained a t old.0))
        | inr new ↦ subst (IsExplainedBy nw q o arrives.openings a t) (sym new.0) (takeable, subst (λ c. IsInTime nw c (onward_at o x.number).arrival a t) (sym x-to) (subst (λ s. IsInTime nw x.to s a t) (sym x-arrival) new.1))
      ]

      best-now : IfSome arrives.best (IsEnding nw q o arrives.openings)
      best-now = cond_both (ends_there (changes_of nw) q x.to && is_before x.arrival k.best) (Some (record { time = x.arrival; ride = r })) k.best (λ e. IfSome e (IsEnding nw q o arrives.openings))
          (λ both. record { takeable = takeable; time = x-arrival; there = subst (λ c. is_one_station nw c q.to_stop ≡ true) (sym x-to) (and_parts _ _ both).0 })
          (λ _. best-still nw q o k.openings arrives.openings later k.best kept.best)

      stops-now : (a t : ℕ) → time_at arrives.held a ≡ Some t → is_stop nw.stops a ≡ true
      stops-now a t is = elim (taken.others a t is) [
        | inl old ↦ kept.stops a t old
        | inr new ↦ subst (λ c. is_stop nw.stops c ≡ true) (x-to ∙ sym new.0) (alights-at_stop nw st o are at_stops x.number at.leaving.departure at.leaving.there x-alights)
      ]

      places-now : (a t : ℕ) → time_at arrives.openings.times a ≡ Some t → a < length nw.stops
      places-now a t is = elim (lowered-from x.arrival (Some r) (λ a s. a < length nw.stops) cs k.openings are-places (reached-within (changes_of nw) x.to (length nw.stops) (omega arith)) a t is) [
        | inl old ↦ kept.places a t old.0
        | inr new ↦ new.1
      ]

      pub kept-arrives : IsKept nw st q o now arrives
      kept-arrives = record {
        scan = scan-takes-at nw st q are.valid (best_time k.best) (best_time arrives.best) (time_at k.held) (time_at arrives.held) (IsSeen nw st o before) (IsSeen nw st o now) x.to x.arrival (let since = at.leaving.since in let until = at.leaving.arrives in omega arith) taken (best-taken nw q x r k.best) seen-now kept.scan;
        opened = λ a t stop fits. (may-now a t stop fits, opens-now a t stop fits);
        aboard = λ n c there stretch boards may. aboard-now n there (λ old. kept.aboard n c old stretch boards (was-open (departure_at o c).stop (departure_at o c).time (done-by n c there stretch) may));
        noted = λ n c is there. ridden-still nw q o k.openings arrives.openings later c n (noted-now n c is there);
        explained = explained-now;
        best = best-now;
        stops = stops-now;
        places = places-now;
      }
