-- Whether the arrival of a ride is missing, departure by departure.
use Rattle.conn_scan.proofs.Words.{◌≡◌, ◌⊎◌, inl, inr, ℕ, ◌≤◌, ◌<◌, ◌&&◌, nat_lt, not, Bool, true, false, List, [], ◌∷◌, ◌++◌, Option, Some, None, is_some, get_or, length, set, refl, sym, ◌∙◌, ap, subst, arith, All, Contains, cond, option_map_or, option_or, and_parts, both_ways, cases_Bool, cases_eq, All-cons, All-contains, All-head, All-nil, All-tail, All-weaker, append_assoc, Contains-append_left, get_or-set_other, get_or-set_same, length-set, none-some, PlanRide, Query, Network, State, is_stop, IsValid, AreAtStops, held, Ordered, onward_at, Departure, Leaving, HasArrived, HasArrivals, IsEarly, MayBoard, boarding_at, boarding, stayed, is_by, never, time_at, IsHeld, IsStretch, departure_at, leaving_from, may_alight, may_board, ride_of, Known, Openings}
use Rattle.std.proofs.lemmas.Bool.{and_from, lt-ltb}
use Rattle.std.proofs.lemmas.List.Elements.{All-push, Contains-push}
use Rattle.dep_order.specs.declared.departure.Onward.{Onward}
use Rattle.journey_laws.specs.Checked.{is_early}
use Rattle.journey_laws.proofs.Beginnings.{early-before}
use Rattle.journey_laws.proofs.CheckedLemmas.{early-says, not-says, until-says}
use Rattle.conn_scan.specs.Arrivals.{has_all, is_lacking, is_missed, passed}
use Rattle.conn_scan.proofs.LeavingFrom.{IsLeaving, IsLeavingAt, leaving-all, leaving-at, leaving-each, ride-ends}
use Rattle.conn_scan.proofs.NextDeparture.{AreNumbered}
use Rattle.conn_scan.proofs.Stretches.{after-first, after-last, boards-at_stop, departure-is, last-or-none, ride-stretch, stretch-more, stretch-none, stretch-ride, stretch-times}

-- what is known once it was noted that stops are reached by these times: since when passengers can board, and when they are where
pub record AreNoted (nw : Network) (q : Query) (reached : ℕ → Option ℕ) (times there : List (Option ℕ)) : Type 0 where
  pub opened : (b t : ℕ) → is_stop nw.stops b ≡ true → t < never → (HasArrived (time_at times) b t → MayBoard nw q reached b t) × (MayBoard nw q reached b t → HasArrived (time_at times) b t)
  pub places : (b t : ℕ) → time_at times b ≡ Some t → b < length nw.stops
  pub there_is : (b : ℕ) → time_at there b ≡ reached b

module _ (nw : Network) (st : State) (o : Ordered) (q : Query) (reached : ℕ → Option ℕ) where
  -- passengers ride on departure m: they boarded at it or earlier on its train, where they could
  pub record IsRiddenBy (m : ℕ) : Type 0 where
    pub board : ℕ
    pub stretch : IsStretch o board m
    pub boards : may_board nw (departure_at o board) ≡ true
    pub may : MayBoard nw q reached (departure_at o board).stop (departure_at o board).time

  -- those who ride on these departures are noted where their trains go on, and no other is
  pub record AreAboard (done : List Leaving) (aboard : List (Option ℕ)) : Type 0 where
    pub stays : All (λ (y : Leaving). IsRiddenBy y.number → is_some (boarding_at aboard y.next) ≡ true) done
    pub only : (n b : ℕ) → boarding_at aboard n ≡ Some b → (y : Leaving) × Contains done y × IsRiddenBy y.number × (y.next ≡ n)

  some-first : (p other : Option ℕ) → is_some p ≡ true → is_some (option_or p other) ≡ true
  some-first None other h = absurd (both_ways false refl h)
  some-first (Some b) other h = refl

  some-second : (p other : Option ℕ) → is_some other ≡ true → is_some (option_or p other) ≡ true
  some-second None other h = h
  some-second (Some b) other h = refl

  of-two : (p other : Option ℕ) (b : ℕ) → option_or p other ≡ Some b → (p ≡ Some b) ⊎ (other ≡ Some b)
  of-two None other b h = inr h
  of-two (Some a) other b h = inl h

  if-some : (x : Bool) (n b : ℕ) → cond x (Some n) None ≡ Some b → x ≡ true
  if-some true n b h = refl
  if-some false n b h = absurd (none-some b h)

  module _ (valid : IsValid nw st) (are : AreNumbered nw st o) (at_stops : AreAtStops nw.stops st) (small : (n : ℕ) (d : Departure) → held o.entries n ≡ Some d → d.time < never) (time : ℕ) (since : (b t : ℕ) → MayBoard nw q reached b t → time ≤ t) where
    module _ (done : List Leaving) (x : Leaving) (rest : List Leaving) (split : leaving_from o time ≡ done ++ x ∷ rest) where
      at-x : IsLeavingAt o time done x rest
      at-x = leaving-at nw st o are time done x rest split

      x-held : IsHeld o x.number
      x-held = (at-x.leaving.departure, at-x.leaving.there)

      x-stop : (departure_at o x.number).stop ≡ x.stop
      x-stop = ap (λ (d : Departure). d.stop) at-x.leaving.at ∙ sym at-x.leaving.stop

      x-time : (departure_at o x.number).time ≡ x.time
      x-time = ap (λ (d : Departure). d.time) at-x.leaving.at ∙ sym at-x.leaving.its_time

      x-there : held o.entries x.number ≡ Some (departure_at o x.number)
      x-there = at-x.leaving.there ∙ ap Some (sym at-x.leaving.at)

      x-small : x.time < never
      x-small = let less = small x.number at-x.leaving.departure at-x.leaving.there in let same = at-x.leaving.its_time in omega arith

      next-of : (y : Leaving) → Contains done y → (onward_at o y.number).next ≡ y.next
      next-of y there =
          let whole = leaving-each nw st o are time in
          let is = All-contains (IsLeaving o time) (leaving_from o time) y whole (subst (λ ys. Contains ys y) (sym split) (Contains-append_left done (x ∷ rest) y there)) in
          ap (λ (w : Onward). w.next) is.onward

      module _ (times there : List (Option ℕ)) (noted : AreNoted nw q reached times there) (aboard : List (Option ℕ)) (now : AreAboard done aboard) where
        abbrev its_boarding : Option ℕ
        its_boarding = option_or (boarding_at aboard x.number) (cond (is_by times x.stop x.time) (Some x.number) None)

        -- who boards here, or stays aboard, rides on it
        boarded-ridden : (b : ℕ) → its_boarding ≡ Some b → IsRiddenBy x.number
        boarded-ridden b is = elim (of-two (boarding_at aboard x.number) (cond (is_by times x.stop x.time) (Some x.number) None) b is) [
          | inl stays ↦
              let y = now.only x.number b stays in
              let by = y.2 in
              record { board = by.board; stretch = stretch-more o by.board y.0.number x.number by.stretch (next-of y.0 y.1 ∙ y.3) x-held; boards = by.boards; may = by.may }
          | inr boards ↦
              let opens = (until-says (time_at times x.stop) x.time).0 (if-some (is_by times x.stop x.time) x.number b boards) in
              let place : x.stop < length nw.stops = noted.places x.stop opens.0 opens.1 in
              let may : may_board nw (departure_at o x.number) ≡ true = lt-ltb (departure_at o x.number).stop (length nw.stops) (omega (arith, x-stop, place)) in
              let stop : is_stop nw.stops x.stop ≡ true = subst (λ b. is_stop nw.stops b ≡ true) x-stop (boards-at_stop nw st o are at_stops x.number (departure_at o x.number) x-there may) in
              record {
                board = x.number;
                stretch = stretch-none o x.number x-held;
                boards = may;
                may = subst (λ b. MayBoard nw q reached b (departure_at o x.number).time) (sym x-stop) (subst (MayBoard nw q reached x.stop) (sym x-time) ((noted.opened x.stop x.time stop x-small).0 opens));
              }
        ]

        -- who rides on it has boarded here, or stays aboard
        ridden-boarded : IsRiddenBy x.number → is_some its_boarding ≡ true
        ridden-boarded by = elim (last-or-none o by.board x.number by.stretch) [
          | inl here ↦
              let d = departure_at o x.number in
              let boards = subst (λ b. may_board nw (departure_at o b) ≡ true) here by.boards in
              let may = subst (λ b. MayBoard nw q reached (departure_at o b).stop (departure_at o b).time) here by.may in
              let stop = boards-at_stop nw st o are at_stops x.number d x-there boards in
              let opens = (noted.opened d.stop d.time stop (small x.number d x-there)).1 may in
              let passes : is_by times x.stop x.time ≡ true = (until-says (time_at times x.stop) x.time).1 (subst (λ b. HasArrived (time_at times) b x.time) x-stop (subst (HasArrived (time_at times) d.stop) x-time opens)) in
              some-second (boarding_at aboard x.number) (cond (is_by times x.stop x.time) (Some x.number) None) (rw passes refl)
          | inr step ↦
              let m = step.before in
              let first = after-first o step.stretch.0 by.board m step.stretch.1 in
              let last = after-last o step.stretch.0 by.board m step.stretch.1 in
              let rises = (stretch-times nw st o are by.board m first.0 last.0 step.stretch first.1 last.1).0 in
              let begun : time ≤ (departure_at o by.board).time = since (departure_at o by.board).stop (departure_at o by.board).time by.may in
              let its = ap (λ (d : Departure). d.time) (departure-is o by.board first.0 first.1) in
              let y = at-x.previous m last.0 last.1 (omega (arith, rises, begun, its)) step.next in
              let rides : IsRiddenBy y.0.number = record { board = by.board; stretch = subst (IsStretch o by.board) (sym y.2) step.stretch; boards = by.boards; may = by.may } in
              let stays = All-contains (λ (y : Leaving). IsRiddenBy y.number → is_some (boarding_at aboard y.next) ≡ true) done y.0 now.stays y.1 rides in
              let next : y.0.next ≡ x.number = sym (next-of y.0 y.1) ∙ ap (λ n. (onward_at o n).next) y.2 ∙ step.next in
              some-first (boarding_at aboard x.number) (cond (is_by times x.stop x.time) (Some x.number) None) (subst (λ n. is_some (boarding_at aboard n) ≡ true) next stays)
        ]

        more-stays : (aboard' : List (Option ℕ)) → ((n : ℕ) → is_some (boarding_at aboard n) ≡ true → is_some (boarding_at aboard' n) ≡ true) → (IsRiddenBy x.number → is_some (boarding_at aboard' x.next) ≡ true) → All (λ (y : Leaving). IsRiddenBy y.number → is_some (boarding_at aboard' y.next) ≡ true) (done ++ x ∷ [])
        more-stays aboard' kept here =
            All-push (λ (y : Leaving). IsRiddenBy y.number → is_some (boarding_at aboard' y.next) ≡ true) done x
            (All-weaker (λ (y : Leaving). IsRiddenBy y.number → is_some (boarding_at aboard y.next) ≡ true) (λ (y : Leaving). IsRiddenBy y.number → is_some (boarding_at aboard' y.next) ≡ true) (λ y h rides. kept y.next (h rides)) done now.stays) here

        -- once those who ride on it stay aboard
        next-aboard : (room : x.next < length aboard) (p : Option ℕ) → its_boarding ≡ p → AreAboard (done ++ x ∷ []) (option_map_or (λ b. set aboard x.next (Some b)) p aboard)
        next-aboard room None is = record {
          stays = more-stays aboard (λ n h. h) (λ rides. absurd (both_ways (is_some its_boarding) (ap is_some is) (ridden-boarded rides)));
          only = λ n b at. let y = now.only n b at in (y.0, Contains-append_left done (x ∷ []) y.0 y.1, y.2, y.3);
        }
        next-aboard room (Some b) is = record {
          stays = more-stays (set aboard x.next (Some b)) (λ n h. elim (cases_eq n x.next) [
            | inl here ↦ ap is_some (ap (boarding_at (set aboard x.next (Some b))) here ∙ get_or-set_same aboard x.next (Some b) None room)
            | inr other ↦ ap is_some (get_or-set_other aboard x.next n (Some b) None other) ∙ h
          ]) (λ rides. ap is_some (get_or-set_same aboard x.next (Some b) None room));
          only = λ n c at. elim (cases_eq n x.next) [
            | inl here ↦ (x, Contains-push done x, boarded-ridden b is, sym here)
            | inr other ↦
                let y = now.only n c (sym (get_or-set_other aboard x.next n (Some b) None other) ∙ at) in
                (y.0, Contains-append_left done (x ∷ []) y.0 y.1, y.2, y.3)
          ];
        }

    -- before the first departure nobody is aboard
    pub none-aboard : (aboard : List (Option ℕ)) → ((n : ℕ) → boarding_at aboard n ≡ None) → AreAboard [] aboard
    none-aboard aboard none = record {
      stays = All-nil (λ (y : Leaving). IsRiddenBy y.number → is_some (boarding_at aboard y.next) ≡ true);
      only = λ n b at. absurd (none-some b (sym (none n) ∙ at));
    }

    module _ (n : ℕ) (best : Option ℕ) where
      -- an early departure that passengers ride on, and whose arrival is not missing
      abbrev pub IsDone : List (Option ℕ) → Leaving → Type 0
      IsDone there x = IsEarly best x.time → IsRiddenBy x.number → is_lacking n best x there ≡ false

      late : (there : List (Option ℕ)) (x : Leaving) → is_early best x.time ≡ false → IsDone there x
      late there x not early rides = absurd (both_ways (is_early best x.time) not ((early-says best x.time).1 early))

      none-missed : (missed lacks : Bool) → (missed && lacks) ≡ false → missed ≡ true → lacks ≡ false
      none-missed missed lacks h holds = rw holds at h

      -- what passing a departure keeps
      passed-times : (x : Leaving) (k : Known) (p : Option ℕ) → ((option_map_or (λ b. stayed b x k) p k).openings ≡ k.openings) × ((option_map_or (λ b. stayed b x k) p k).held ≡ k.held) × ((option_map_or (λ b. stayed b x k) p k).aboard ≡ option_map_or (λ b. set k.aboard x.next (Some b)) p k.aboard)
      passed-times x k None = (refl, refl, refl)
      passed-times x k (Some b) = (refl, refl, refl)

      same-length : (aboard : List (Option ℕ)) (m : ℕ) (p : Option ℕ) → length (option_map_or (λ b. set aboard m (Some b)) p aboard) ≡ length aboard
      same-length aboard m None = refl
      same-length aboard m (Some b) = length-set aboard m (Some b)

      -- what is known where the scan comes to a departure
      pub record IsKnown (done : List Leaving) (k : Known) : Type 0 where
        pub noted : AreNoted nw q reached k.openings.times k.held
        pub aboard : AreAboard done k.aboard
        pub room : length o.entries < length k.aboard

      next-known : (done : List Leaving) (x : Leaving) (rest : List Leaving) → leaving_from o time ≡ done ++ x ∷ rest → (k : Known) → IsKnown done k → IsKnown (done ++ x ∷ []) (passed x k) × ((passed x k).held ≡ k.held)
      next-known done x rest split k h =
          let within = (at-x done x rest split).leaving.next_within in
          let same = passed-times x k (boarding x k) in
          let more = next-aboard done x rest split k.openings.times k.held h.noted k.aboard h.aboard (omega (arith, within, h.room)) (boarding x k) refl in
          let size = same-length k.aboard x.next (boarding x k) in (
            record {
              noted = subst (λ held. AreNoted nw q reached (passed x k).openings.times held) (sym same.1) (subst (λ (ls : Openings). AreNoted nw q reached ls.times k.held) (sym same.0) h.noted);
              aboard = subst (AreAboard (done ++ x ∷ [])) (sym same.2) more;
              room = let whole = ap length same.2 in omega (arith, whole, size, h.room);
            },
            same.1,
          )

      -- where none is missed, none is missing
      pub all-done : (there : List (Option ℕ)) (done rest : List Leaving) → leaving_from o time ≡ done ++ rest → (k : Known) → IsKnown done k → k.held ≡ there → has_all n best rest k ≡ true → All (IsDone there) rest
      all-done there done [] split k h same passes = All-nil (IsDone there)
      all-done there done (x ∷ rest) split k h same passes = elim (cases_Bool (is_early best x.time)) [
        | inr not ↦
            let rise = (at-x done x rest split).after in
            All-cons (IsDone there) x rest (late there x not) (All-weaker (λ (y : Leaving). x.time ≤ y.time) (IsDone there) (λ y le early rides. absurd (both_ways (is_early best x.time) not ((early-says best x.time).1 (early-before best x.time y.time le early)))) rest rise)
        | inl early ↦ elim (cases_Bool (is_missed n best x k)) [
          | inl missed ↦ absurd (both_ways false refl (rw (early, missed) at passes))
          | inr not ↦
              let next = next-known done x rest split k h in
              let here : IsDone there x = λ _ rides. subst (λ held. is_lacking n best x held ≡ false) same (none-missed (is_some (boarding x k)) (is_lacking n best x k.held) not (ridden-boarded done x rest split k.openings.times k.held h.noted k.aboard h.aboard rides)) in
              All-cons (IsDone there) x rest here (all-done there (done ++ x ∷ []) rest (split ∙ sym (append_assoc done (x ∷ []) rest)) (passed x k) next.0 (next.1 ∙ same) (rw (early, not) at passes))
        ]
      ]

      some-of : (p : Option ℕ) → is_some p ≡ true → (b : ℕ) × (p ≡ Some b)
      some-of None h = absurd (both_ways false refl h)
      some-of (Some b) h = (b, refl)

      -- and where none is missing, none is missed
      pub done-all : (there : List (Option ℕ)) (done rest : List Leaving) → leaving_from o time ≡ done ++ rest → (k : Known) → IsKnown done k → k.held ≡ there → All (IsDone there) rest → has_all n best rest k ≡ true
      done-all there done [] split k h same each = refl
      done-all there done (x ∷ rest) split k h same each = elim (cases_Bool (is_early best x.time)) [
        | inr not ↦ rw not refl
        | inl early ↦ elim (cases_Bool (is_missed n best x k)) [
          | inl missed ↦
              let parts = and_parts (is_some (boarding x k)) (is_lacking n best x k.held) missed in
              let b = some-of (boarding x k) parts.0 in
              let rides = boarded-ridden done x rest split k.openings.times k.held h.noted k.aboard h.aboard b.0 b.1 in
              let not = All-head (IsDone there) x rest each ((early-says best x.time).0 early) rides in
              absurd (both_ways (is_lacking n best x there) not (subst (λ held. is_lacking n best x held ≡ true) same parts.1))
          | inr not ↦
              let next = next-known done x rest split k h in
              rw (early, not) (done-all there (done ++ x ∷ []) rest (split ∙ sym (append_assoc done (x ∷ []) rest)) (passed x k) next.0 (next.1 ∙ same) (All-tail (IsDone there) x rest each))
        ]
      ]

    module _ (best : Option ℕ) (k : Known) (h : IsKnown (length nw.stops) best [] k) where
      abbrev n : ℕ
      n = length nw.stops

      lacking-not : (x : Leaving) → is_lacking n best x k.held ≡ false → nat_lt x.to n ≡ true → is_early best x.arrival ≡ true → is_by k.held x.to x.arrival ≡ true
      lacking-not x done to early = elim (cases_Bool (is_by k.held x.to x.arrival)) [
        | inl by ↦ by
        | inr none ↦ absurd (both_ways (is_lacking n best x k.held) done (and_from (nat_lt x.to n) _ to (and_from (is_early best x.arrival) (not (is_by k.held x.to x.arrival)) early ((not-says (is_by k.held x.to x.arrival)).1 none))))
      ]

      -- where none is missed, each ride that can be boarded has its arrival
      pub arrivals-there : has_all n best (leaving_from o time) k ≡ true → HasArrivals nw st q best reached reached
      arrivals-there passes r ride can leaves early =
          let each = all-done n best k.held [] (leaving_from o time) refl k h refl passes in
          let along = ride-stretch nw st o are at_stops r ride in
          let b = along.board in
          let first = after-first o along.stretch.0 b along.last along.stretch.1 in
          let last = after-last o along.stretch.0 b along.last along.stretch.1 in
          let may : MayBoard nw q reached (departure_at o b).stop (departure_at o b).time = subst (λ (r : PlanRide). MayBoard nw q reached r.board_stop r.board_time) (sym along.is) can in
          let begun = since (departure_at o b).stop (departure_at o b).time may in
          let its = ap (λ (d : Departure). d.time) (departure-is o b first.0 first.1) in
          let rises = (stretch-times nw st o are b along.last first.0 last.0 along.stretch first.1 last.1).0 in
          let listed = leaving-all nw st o are time along.last last.0 last.1 (omega (arith, begun, its, rises)) in
          let x = listed.0 in
          let is = All-contains (IsLeaving o time) (leaving_from o time) x (leaving-each nw st o are time) listed.1 in
          let rides : IsRiddenBy x.number = record { board = b; stretch = subst (IsStretch o b) (sym listed.2) along.stretch; boards = along.boards; may = may } in
          let same : ride_of st o b x.number ≡ r = ap (ride_of st o b) listed.2 ∙ along.is in
          let ends = ride-ends st o time x is b in
          let stop : x.to ≡ r.alight_stop = sym ends.0 ∙ ap (λ (r : PlanRide). r.alight_stop) same in
          let at : x.arrival ≡ r.alight_time = sym ends.1 ∙ ap (λ (r : PlanRide). r.alight_time) same in
          let soon : IsEarly best x.arrival = subst (IsEarly best) (sym at) early in
          let done = All-contains (IsDone n best k.held) (leaving_from o time) x each listed.1 (early-before best x.time x.arrival is.arrives soon) rides in
          let to' : nat_lt x.to n ≡ true = subst (λ (w : Onward). nat_lt w.to n ≡ true) is.onward (subst (λ m. may_alight nw (onward_at o m) ≡ true) (sym listed.2) along.alights) in
          let by = (until-says (time_at k.held x.to) x.arrival).0 (lacking-not x done to' ((early-says best x.arrival).1 soon)) in
          subst (λ b. HasArrived reached b r.alight_time) stop (subst (HasArrived reached x.to) at (by.0, sym (h.noted.there_is x.to) ∙ by.1, by.2))

      -- and where each has it, none is missed
      pub there-arrivals : HasArrivals nw st q best reached reached → has_all n best (leaving_from o time) k ≡ true
      there-arrivals arrivals =
          done-all n best k.held [] (leaving_from o time) refl k h refl (λ i d l. one (get_or (leaving_from o time) i d) (leaving-each nw st o are time i d l))
        where
          one : (x : Leaving) → IsLeaving o time x → IsDone n best k.held x
          one x is early by = elim (cases_Bool (is_lacking n best x k.held)) [
            | inr done ↦ done
            | inl lacks ↦
                let parts = and_parts (nat_lt x.to n) (is_early best x.arrival && not (is_by k.held x.to x.arrival)) lacks in
                let soon = and_parts (is_early best x.arrival) (not (is_by k.held x.to x.arrival)) parts.1 in
                let alights : may_alight nw (onward_at o x.number) ≡ true = subst (λ (w : Onward). nat_lt w.to n ≡ true) (sym is.onward) parts.0 in
                let b = by.board in
                let ride = stretch-ride nw st o are b x.number by.stretch by.boards alights in
                let r = ride_of st o b x.number in
                let ends = ride-ends st o time x is b in
                let first = after-first o by.stretch.0 b x.number by.stretch.1 in
                let rises = (stretch-times nw st o are b x.number first.0 is.departure by.stretch first.1 is.there).0 in
                let its = ap (λ (d : Departure). d.time) (departure-is o b first.0 first.1) in
                let on = is.arrives in
                let at = is.its_time in
                let ends_soon : IsEarly best x.arrival = (early-says best x.arrival).0 soon.0 in
                let begins_soon : IsEarly best r.board_time = early-before best r.board_time x.arrival (omega (arith, rises, its, on, at)) ends_soon in
                let has = arrivals r ride by.may begins_soon (subst (IsEarly best) (sym ends.1) ends_soon) in
                let there : HasArrived reached x.to x.arrival = subst (λ b. HasArrived reached b x.arrival) ends.0 (subst (HasArrived reached r.alight_stop) ends.1 has) in
                absurd (both_ways (is_by k.held x.to x.arrival) ((not-says (is_by k.held x.to x.arrival)).0 soon.1) ((until-says (time_at k.held x.to) x.arrival).1 (there.0, h.noted.there_is x.to ∙ there.1, there.2)))
          ]
