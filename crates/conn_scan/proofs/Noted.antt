-- What is known once it was noted that stops are reached.
use Rattle.conn_scan.proofs.Words.{◌≡◌, ◌⊎◌, inl, inr, ℕ, ◌+◌, ◌≤◌, ◌<◌, nat_eq, true, false, List, [], ◌∷◌, Option, Some, None, length, set, get_or, refl, sym, ◌∙◌, ap, subst, arith, All, AllPairs, Contains, option_or, both_ways, cases_Bool, All-cons, All-nil, All-contains, All-head, All-tail, eqb-true, get_or-set_other, get_or-set_same, length-set, none-some, same_Some, Query, Network, is_stop, IsInTime, IsFromOrigin, MayBoard, lowered, never, time_at, reached, Change, Known, Openings, HasOpened}
use Rattle.std.proofs.lemmas.Bool.{eq-eqb, ne_eqb}
use Rattle.mt_base.specs.declared.certificates.Reach.{Reach}
use Rattle.delay_model.proofs.Lists.{AllPairs-after, AllPairs-tail, Contains-there}
use Rattle.journey_laws.specs.Certificates.{time_in}
use Rattle.journey_laws.proofs.BestArrivals.{Rises, all-found}
use Rattle.conn_scan.specs.Arrivals.{noted, noted_one}
use Rattle.conn_scan.proofs.ChangeLemmas.{change-listed, changes_of, reached-each, reached-within, stop-within}
use Rattle.conn_scan.proofs.Missing.{AreNoted}
use Rattle.conn_scan.proofs.OpeningsLemmas.{ArePlaces, length-lowered_rides, length-lowered_times, lowered-from, lowered-kept, lowered-there}

-- a stop below all of a rising list is not in it
none-below : (b : ℕ) (xs : List Reach) → All (λ (x : Reach). b < x.stop) xs → time_in xs b ≡ None
none-below b [] above = refl
none-below b (x ∷ xs) above =
    let lt = All-head (λ (x : Reach). b < x.stop) x xs above in
    let apart : nat_eq x.stop b ≡ false = ne_eqb x.stop b (λ same. omega arith) in
    rw apart (none-below b xs (All-tail (λ (x : Reach). b < x.stop) x xs above))

-- what is found in a list stands there
pub listed : (xs : List Reach) (b t : ℕ) → time_in xs b ≡ Some t → (x : Reach) × Contains xs x × (x.stop ≡ b) × (x.time ≡ t)
listed [] b t at = absurd (none-some t at)
listed (x ∷ xs) b t at = elim (cases_Bool (nat_eq x.stop b)) [
  | inl here ↦ (x, (0, omega arith, refl), eqb-true x.stop b here, same_Some x.time t (rw here at at))
  | inr apart ↦ let y = listed xs b t (rw apart at at) in (y.0, Contains-there x xs y.0 y.1, y.2, y.3)
]

module _ (nw : Network) where
  -- there are rows for the stops
  pub record HasRows (k : Known) : Type 0 where
    pub held : length nw.stops ≤ length k.held
    pub times : length nw.stops < length k.openings.times
    pub rides : length nw.stops < length k.openings.rides

  onward-places : (a : ℕ) (k : Known) → HasRows k → ArePlaces k.openings (reached (changes_of nw) a)
  onward-places a k rows = λ i c l. record {
    times = reached-within (changes_of nw) a (length k.openings.times) (let fits = rows.times in omega arith) i c l;
    rides = reached-within (changes_of nw) a (length k.openings.rides) (let fits = rows.rides in omega arith) i c l;
  }

  rows-one : (x : Reach) (k : Known) → HasRows k → HasRows (noted_one (changes_of nw) x k)
  rows-one x k rows = record {
    held = omega (arith, length-set k.held x.stop (Some x.time), rows.held);
    times = omega (arith, length-lowered_times x.time None (reached (changes_of nw) x.stop) k.openings, rows.times);
    rides = omega (arith, length-lowered_rides x.time None (reached (changes_of nw) x.stop) k.openings, rows.rides);
  }

  -- each stop is held with the time beside which it stands, and else as before
  noted-held : (xs : List Reach) (k : Known) → HasRows k → AllPairs Rises xs → All (λ (x : Reach). x.stop < length nw.stops) xs → (b : ℕ) → time_at (noted (changes_of nw) xs k).held b ≡ option_or (time_in xs b) (time_at k.held b)
  noted-held [] k rows rise stops b = refl
  noted-held (x ∷ xs) k rows rise stops b =
      let within = All-head (λ (x : Reach). x.stop < length nw.stops) x xs stops in
      let fits = rows.held in
      let rest = noted-held xs (noted_one (changes_of nw) x k) (rows-one x k rows) (AllPairs-tail Rises x xs rise) (All-tail (λ (x : Reach). x.stop < length nw.stops) x xs stops) b in
      elim (cases_Bool (nat_eq x.stop b)) [
        | inl here ↦
            let same = eqb-true x.stop b here in
            let none : time_in xs b ≡ None = subst (λ b. time_in xs b ≡ None) same (none-below x.stop xs (AllPairs-after Rises [] x xs rise)) in
            let now : time_at (set k.held x.stop (Some x.time)) b ≡ Some x.time = subst (λ b. time_at (set k.held x.stop (Some x.time)) b ≡ Some x.time) same (get_or-set_same k.held x.stop (Some x.time) None (omega arith)) in
            rw here (rest ∙ ap (λ o. option_or o (time_at (set k.held x.stop (Some x.time)) b)) none ∙ now)
        | inr apart ↦
            rw apart (rest ∙ ap (option_or (time_in xs b)) (get_or-set_other k.held x.stop b (Some x.time) None (λ same. let is = eq-eqb x.stop b (sym same) in absurd (both_ways (nat_eq x.stop b) apart is))))
      ]

  -- no stop opens later
  noted-kept : (xs : List Reach) (k : Known) → HasRows k → (b t : ℕ) → HasOpened k.openings b t → HasOpened (noted (changes_of nw) xs k).openings b t
  noted-kept [] k rows b t h = h
  noted-kept (x ∷ xs) k rows b t h =
      noted-kept xs (noted_one (changes_of nw) x k) (rows-one x k rows) b t
      (lowered-kept x.time None (reached (changes_of nw) x.stop) k.openings (onward-places x.stop k rows) b t h)

  -- where a change leads in time, it opens by then
  abbrev pub Opens : Openings → Reach → Type 0
  Opens ls x = (b t : ℕ) → is_stop nw.stops b ≡ true → t < never → IsInTime nw x.stop x.time b t → HasOpened ls b t

  one-opens : (x : Reach) (k : Known) → HasRows k → Opens (noted_one (changes_of nw) x k).openings x
  one-opens x k rows b t stop small change =
      let ls = lowered x.time None (reached (changes_of nw) x.stop) k.openings in
      let until = change.2 in
      let each = lowered-there x.time None (reached (changes_of nw) x.stop) k.openings (onward-places x.stop k rows) in
      let there = All-contains (λ (c : Change). (x.time + c.seconds < never) → HasOpened ls c.stop (x.time + c.seconds)) (reached (changes_of nw) x.stop) (record { stop = b; seconds = change.0 }) each (change-listed (changes_of nw) x.stop b change.0 stop change.1) (omega arith) in
      let le = there.2 in
      (there.0, there.1, omega arith)

  noted-opens : (xs : List Reach) (k : Known) → HasRows k → All (Opens (noted (changes_of nw) xs k).openings) xs
  noted-opens [] k rows = All-nil (Opens k.openings)
  noted-opens (x ∷ xs) k rows =
      let next = noted_one (changes_of nw) x k in
      All-cons (Opens (noted (changes_of nw) xs next).openings) x xs
      (λ b t stop small change. noted-kept xs next (rows-one x k rows) b t (one-opens x k rows b t stop small change))
      (noted-opens xs next (rows-one x k rows))

  -- and what is new is such a stop
  pub record IsChangedTo (xs : List Reach) (b t : ℕ) : Type 0 where
    pub one : Reach
    pub there : Contains xs one
    pub stop : is_stop nw.stops b ≡ true
    pub change : IsInTime nw one.stop one.time b t

  noted-from : (xs : List Reach) (k : Known) → HasRows k → (b t : ℕ) → time_at (noted (changes_of nw) xs k).openings.times b ≡ Some t → (time_at k.openings.times b ≡ Some t) ⊎ IsChangedTo xs b t
  noted-from [] k rows b t at = inl at
  noted-from (x ∷ xs) k rows b t at =
      let next = noted_one (changes_of nw) x k in
      let Q : ℕ → ℕ → Type 0 = λ b t. (is_stop nw.stops b ≡ true) × IsInTime nw x.stop x.time b t in
      let each : All (λ (c : Change). Q c.stop (x.time + c.seconds)) (reached (changes_of nw) x.stop) = λ i c l. let is = reached-each (changes_of nw) x.stop i c l in (is.stop, ((get_or (reached (changes_of nw) x.stop) i c).seconds, is.change, omega arith)) in
      elim (noted-from xs next (rows-one x k rows) b t at) [
        | inr later ↦ inr (record { one = later.one; there = Contains-there x xs later.one later.there; stop = later.stop; change = later.change })
        | inl here ↦ elim (lowered-from x.time None Q (reached (changes_of nw) x.stop) k.openings (onward-places x.stop k rows) each b t here) [
          | inl old ↦ inl old.0
          | inr new ↦ inr (record { one = x; there = (0, omega arith, refl); stop = new.1.0; change = new.1.1 })
        ]
      ]

  module _ (q : Query) (list : List Reach) (rise : AllPairs Rises list) (stops : All (λ (x : Reach). x.stop < length nw.stops) list) (k : Known) (rows : HasRows k) (empty : (b : ℕ) → time_at k.held b ≡ None) (places : (b t : ℕ) → time_at k.openings.times b ≡ Some t → b < length nw.stops) (opened : (b t : ℕ) → is_stop nw.stops b ≡ true → t < never → (HasOpened k.openings b t → IsFromOrigin nw q b t) × (IsFromOrigin nw q b t → HasOpened k.openings b t)) where
    abbrev new : Known
    new = noted (changes_of nw) list k

    or-none : (o p : Option ℕ) → p ≡ None → option_or o p ≡ o
    or-none None p none = none
    or-none (Some s) p none = refl

    later : (a s b t u : ℕ) → t ≤ u → IsInTime nw a s b t → IsInTime nw a s b u
    later a s b t u le change = let until = change.2 in (change.0, change.1, omega arith)

    opens-only : (b t : ℕ) → is_stop nw.stops b ≡ true → t < never → HasOpened new.openings b t → MayBoard nw q (time_in list) b t
    opens-only b t stop small (s, at, le) = elim (noted-from list k rows b s at) [
      | inl old ↦ inl ((opened b t stop small).0 (s, old, le))
      | inr by ↦ inr (by.one.stop, by.one.time, All-contains (λ (x : Reach). time_in list x.stop ≡ Some x.time) list by.one (all-found list rise) by.there, later by.one.stop by.one.time b s t le by.change)
    ]

    opens-all : (b t : ℕ) → is_stop nw.stops b ≡ true → t < never → MayBoard nw q (time_in list) b t → HasOpened new.openings b t
    opens-all b t stop small (inl first) = noted-kept list k rows b t ((opened b t stop small).1 first)
    opens-all b t stop small (inr (a, s, at, change)) =
        let x = listed list a s at in
        All-contains (Opens new.openings) list x.0 (noted-opens list k rows) x.1 b t stop small
        (subst (λ a. IsInTime nw a x.0.time b t) (sym x.2) (subst (λ s. IsInTime nw a s b t) (sym x.3) change))

    pub are-noted : AreNoted nw q (time_in list) new.openings.times new.held
    are-noted = record {
      opened = λ b t stop small. (opens-only b t stop small, opens-all b t stop small);
      places = λ b t at. elim (noted-from list k rows b t at) [
        | inl old ↦ places b t old
        | inr by ↦ stop-within nw.stops b by.stop
      ];
      there_is = λ b. noted-held list k rows rise stops b ∙ or-none (time_in list b) (time_at k.held b) (empty b);
    }
