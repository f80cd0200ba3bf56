-- The departures from a time on, as a scan comes to them.
use Rattle.std.proofs.Common.{◌≡◌, ℕ, zero, suc, ◌≤◌, ◌<◌, length, Bool, true, nat_le, List, [], ◌∷◌, ◌++◌, Option, Some, None, slice_get, map, filter, drop, refl, sym, ◌∙◌, ap, subst, inl, inr, arith, rules}
use Rattle.std.proofs.Math.Logic.{◌≢◌}
use Rattle.std.specs.List.{All, AllPairs, Contains}
use Rattle.std.specs.Option.{option_map, option_map_or}
use Rattle.std.proofs.lemmas.Bool.{and_from, and_parts, cases_Bool, eq-eqb, eqb-true, leb-true}
use Rattle.std.proofs.lemmas.List.{get_or-map, length-map}
use Rattle.std.proofs.lemmas.List.Elements.{All-append, All-cons, All-contains, All-contains_itself, All-filter, All-nil, Contains-append_cases, Contains-append_left, Contains-append_right, filter_passes}
use Rattle.std.proofs.lemmas.List.Kept.{AllPairs-filter}
use Rattle.std.proofs.lemmas.Option.{none-some, same_Some, slice_get_within}
use Rattle.mt_base.specs.Order.{node_of}
use Rattle.delay_model.specs.declared.network.Network.{Network}
use Rattle.delay_model.specs.declared.state.State.{State}
use Rattle.delay_model.proofs.Lists.{AllPairs-after, AllPairs-tail, Contains-cases, Contains-filter, Contains-there}
use Rattle.dep_order.specs.declared.departure.Departure.{Departure}
use Rattle.dep_order.specs.declared.departure.Leaving.{Leaving}
use Rattle.dep_order.specs.declared.departure.Onward.{Onward}
use Rattle.dep_order.specs.Departing.{held, leaves_before}
use Rattle.dep_order.specs.Ordered.{Ordered, is_of_call, leaving_of, number_of, number_or_past, onward_at}
use Rattle.conn_scan.specs.Stretches.{departure_at, leaving_from, ride_of}
use Rattle.conn_scan.proofs.Stretches.{departure-is}
use Rattle.conn_scan.proofs.NextDeparture.{never-both, leaves-not-later, AreNumbered, IsAtItsCall, departs-both, is-later, next-later}

-- the number of a call
suc-of : (o : Option ℕ) (i : ℕ) → option_map (λ n. suc n) o ≡ Some i → (j : ℕ) × (o ≡ Some j) × (i ≡ suc j)
suc-of None i h = absurd (cc)
suc-of (Some j) i h = (j, refl, sym (same_Some (suc j) i h))

number-at : (es : List (Option Departure)) (train label i : ℕ) → number_of es train label ≡ Some i → (d : Departure) × (held es i ≡ Some d) × (is_of_call train label d ≡ true)
number-at [] train label i h = absurd (cc)
number-at (None ∷ es) train label i h =
    let s = suc-of (number_of es train label) i h in
    let r = number-at es train label s.0 s.1 in
    (r.0, ap (held (None ∷ es)) s.2 ∙ r.1, r.2)
number-at (Some d ∷ es) train label i h = elim (cases_Bool (is_of_call train label d)) [
  | inl here ↦ (d, ap (held (Some d ∷ es)) (sym (same_Some 0 i (rw here at h))), here)
  | inr apart ↦
      let s = suc-of (number_of es train label) i (rw apart at h) in
      let r = number-at es train label s.0 s.1 in
      (r.0, ap (held (Some d ∷ es)) s.2 ∙ r.1, r.2)
]

number-there : (es : List (Option Departure)) (train label n : ℕ) (d : Departure) → held es n ≡ Some d → is_of_call train label d ≡ true → (i : ℕ) × (number_of es train label ≡ Some i)
number-there [] train label n d h k = absurd (none-some d h)
number-there (None ∷ es) train label zero d h k = absurd (none-some d h)
number-there (None ∷ es) train label (suc n) d h k = let r = number-there es train label n d h k in (suc r.0, ap (option_map (λ n. suc n)) r.1)
number-there (Some e ∷ es) train label zero d h k = (0, rw (ap (is_of_call train label) (same_Some e d h) ∙ k) refl)
number-there (Some e ∷ es) train label (suc n) d h k = elim (cases_Bool (is_of_call train label e)) [
  | inl here ↦ (0, rw here refl)
  | inr apart ↦ let r = number-there es train label n d h k in (suc r.0, rw apart (ap (option_map (λ n. suc n)) r.1))
]

own-call : (d : Departure) → is_of_call d.key.train d.key.label d ≡ true
own-call d = and_from _ _ (eq-eqb d.key.train d.key.train refl) (eq-eqb d.key.label d.key.label refl)

each-mapped : {X Y : Type 0} (P : Y → Type 0) (f : X → Y) (xs : List X) → ((x : X) → Contains xs x → P (f x)) → All P (map f xs)
each-mapped P f [] h = All-nil P
each-mapped P f (x ∷ xs) h = All-cons P (f x) (map f xs) (h x (0, omega arith, refl)) (each-mapped P f xs (λ y there. h y (Contains-there x xs y there)))

mapped-there : {X Y : Type 0} (f : X → Y) (xs : List X) (x : X) → Contains xs x → Contains (map f xs) (f x)
mapped-there f xs x h = let n = length-map xs f in let l = h.1 in (h.0, omega arith, get_or-map f xs h.0 x (f x) l ∙ ap f h.2)

-- a list that is mapped, cut at an element
pub record IsCutBefore {X Y : Type 0} (f : X → Y) (xs : List X) (done : List Y) (y : Y) (rest : List Y) : Type 0 where
  pub front : List X
  pub one : X
  pub end : List X
  pub whole : xs ≡ front ++ one ∷ end
  pub front_is : done ≡ map f front
  pub one_is : y ≡ f one
  pub end_is : rest ≡ map f end

cut-before : {X Y : Type 0} (f : X → Y) (xs : List X) (done : List Y) (y : Y) (rest : List Y) → map f xs ≡ done ++ y ∷ rest → IsCutBefore f xs done y rest
cut-before f [] [] y rest h = absurd (cc)
cut-before f [] (z ∷ done) y rest h = absurd (cc)
cut-before f (x ∷ xs) [] y rest h =
    record { front = []; one = x; end = xs; whole = refl; front_is = refl; one_is = same_Some y (f x) (sym (ap (λ zs. slice_get zs 0) h)); end_is = sym (ap (drop 1) h) }
cut-before f (x ∷ xs) (z ∷ done) y rest h =
    let r = cut-before f xs done y rest (ap (drop 1) h) in
    let first : z ≡ f x = same_Some z (f x) (sym (ap (λ zs. slice_get zs 0) h)) in
    record { front = x ∷ r.front; one = r.one; end = r.end; whole = ap (λ zs. x ∷ zs) r.whole; front_is = (λ i. first i ∷ r.front_is i); one_is = r.one_is; end_is = r.end_is }

-- one of the departures from a time on
pub record IsLeaving (o : Ordered) (time : ℕ) (x : Leaving) : Type 0 where
  pub departure : Departure
  pub there : held o.entries x.number ≡ Some departure
  pub at : departure_at o x.number ≡ departure
  pub its_time : x.time ≡ departure.time
  pub stop : x.stop ≡ departure.stop
  pub onward : onward_at o x.number ≡ record { arrival = x.arrival; to = x.to; next = x.next }
  pub within : x.number < length o.entries
  pub next_within : x.next ≤ length o.entries
  pub since : time ≤ x.time
  pub arrives : x.time ≤ x.arrival

-- a scan comes to one of them
pub record IsLeavingAt (o : Ordered) (time : ℕ) (done : List Leaving) (x : Leaving) (rest : List Leaving) : Type 0 where
  pub leaving : IsLeaving o time x
  pub before : All (λ (y : Leaving). y.time ≤ x.time) done
  pub after : All (λ (y : Leaving). x.time ≤ y.time) rest
  pub apart_before : All (λ (y : Leaving). y.number ≢ x.number) done
  pub apart_after : All (λ (y : Leaving). y.number ≢ x.number) rest
  pub next_ahead : All (λ (y : Leaving). y.number ≢ x.next) (done ++ x ∷ [])
  pub next_listed : (f : Departure) → held o.entries x.next ≡ Some f → (y : Leaving) × Contains rest y × (y.number ≡ x.next) × (x.arrival ≤ y.time)
  pub previous : (m : ℕ) (f : Departure) → held o.entries m ≡ Some f → time ≤ f.time → (onward_at o m).next ≡ x.number → (y : Leaving) × Contains done y × (y.number ≡ m)

entry-of : (e : Option (Option Departure)) (d : Departure) → option_map_or (λ entry. entry) e None ≡ Some d → e ≡ Some (Some d)
entry-of None d h = absurd (none-some d h)
entry-of (Some e) d h = ap Some h

-- a number of a departure is below the count of numbers
pub held-within : (es : List (Option Departure)) (n : ℕ) (d : Departure) → held es n ≡ Some d → n < length es
held-within es n d h = slice_get_within es n (Some d) (entry-of (slice_get es n) d h)

pub ride-ends : (st : State) (o : Ordered) (time : ℕ) (x : Leaving) → IsLeaving o time x → (b : ℕ) → ((ride_of st o b x.number).alight_stop ≡ x.to) × ((ride_of st o b x.number).alight_time ≡ x.arrival)
ride-ends st o time x h b = (ap (λ (w : Onward). w.to) h.onward, ap (λ (w : Onward). w.arrival) h.onward)

same-name : (nw : Network) (st : State) (d e : Departure) → IsAtItsCall nw st d → IsAtItsCall nw st e → d.key.train ≡ e.key.train → d.key.label ≡ e.key.label → node_of d.key ≡ node_of e.key
same-name nw st d e h k train label = λ i. record { train = train i; label = label i; dep = departs-both d e h k i }

before-each : {X : Type 0} (R : X → X → Type 0) (xs : List X) (x : X) (ys : List X) → AllPairs R (xs ++ x ∷ ys) → (w : X) → Contains xs w → R w x
before-each R [] x ys h w there = let l = there.1 in absurd (omega arith)
before-each R (v ∷ xs) x ys h w there = elim (Contains-cases v xs w there) [
  | inl same ↦ subst (λ u. R u x) same (All-contains (R v) (xs ++ x ∷ ys) x (AllPairs-after R [] v (xs ++ x ∷ ys) h) (Contains-append_right xs (x ∷ ys) x (0, omega arith, refl)))
  | inr rest ↦ before-each R xs x ys (AllPairs-tail R v (xs ++ x ∷ ys) h) w rest
]

module _ (nw : Network) (st : State) (o : Ordered) (are : AreNumbered nw st o) where
  -- the number by which a departure is found is its own
  pub number-is : (n : ℕ) (d : Departure) → held o.entries n ≡ Some d → number_or_past o.entries d.key.train d.key.label ≡ n
  number-is n d there =
      let r = number-there o.entries d.key.train d.key.label n d there (own-call d) in
      let s = number-at o.entries d.key.train d.key.label r.0 r.1 in
      let e = s.0 in
      let both = and_parts _ _ s.2 in
      let train : e.key.train ≡ d.key.train = eqb-true _ _ both.0 in
      let label : e.key.label ≡ d.key.label = eqb-true _ _ both.1 in
      rw r.1 (are.one r.0 n e d s.1 there (same-name nw st e d (are.each r.0 e s.1) (are.each n d there) train label))

  module _ (time : ℕ) where
    abbrev passes : Departure → Bool
    passes d = nat_le time d.time

    abbrev left : List Departure
    left = filter passes o.departures

    left-order : AllPairs (λ d e. leaves_before d e ≡ true) left
    left-order = AllPairs-filter (λ d e. leaves_before d e ≡ true) passes o.departures are.order

    left-each : (d : Departure) → Contains left d → Contains o.departures d × (time ≤ d.time)
    left-each d h =
        (All-contains (Contains o.departures) left d (All-filter passes (Contains o.departures) o.departures (All-contains_itself o.departures)) h, leb-true time d.time (All-contains (λ d. passes d ≡ true) left d (filter_passes passes o.departures) h))

    left-there : (n : ℕ) (d : Departure) → held o.entries n ≡ Some d → time ≤ d.time → Contains left d
    left-there n d there since = Contains-filter passes o.departures d (are.listed n d there) (search rules)

    own-number : (d : Departure) → Contains left d → held o.entries (leaving_of o d).number ≡ Some d
    own-number d h = let r = are.numbered d (left-each d h).0 in ap (held o.entries) (number-is r.0 d r.1) ∙ r.1

    leaving-is : (d : Departure) → Contains left d → IsLeaving o time (leaving_of o d)
    leaving-is d h =
        let there = own-number d h in
        let later = is-later nw st o are (leaving_of o d).number d there in
        record { departure = d; there = there; at = departure-is o (leaving_of o d).number d there; its_time = refl; stop = refl; onward = refl; within = held-within o.entries (leaving_of o d).number d there; next_within = (are.onward (leaving_of o d).number d there).within; since = (left-each d h).1; arrives = later.arrives }

    -- each is a departure with its number
    pub leaving-each : All (IsLeaving o time) (leaving_from o time)
    leaving-each = each-mapped (IsLeaving o time) (leaving_of o) left leaving-is

    -- each departure from the time on is one
    pub leaving-all : (n : ℕ) (d : Departure) → held o.entries n ≡ Some d → time ≤ d.time → (x : Leaving) × Contains (leaving_from o time) x × (x.number ≡ n) × (x.time ≡ d.time)
    leaving-all n d there since = (leaving_of o d, mapped-there (leaving_of o) left d (left-there n d there since), number-is n d there, refl)

    module _ (front : List Departure) (d : Departure) (end : List Departure) (whole : left ≡ front ++ d ∷ end) where
      in-front : (e : Departure) → Contains front e → Contains left e
      in-front e h = subst (λ ds. Contains ds e) (sym whole) (Contains-append_left front (d ∷ end) e h)

      in-end : (e : Departure) → Contains end e → Contains left e
      in-end e h = subst (λ ds. Contains ds e) (sym whole) (Contains-append_right front (d ∷ end) e (Contains-there d end e h))

      itself : Contains left d
      itself = subst (λ ds. Contains ds d) (sym whole) (Contains-append_right front (d ∷ end) d (0, omega arith, refl))

      order : AllPairs (λ d e. leaves_before d e ≡ true) (front ++ d ∷ end)
      order = subst (AllPairs (λ d e. leaves_before d e ≡ true)) whole left-order

      front-before : (e : Departure) → Contains front e → leaves_before e d ≡ true
      front-before e h = before-each (λ d e. leaves_before d e ≡ true) front d end order e h

      end-after : (e : Departure) → Contains end e → leaves_before d e ≡ true
      end-after e h = All-contains (λ e. leaves_before d e ≡ true) end e (AllPairs-after (λ d e. leaves_before d e ≡ true) front d end order) h

      -- a departure of the list that leaves later is behind, and one that leaves before is done
      later-behind : (e : Departure) → Contains left e → leaves_before d e ≡ true → Contains end e
      later-behind e h later = elim (Contains-append_cases front (d ∷ end) e (subst (λ ds. Contains ds e) whole h)) [
        | inl done ↦ absurd (never-both d e later (front-before e done))
        | inr there ↦ elim (Contains-cases d end e there) [
          | inl same ↦ absurd (never-both d d (subst (λ x. leaves_before d x ≡ true) (sym same) later) (subst (λ x. leaves_before d x ≡ true) (sym same) later))
          | inr behind ↦ behind
        ]
      ]

      sooner-done : (e : Departure) → Contains left e → leaves_before e d ≡ true → Contains front e
      sooner-done e h sooner = elim (Contains-append_cases front (d ∷ end) e (subst (λ ds. Contains ds e) whole h)) [
        | inl done ↦ done
        | inr there ↦ elim (Contains-cases d end e there) [
          | inl same ↦ absurd (never-both d d (subst (λ x. leaves_before x d ≡ true) (sym same) sooner) (subst (λ x. leaves_before x d ≡ true) (sym same) sooner))
          | inr behind ↦ absurd (never-both e d sooner (end-after e behind))
        ]
      ]

      -- two of the list that have one number are one
      one-number : (e f : Departure) → Contains left e → Contains left f → (leaving_of o e).number ≡ (leaving_of o f).number → e ≡ f
      one-number e f h k same = same_Some e f (sym (own-number e h) ∙ ap (held o.entries) same ∙ own-number f k)

      not-self : (e : Departure) → leaves_before e e ≡ true → ⊥
      not-self e h = never-both e e h h

      next-of : (e : Departure) → Contains left e → (leaving_of o e).number ≡ (leaving_of o d).next → leaves_before d e ≡ true
      next-of e h same = next-later nw st o are (leaving_of o d).number d e (own-number d itself) (ap (held o.entries) (sym same) ∙ own-number e h)

      at-cut : IsLeavingAt o time (map (leaving_of o) front) (leaving_of o d) (map (leaving_of o) end)
      at-cut =
          let x = leaving_of o d in
          record {
            leaving = leaving-is d itself;
            before = each-mapped (λ (y : Leaving). y.time ≤ x.time) (leaving_of o) front (λ e h. leaves-not-later e d (front-before e h));
            after = each-mapped (λ (y : Leaving). x.time ≤ y.time) (leaving_of o) end (λ e h. leaves-not-later d e (end-after e h));
            apart_before = each-mapped (λ (y : Leaving). y.number ≢ x.number) (leaving_of o) front (λ e h same. not-self d (subst (λ f. leaves_before f d ≡ true) (one-number e d (in-front e h) itself same) (front-before e h)));
            apart_after = each-mapped (λ (y : Leaving). y.number ≢ x.number) (leaving_of o) end (λ e h same. not-self d (subst (λ f. leaves_before d f ≡ true) (one-number e d (in-end e h) itself same) (end-after e h)));
            next_ahead =
                All-append (λ (y : Leaving). y.number ≢ x.next) (map (leaving_of o) front) (x ∷ [])
                (each-mapped (λ (y : Leaving). y.number ≢ x.next) (leaving_of o) front (λ e h same. never-both d e (next-of e (in-front e h) same) (front-before e h)))
                (All-cons (λ (y : Leaving). y.number ≢ x.next) x [] (λ same. not-self d (next-of d itself same)) (All-nil (λ (y : Leaving). y.number ≢ x.next)));
            next_listed = λ f there.
                let later = is-later nw st o are x.number d (own-number d itself) in
                let on = later.departs f there in
                let since = (left-each d itself).1 in
                let arrives = later.arrives in
                let comes = on.0 in
                let h = left-there x.next f there (omega arith) in (
                  leaving_of o f,
                  mapped-there (leaving_of o) end f (later-behind f h (next-later nw st o are x.number d f (own-number d itself) there)),
                  number-is x.next f there,
                  comes,
                );
            previous = λ m f there since next. (
              leaving_of o f,
              mapped-there (leaving_of o) front f (sooner-done f (left-there m f there since) (next-later nw st o are m f d there (ap (held o.entries) next ∙ own-number d itself))),
              number-is m f there,
            );
          }

    -- what is known where a scan comes to one of them
    pub leaving-at : (done : List Leaving) (x : Leaving) (rest : List Leaving) → leaving_from o time ≡ done ++ x ∷ rest → IsLeavingAt o time done x rest
    leaving-at done x rest split =
        let c = cut-before (leaving_of o) left done x rest split in
        subst (λ ys. IsLeavingAt o time ys x rest) (sym c.front_is) (subst (λ y. IsLeavingAt o time (map (leaving_of o) c.front) y rest) (sym c.one_is) (subst (λ ys. IsLeavingAt o time (map (leaving_of o) c.front) (leaving_of o c.one) ys) (sym c.end_is) (at-cut c.front c.one c.end c.whole)))
