-- The rides of the timetable's two trains, and how passengers go on from them.
use Rattle.model_examples.proofs.Words.{◌≡◌, ℕ, ◌+◌, ◌≤◌, ◌<◌, length, List, [], ◌∷◌, ◌++◌, Bool, true, false, Option, Some, None, All, refl, sym, ◌∙◌, ap, subst, arith, Network, Call, Train, State, change, event_time, network, opts, stop_a, platform_b1, platform_b2, stop_c, stop_d, at_eight}
use Rattle.std.proofs.Common.{◌⊎◌, inl, inr, zero, suc, slice_get, MatchBool}
use Rattle.mt_base.specs.declared.journeys.PlanRide.{PlanRide}
use Rattle.delay_model.specs.Events.{arrival_of, departure_of}
use Rattle.delay_model.specs.Journeys.{IsRide, StopsAndGoesOn, IsInTime, GoesOn, IsJourney, MayBegin, is_one_station}
use Rattle.mt_base.specs.declared.journeys.Query.{Query}

no_split : {A : Type 0} (xs : List A) (x : A) (ys : List A) → [] ≡ xs ++ x ∷ ys → ⊥
no_split [] x ys e = cc
no_split (u ∷ us) x ys e = cc

one_of_one : {A : Type 0} (z : A) (xs : List A) (x : A) (ys : List A) → z ∷ [] ≡ xs ++ x ∷ ys → x ≡ z
one_of_one z [] x ys e = cc
one_of_one z (u ∷ us) x ys e = let t : [] ≡ us ++ x ∷ ys = cc in absurd (no_split us x ys t)

one_of_two : {A : Type 0} (y z : A) (xs : List A) (x : A) (ys : List A) → y ∷ z ∷ [] ≡ xs ++ x ∷ ys → (x ≡ y) ⊎ (x ≡ z)
one_of_two y z [] x ys e = inl (cc)
one_of_two y z (u ∷ us) x ys e = let t : z ∷ [] ≡ us ++ x ∷ ys = cc in inr (one_of_one z us x ys t)

no_pair : {A : Type 0} (v : A) (xs : List A) (b : A) (ps : List A) (a : A) (ys : List A) → v ∷ [] ≡ xs ++ b ∷ (ps ++ a ∷ ys) → ⊥
no_pair v [] b ps a ys e = let t : [] ≡ ps ++ a ∷ ys = cc in no_split ps a ys t
no_pair v (u ∷ us) b ps a ys e = let t : [] ≡ us ++ b ∷ (ps ++ a ∷ ys) = cc in no_split us b _ t

pair_of_two : {A : Type 0} (u v : A) (xs : List A) (b : A) (ps : List A) (a : A) (ys : List A) → u ∷ v ∷ [] ≡ xs ++ b ∷ (ps ++ a ∷ ys) → (b ≡ u) × (a ≡ v)
pair_of_two u v [] b ps a ys e = let t : v ∷ [] ≡ ps ++ a ∷ ys = cc in (cc, one_of_one v ps a ys t)
pair_of_two u v (w ∷ ws) b ps a ys e = let t : v ∷ [] ≡ ws ++ b ∷ (ps ++ a ∷ ys) = cc in absurd (no_pair v ws b ps a ys t)

abbrev Pairs : {A : Type 0} → A → A → A → A → A → Type 0
Pairs x y z b a = ((b ≡ x) × (a ≡ y)) ⊎ (((b ≡ x) × (a ≡ z)) ⊎ ((b ≡ y) × (a ≡ z)))

pair_of_three : {A : Type 0} (x y z : A) (xs : List A) (b : A) (ps : List A) (a : A) (ys : List A) → x ∷ y ∷ z ∷ [] ≡ xs ++ b ∷ (ps ++ a ∷ ys) → Pairs x y z b a
pair_of_three x y z [] b ps a ys e =
    let h : b ≡ x = cc in
    let t : y ∷ z ∷ [] ≡ ps ++ a ∷ ys = cc in
    elim (one_of_two y z ps a ys t) [ inl p ↦ inl (h, p) | inr p ↦ inr (inl (h, p)) ]
pair_of_three x y z (w ∷ ws) b ps a ys e =
    let t : y ∷ z ∷ [] ≡ ws ++ b ∷ (ps ++ a ∷ ys) = cc in
    inr (inr (pair_of_two y z ws b ps a ys t))

which_train : (t1 t2 t : Train) (n : ℕ) → slice_get (t1 ∷ t2 ∷ []) n ≡ Some t → ((n ≡ 0) × (t ≡ t1)) ⊎ ((n ≡ 1) × (t ≡ t2))
which_train t1 t2 t zero e = let f : Some t1 ≡ Some t = e in inl (refl, cc)
which_train t1 t2 t (suc zero) e = let f : Some t2 ≡ Some t = e in inr (refl, cc)
which_train t1 t2 t (suc (suc n)) e = let f : None ≡ Some t = e in absurd (cc)

-- the ride goes on train n, which is t, from the call b to the call a
pub record Goes (nw : Network) (st : State) (r : PlanRide) (n : ℕ) (t : Train) (b a : Call) : Type 0 where
  pub from : r.board_stop ≡ b.stop
  pub leaves : r.board_time ≡ event_time nw st (departure_of n t.route b).key
  pub to : r.alight_stop ≡ a.stop
  pub comes : r.alight_time ≡ event_time nw st (arrival_of n t.route a).key

goes-by : (nw : Network) (st : State) (r : PlanRide) (i : IsRide nw st r) (n : ℕ) (t : Train) (b a : Call) → r.train ≡ n → i.by_train ≡ t → i.boarded ≡ b → i.alighted ≡ a → Goes nw st r n t b a
goes-by nw st r i n t b a en et eb ea =
    record {
      from = i.board_stop ∙ ap (λ (c : Call). c.stop) eb;
      leaves = i.board_time ∙ (λ k. event_time nw st (departure_of (en k) (et k).route (eb k)).key);
      to = i.alight_stop ∙ ap (λ (c : Call). c.stop) ea;
      comes = i.alight_time ∙ (λ k. event_time nw st (arrival_of (en k) (et k).route (ea k)).key);
    }

abbrev pub OneOfFour : Network → State → PlanRide → Train → Train → Call → Call → Call → Call → Call → Type 0
OneOfFour nw st r t1 t2 x y z u v =
    Goes nw st r 0 t1 x y ⊎ (Goes nw st r 0 t1 x z ⊎ (Goes nw st r 0 t1 y z ⊎ Goes nw st r 1 t2 u v))

-- where there are two trains, of three calls and of two
pub rides : (nw : Network) (st : State) (t1 t2 : Train) (x y z u v : Call) → st.trains ≡ t1 ∷ t2 ∷ [] → t1.calls ≡ x ∷ y ∷ z ∷ [] → t2.calls ≡ u ∷ v ∷ [] → (r : PlanRide) → IsRide nw st r → OneOfFour nw st r t1 t2 x y z u v
rides nw st t1 t2 x y z u v e e1 e2 r i =
    elim (which_train t1 t2 i.by_train r.train (ap (λ ts. slice_get ts r.train) (sym e) ∙ i.is_train)) [
      | inl p ↦
          elim (pair_of_three x y z _ _ _ _ _ (sym e1 ∙ (ap (λ (t : Train). t.calls) (sym p.1) ∙ i.are_calls))) [
            | inl q ↦ inl (goes-by nw st r i 0 t1 x y p.0 p.1 q.0 q.1)
            | inr w ↦ elim w [
              | inl q ↦ inr (inl (goes-by nw st r i 0 t1 x z p.0 p.1 q.0 q.1))
              | inr q ↦ inr (inr (inl (goes-by nw st r i 0 t1 y z p.0 p.1 q.0 q.1)))
            ]
          ]
      | inr p ↦
          let q = pair_of_two u v _ _ _ _ _ (sym e2 ∙ (ap (λ (t : Train). t.calls) (sym p.1) ∙ i.are_calls)) in
          inr (inr (inr (goes-by nw st r i 1 t2 u v p.0 p.1 q.0 q.1)))
    ]

-- the ride leaves a stop at a time, and comes to another
pub record Sees (r : PlanRide) (from leaves to comes : ℕ) : Type 0 where
  pub from_stop : r.board_stop ≡ from
  pub leaves_at : r.board_time ≡ leaves
  pub to_stop : r.alight_stop ≡ to
  pub comes_at : r.alight_time ≡ comes

-- it is one of the four rides of the timetable, whose trains leave A, come to B, leave B and come to C, and leave B and come to D at these times
abbrev pub OneOf : PlanRide → ℕ → ℕ → ℕ → ℕ → ℕ → ℕ → Type 0
OneOf r da ab db ac d2 a2 =
    Sees r stop_a da platform_b1 ab ⊎ (Sees r stop_a da stop_c ac ⊎ (Sees r platform_b1 db stop_c ac ⊎ Sees r platform_b2 d2 stop_d a2))

sees : {nw : Network} {st : State} {r : PlanRide} {n : ℕ} {t : Train} {b a : Call} (from leaves to comes : ℕ) → Goes nw st r n t b a → b.stop ≡ from → event_time nw st (departure_of n t.route b).key ≡ leaves → a.stop ≡ to → event_time nw st (arrival_of n t.route a).key ≡ comes → Sees r from leaves to comes
sees from leaves to comes g f l t c = record { from_stop = g.from ∙ f; leaves_at = g.leaves ∙ l; to_stop = g.to ∙ t; comes_at = g.comes ∙ c }

-- no other ride is there
pub record Sight (st : State) (da ab db ac d2 a2 : ℕ) : Type 0 where
  pub see : (r : PlanRide) → IsRide (network opts) st r → OneOf r da ab db ac d2 a2

pub sight : (st : State) (da ab db ac d2 a2 : ℕ) (t1 t2 : Train) (x y z u v : Call) → st.trains ≡ t1 ∷ t2 ∷ [] → t1.calls ≡ x ∷ y ∷ z ∷ [] → t2.calls ≡ u ∷ v ∷ [] → x.stop ≡ stop_a → y.stop ≡ platform_b1 → z.stop ≡ stop_c → u.stop ≡ platform_b2 → v.stop ≡ stop_d → event_time (network opts) st (departure_of 0 t1.route x).key ≡ da → event_time (network opts) st (arrival_of 0 t1.route y).key ≡ ab → event_time (network opts) st (departure_of 0 t1.route y).key ≡ db → event_time (network opts) st (arrival_of 0 t1.route z).key ≡ ac → event_time (network opts) st (departure_of 1 t2.route u).key ≡ d2 → event_time (network opts) st (arrival_of 1 t2.route v).key ≡ a2 → Sight st da ab db ac d2 a2
sight st da ab db ac d2 a2 t1 t2 x y z u v e e1 e2 sx sy sz su sv hda hab hdb hac hd2 ha2 =
    record {
      see = λ r i.
          elim (rides (network opts) st t1 t2 x y z u v e e1 e2 r i) [
            | inl g ↦ inl (sees _ _ _ _ g sx hda sy hab)
            | inr w ↦ elim w [
              | inl g ↦ inr (inl (sees _ _ _ _ g sx hda sz hac))
              | inr w2 ↦ elim w2 [
                | inl g ↦ inr (inr (inl (sees _ _ _ _ g sy hdb sz hac)))
                | inr g ↦ inr (inr (inr (sees _ _ _ _ g su hd2 sv ha2)))
              ]
            ]
          ];
    }

abbrev to_change : ℕ → ℕ → Option ℕ
to_change a b = change (network opts).stops (network opts).transfers (network opts).opts.change a b

no_time : (a b t s : ℕ) → to_change a b ≡ None → IsInTime (network opts) a t b s → ⊥
no_time a b t s e i = let f : None ≡ Some i.0 = sym e ∙ i.1 in cc

some_time : (a b t s w : ℕ) → to_change a b ≡ Some w → IsInTime (network opts) a t b s → t + w ≤ s
some_time a b t s w e i = let f : Some w ≡ Some i.0 = sym e ∙ i.1 in let g : w ≡ i.0 = cc in let k : t + i.0 ≤ s = i.2 in omega arith

in_time-at : (a t : ℕ) {x y b s : ℕ} → x ≡ b → y ≡ s → IsInTime (network opts) a t x y → IsInTime (network opts) a t b s
in_time-at a t {x = x} {s = s} e f i = subst (λ k. IsInTime (network opts) a t k s) e (subst (λ k. IsInTime (network opts) a t x k) f i)

goes_on-at : (st : State) {x y b s : ℕ} → x ≡ b → y ≡ s → (rs : List PlanRide) (to at : ℕ) → GoesOn (network opts) st x y rs to at → GoesOn (network opts) st b s rs to at
goes_on-at st {x = x} {s = s} e f rs to at g = subst (λ k. GoesOn (network opts) st k s rs to at) e (subst (λ k. GoesOn (network opts) st x k rs to at) f g)

-- no ride goes on from a place from which no change is possible to A or to B
no_ride : (a t : ℕ) (r : PlanRide) {da ab db ac d2 a2 : ℕ} → to_change a stop_a ≡ None → to_change a platform_b1 ≡ None → to_change a platform_b2 ≡ None → OneOf r da ab db ac d2 a2 → IsInTime (network opts) a t r.board_stop r.board_time → ⊥
no_ride a t r ea e1 e2 o i =
    elim o [
      | inl s ↦ no_time _ _ _ _ ea (in_time-at a t s.from_stop s.leaves_at i)
      | inr w ↦ elim w [
        | inl s ↦ no_time _ _ _ _ ea (in_time-at a t s.from_stop s.leaves_at i)
        | inr w2 ↦ elim w2 [
          | inl s ↦ no_time _ _ _ _ e1 (in_time-at a t s.from_stop s.leaves_at i)
          | inr s ↦ no_time _ _ _ _ e2 (in_time-at a t s.from_stop s.leaves_at i)
        ]
      ]
    ]

not_from_c : {st : State} {da ab db ac d2 a2 : ℕ} → Sight st da ab db ac d2 a2 → (t : ℕ) (rs : List PlanRide) (at : ℕ) → GoesOn (network opts) st stop_c t rs stop_d at → ⊥
unfolding change
not_from_c h t [] at g = let f : false ≡ true = g.0 in cc
not_from_c h t (r ∷ rs) at g = no_ride stop_c t r refl refl refl (h.see r g.0) g.1

from_d : {st : State} {da ab db ac d2 a2 : ℕ} → Sight st da ab db ac d2 a2 → (t : ℕ) (rs : List PlanRide) (at : ℕ) → GoesOn (network opts) st stop_d t rs stop_d at → t ≤ at
unfolding change
from_d h t [] at g = let f : t ≡ at = g.1 in omega arith
from_d h t (r ∷ rs) at g = absurd (no_ride stop_d t r refl refl refl (h.see r g.0) g.1)

from_b1 : {st : State} {da ab db ac d2 a2 : ℕ} → Sight st da ab db ac d2 a2 → (t : ℕ) (rs : List PlanRide) (at : ℕ) → GoesOn (network opts) st platform_b1 t rs stop_d at → (t + 180 ≤ d2) × (a2 ≤ at)
unfolding change
from_b1 h t [] at g = let f : false ≡ true = g.0 in absurd (cc)
from_b1 {st = st} h t (r ∷ rs) at g =
    elim (h.see r g.0) [
      | inl s ↦ absurd (no_time platform_b1 stop_a t _ refl (in_time-at platform_b1 t s.from_stop s.leaves_at g.1))
      | inr w ↦ elim w [
        | inl s ↦ absurd (no_time platform_b1 stop_a t _ refl (in_time-at platform_b1 t s.from_stop s.leaves_at g.1))
        | inr w2 ↦ elim w2 [
          | inl s ↦ absurd (not_from_c h _ rs at (goes_on-at st s.to_stop s.comes_at rs stop_d at g.2))
          | inr s ↦ (
            some_time platform_b1 platform_b2 t _ 180 refl (in_time-at platform_b1 t s.from_stop s.leaves_at g.1),
            from_d h _ rs at (goes_on-at st s.to_stop s.comes_at rs stop_d at g.2),
          )
        ]
      ]
    ]

begins-at : (q : Query) (r : PlanRide) (b : ℕ) → r.board_stop ≡ b → MayBegin (network opts) q r → MatchBool (is_one_station (network opts) q.from_stop b) (q.time ≤ r.board_time) (IsInTime (network opts) q.from_stop q.time b r.board_time)
begins-at q r b e m = subst (λ k. MatchBool (is_one_station (network opts) q.from_stop k) (q.time ≤ r.board_time) (IsInTime (network opts) q.from_stop q.time k r.board_time)) e m

-- who comes from A to D changed at B
pub from_a_to_d : {st : State} {da ab db ac d2 a2 : ℕ} → Sight st da ab db ac d2 a2 → (rs : List PlanRide) (at : ℕ) → IsJourney (network opts) st (at_eight stop_a stop_d) rs at → (ab + 180 ≤ d2) × (a2 ≤ at)
unfolding change
from_a_to_d h [] at g = let f : false ≡ true = g.0 in absurd (cc)
from_a_to_d {st = st} h (r ∷ rs) at g =
    elim (h.see r g.0) [
      | inl s ↦ from_b1 h _ rs at (goes_on-at st s.to_stop s.comes_at rs stop_d at g.2)
      | inr w ↦ elim w [
        | inl s ↦ absurd (not_from_c h _ rs at (goes_on-at st s.to_stop s.comes_at rs stop_d at g.2))
        | inr w2 ↦ elim w2 [
          | inl s ↦ absurd (no_time stop_a platform_b1 _ _ refl (begins-at (at_eight stop_a stop_d) r platform_b1 s.from_stop g.1))
          | inr s ↦ absurd (no_time stop_a platform_b2 _ _ refl (begins-at (at_eight stop_a stop_d) r platform_b2 s.from_stop g.1))
        ]
      ]
    ]

-- where no ride ends before it begins, no journey ends before it begins
not_back : {r : PlanRide} {da ab db ac d2 a2 : ℕ} → da ≤ ab → da ≤ ac → db ≤ ac → d2 ≤ a2 → OneOf r da ab db ac d2 a2 → r.board_time ≤ r.alight_time
not_back {r = r} h1 h2 h3 h4 o =
    elim o [
      | inl s ↦ let e = s.leaves_at in let f = s.comes_at in omega arith
      | inr w ↦ elim w [
        | inl s ↦ let e = s.leaves_at in let f = s.comes_at in omega arith
        | inr w2 ↦ elim w2 [
          | inl s ↦ let e = s.leaves_at in let f = s.comes_at in omega arith
          | inr s ↦ let e = s.leaves_at in let f = s.comes_at in omega arith
        ]
      ]
    ]

not_before : {st : State} {da ab db ac d2 a2 : ℕ} → Sight st da ab db ac d2 a2 → da ≤ ab → da ≤ ac → db ≤ ac → d2 ≤ a2 → (x t : ℕ) (rs : List PlanRide) (to at : ℕ) → GoesOn (network opts) st x t rs to at → t ≤ at
not_before h h1 h2 h3 h4 x t [] to at g = let f : t ≡ at = g.1 in omega arith
not_before h h1 h2 h3 h4 x t (r ∷ rs) to at g =
    let k = not_back h1 h2 h3 h4 (h.see r g.0) in
    let m : t + g.1.0 ≤ r.board_time = g.1.2 in
    let n = not_before h h1 h2 h3 h4 r.alight_stop r.alight_time rs to at g.2 in
    omega arith

begins_late : (b : Bool) (x y t s : ℕ) → MatchBool b (t ≤ s) (IsInTime (network opts) x t y s) → t ≤ s
begins_late true x y t s m = m
begins_late false x y t s m = let k : t + m.0 ≤ s = m.2 in omega arith

pub not_before_query : {st : State} {da ab db ac d2 a2 : ℕ} → Sight st da ab db ac d2 a2 → da ≤ ab → da ≤ ac → db ≤ ac → d2 ≤ a2 → (q : Query) (rs : List PlanRide) (at : ℕ) → IsJourney (network opts) st q rs at → q.time ≤ at
not_before_query h h1 h2 h3 h4 q [] at g = let f : q.time ≡ at = g.1 in omega arith
not_before_query h h1 h2 h3 h4 q (r ∷ rs) at g =
    let k = not_back h1 h2 h3 h4 (h.see r g.0) in
    let m : q.time ≤ r.board_time = begins_late (is_one_station (network opts) q.from_stop r.board_stop) q.from_stop r.board_stop q.time r.board_time g.1 in
    let n = not_before h h1 h2 h3 h4 r.alight_stop r.alight_time rs q.to_stop at g.2 in
    omega arith

last_ride : (nw : Network) (st : State) (to t : ℕ) → ((r : PlanRide) → IsRide nw st r → is_one_station nw r.alight_stop to ≡ true → t ≤ r.alight_time) → (r : PlanRide) (rs : List PlanRide) (at : ℕ) → IsRide nw st r → GoesOn nw st r.alight_stop r.alight_time rs to at → t ≤ at
last_ride nw st to t h r [] at i g = grind (arith, h)
last_ride nw st to t h r (s ∷ rs) at i g = last_ride nw st to t h s rs at g.0 g.2

-- where no ride comes to the destination before a time, no journey from another station does
pub not_before_rides : (nw : Network) (st : State) (q : Query) (t : ℕ) → is_one_station nw q.from_stop q.to_stop ≡ false → ((r : PlanRide) → IsRide nw st r → is_one_station nw r.alight_stop q.to_stop ≡ true → t ≤ r.alight_time) → (rs : List PlanRide) (at : ℕ) → IsJourney nw st q rs at → t ≤ at
not_before_rides nw st q t off h [] at g = grind arith
not_before_rides nw st q t off h (r ∷ rs) at g = last_ride nw st q.to_stop t h r rs at g.0 g.2

-- where both trains end at the destination, at one time, each ride to it arrives then
pub ends_then : {nw : Network} {st : State} {r : PlanRide} {t1 t2 : Train} {x y z u v : Call} (to t : ℕ) → OneOfFour nw st r t1 t2 x y z u v → is_one_station nw y.stop to ≡ false → event_time nw st (arrival_of 0 t1.route z).key ≡ t → event_time nw st (arrival_of 1 t2.route v).key ≡ t → is_one_station nw r.alight_stop to ≡ true → t ≤ r.alight_time
ends_then to t rides off first second ends = grind arith

-- a ride to the next call passes no call
pub passes_none : All StopsAndGoesOn []
passes_none k call h = absurd (omega arith)

only_train : (t1 t : Train) (n : ℕ) → slice_get (t1 ∷ []) n ≡ Some t → t ≡ t1
only_train t1 t zero e = let f : Some t1 ≡ Some t = e in cc
only_train t1 t (suc n) e = let f : None ≡ Some t = e in absurd (cc)

-- the calls of a ride where one train runs, which makes two calls
calls_alone : (nw : Network) (st : State) (t : Train) (u v : Call) → st.trains ≡ t ∷ [] → t.calls ≡ u ∷ v ∷ [] → (r : PlanRide) (i : IsRide nw st r) → (i.boarded ≡ u) × (i.alighted ≡ v)
calls_alone nw st t u v e e1 r i =
    let p : i.by_train ≡ t = only_train t i.by_train r.train (ap (λ ts. slice_get ts r.train) (sym e) ∙ i.is_train) in
    pair_of_two u v _ _ _ _ _ (sym e1 ∙ (ap (λ (x : Train). x.calls) (sym p) ∙ i.are_calls))

pub no_boarding : (nw : Network) (st : State) (t : Train) (u v : Call) → st.trains ≡ t ∷ [] → t.calls ≡ u ∷ v ∷ [] → u.board ≡ false → (r : PlanRide) → IsRide nw st r → ⊥
no_boarding nw st t u v e e1 off r i =
    let c = calls_alone nw st t u v e e1 r i in
    let f : true ≡ false = sym i.may_board ∙ (ap (λ (x : Call). x.board) c.0 ∙ off) in
    cc

pub no_alighting : (nw : Network) (st : State) (t : Train) (u v : Call) → st.trains ≡ t ∷ [] → t.calls ≡ u ∷ v ∷ [] → v.alight ≡ false → (r : PlanRide) → IsRide nw st r → ⊥
no_alighting nw st t u v e e1 off r i =
    let c = calls_alone nw st t u v e e1 r i in
    let f : true ≡ false = sym i.may_alight ∙ (ap (λ (x : Call). x.alight) c.1 ∙ off) in
    cc

pub no_journey : (st : State) (q : Query) → is_one_station (network opts) q.from_stop q.to_stop ≡ false → ((r : PlanRide) → IsRide (network opts) st r → ⊥) → (rs : List PlanRide) (at : ℕ) → IsJourney (network opts) st q rs at → ⊥
no_journey st q off h [] at g = let f : true ≡ false = sym g.0 ∙ off in cc
no_journey st q off h (r ∷ rs) at g = h r g.0

member_of_three : {A : Type 0} (x y z : A) (xs : List A) (b : A) (ys : List A) → x ∷ y ∷ z ∷ [] ≡ xs ++ b ∷ ys → (b ≡ x) ⊎ ((b ≡ y) ⊎ (b ≡ z))
member_of_three x y z [] b ys e = inl (cc)
member_of_three x y z (w ∷ ws) b ys e = let t : y ∷ z ∷ [] ≡ ws ++ b ∷ ys = cc in inr (one_of_two y z ws b ys t)

-- who boards at the first of four calls, the second of which the train does not leave, alights there
alights_at_second : (x y z w : Call) (xs : List Call) (b : Call) (ps : List Call) (a : Call) (ys : List Call) → x ∷ y ∷ z ∷ w ∷ [] ≡ xs ++ b ∷ (ps ++ a ∷ ys) → All StopsAndGoesOn ps → y.departure.live ≡ false → b.label ≡ 0 → 0 < y.label → 0 < z.label → 0 < w.label → a ≡ y
alights_at_second x y z w [] b [] a ys e all dead first h1 h2 h3 = cc
alights_at_second x y z w [] b (p ∷ ps) a ys e all dead first h1 h2 h3 =
    let f : p ≡ y = cc in
    let k : 0 < length (p ∷ ps) = omega arith in
    let g : true ≡ false = sym (all 0 p k).1 ∙ (ap (λ (v : Call). v.departure.live) f ∙ dead) in
    absurd (cc)
alights_at_second x y z w (u ∷ us) b ps a ys e all dead first h1 h2 h3 =
    let t : y ∷ z ∷ w ∷ [] ≡ us ++ b ∷ (ps ++ a ∷ ys) = cc in
    absurd (elim (member_of_three y z w us b _ t) [
      | inl q ↦ let l = ap (λ (v : Call). v.label) q in omega arith
      | inr r ↦ elim r [
        | inl q ↦ let l = ap (λ (v : Call). v.label) q in omega arith
        | inr q ↦ let l = ap (λ (v : Call). v.label) q in omega arith
      ]
    ])

pub alights_before_a_gap : (nw : Network) (st : State) (t1 t2 : Train) (x y z w : Call) → st.trains ≡ t1 ∷ t2 ∷ [] → t1.calls ≡ x ∷ y ∷ z ∷ w ∷ [] → y.departure.live ≡ false → 0 < y.label → 0 < z.label → 0 < w.label → (r : PlanRide) → IsRide nw st r → r.train ≡ 0 → r.board ≡ 0 → r.alight_stop ≡ y.stop
alights_before_a_gap nw st t1 t2 x y z w e e1 dead h1 h2 h3 r i n b =
    elim (which_train t1 t2 i.by_train r.train (ap (λ ts. slice_get ts r.train) (sym e) ∙ i.is_train)) [
      | inl p ↦
          i.alight_stop
          ∙ ap (λ (v : Call). v.stop) (alights_at_second x y z w _ _ _ _ _ (sym e1 ∙ (ap (λ (t : Train). t.calls) (sym p.1) ∙ i.are_calls)) i.passes dead (sym i.board_label ∙ b) h1 h2 h3)
      | inr p ↦ absurd (let m = p.0 in omega arith)
    ]
