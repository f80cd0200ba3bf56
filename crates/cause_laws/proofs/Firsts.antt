-- The first reported event of a train, the edge that is named, and the edge that asks for the latest time.
use Rattle.std.proofs.Common.{◌≡◌, ℕ, ◌+◌, ◌<◌, Bool, true, false, cond, not, ◌&&◌, ◌||◌, List, [], ◌∷◌, Option, Some, None, is_some, max, nat_eq, filter, refl, sym, ◌∙◌, ap, subst, arith, ◌⊎◌, inl, inr}
use Rattle.std.specs.List.{All, Contains, fold}
use Rattle.std.specs.Ordering.{is_lt, is_gt, ordering_reverse}
use Rattle.std.specs.declared.cmp.Ordering.{Ordering}
use Rattle.std.specs.declared.cmp.Ordering.TheVariants.{Less, Equal, Greater}
use Rattle.std.proofs.lemmas.Bool.{cases_Bool, cases_lt, cond_both, and_parts, and_from, eqb-true, eq-eqb}
use Rattle.std.proofs.lemmas.Cmp.{upto}
use Rattle.std.proofs.lemmas.List.Elements.{All-cons, All-nil, All-weaker, All-contains, All-filter, All-contains_itself, filter_passes}
use Rattle.mt_base.specs.declared.keys.Key.{Key}
use Rattle.mt_base.specs.Order.{key_cmp, is_before}
use Rattle.mt_base.proofs.KeyLemmas.{keys_total, before-itself, before-asymmetric}
use Rattle.delay_model.specs.declared.state.Event.{Event}
use Rattle.delay_model.specs.declared.state.Edge.{Edge}
use Rattle.delay_model.specs.Cuts.{after}
use Rattle.delay_model.specs.Events.{live_report}
use Rattle.delay_model.specs.Timing.{first_report, counts, later}
use Rattle.delay_model.proofs.Lists.{Contains-there}
use Rattle.delay_model.proofs.Bounds.{fold-up}
use Rattle.cause_laws.specs.Causes.{first_reported, asks_for, is_along, goes_first_between, goes_first, first_of, named}

-- u is the first reported event of the train among these, and r its report
pub record IsFirst (train : ℕ) (vs : List Event) (u : Event) (r : ℕ) : Type 0 where
  pub named : first_reported train vs ≡ Some u
  pub cap : first_report train vs ≡ Some r
  pub there : Contains vs u
  pub live : u.live ≡ true
  pub train_is : u.key.train ≡ train
  pub report : u.report ≡ Some r

live-some : (b : Bool) (o : Option ℕ) → is_some (cond b o None) ≡ true → (r : ℕ) × (b ≡ true) × (o ≡ Some r)
live-some true (Some r) h = (r, refl, refl)
live-some true None h = absurd (cc)
live-some false o h = absurd (cc)

abbrev pub FirstCases : ℕ → List Event → Type 0
FirstCases train vs = ((first_reported train vs ≡ None) × (first_report train vs ≡ None)) ⊎ ((u : Event) × (r : ℕ) × IsFirst train vs u r)

first-later : (train : ℕ) (v : Event) (vs : List Event) → (nat_eq v.key.train train && is_some (live_report v)) ≡ false → FirstCases train vs → FirstCases train (v ∷ vs)
first-later train v vs miss (inl none) = inl (rw miss none.0, rw miss none.1)
first-later train v vs miss (inr (u, r, is)) =
    inr (u, r, record { named = rw miss is.named; cap = rw miss is.cap; there = Contains-there v vs u is.there; live = is.live; train_is = is.train_is; report = is.report })

first-here : (train : ℕ) (v : Event) (vs : List Event) (r : ℕ) → (nat_eq v.key.train train && is_some (live_report v)) ≡ true → v.live ≡ true → v.report ≡ Some r → IsFirst train (v ∷ vs) v r
first-here train v vs r hit live report =
    let own : live_report v ≡ Some r = rw live report in
    record {
      named = rw hit refl;
      cap = rw hit own;
      there = (0, omega arith, refl);
      live = live;
      train_is = eqb-true _ _ (and_parts _ _ hit).0;
      report = report;
    }

-- either none of these events of the train is reported, or one is the first
pub first-cases : (train : ℕ) (vs : List Event) → FirstCases train vs
first-cases train [] = inl (refl, refl)
first-cases train (v ∷ vs) =
    elim (cases_Bool (nat_eq v.key.train train && is_some (live_report v))) [
      | inl hit ↦
          let some = live-some v.live v.report (and_parts (nat_eq v.key.train train) (is_some (live_report v)) hit).1 in
          inr (v, some.0, first-here train v vs some.0 hit some.1 some.2)
      | inr miss ↦ first-later train v vs miss (first-cases train vs)
    ]

-- what stands after an event is of the list
pub contains-after : {X : Type 0} (p : X → Bool) (xs : List X) (x : X) → Contains (after p xs) x → Contains xs x
contains-after p [] x h = h
contains-after p (y ∷ ys) x h =
    cond_both (p y) ys (after p ys) (λ zs. Contains zs x → Contains (y ∷ ys) x) (λ _ k. Contains-there y ys x k) (λ _ k. Contains-there y ys x (contains-after p ys x k)) h

-- what passes a filter is of the list, and passes the test
pub filtered : {X : Type 0} (p : X → Bool) (xs : List X) (x : X) → Contains (filter p xs) x → Contains xs x × (p x ≡ true)
filtered p xs x h =
    (All-contains (Contains xs) (filter p xs) x (All-filter p (Contains xs) xs (All-contains_itself xs)) h, All-contains (λ y. p y ≡ true) (filter p xs) x (filter_passes p xs) h)

asked-now : (t : Key → ℕ) (e : Edge) (a m : ℕ) → later t a e ≡ m → a < m → asks_for t m e ≡ true
asked-now t e a m h l =
    elim (cases_Bool (counts e.kind e.to.time (t e.from + e.weight))) [
      | inl hit ↦
          let k : max a (t e.from + e.weight) ≡ m = rw hit at h in
          let same : t e.from + e.weight ≡ m = omega arith in
          and_from _ _ (eq-eqb _ _ same) (subst (λ x. counts e.kind e.to.time x ≡ true) same hit)
      | inr miss ↦ let k : a ≡ m = rw miss at h in absurd (omega arith)
    ]

-- where the latest of what edges ask for is later than where it began, one of them asks for just that
pub fold-reached : (t : Key → ℕ) (gs : List Edge) (a m : ℕ) → fold (later t) a gs ≡ m → a < m → (e : Edge) × Contains gs e × (asks_for t m e ≡ true)
fold-reached t [] a m h l = absurd (omega arith)
fold-reached t (e ∷ gs) a m h l =
    let up = fold-up t gs (later t a e) in
    elim (cases_lt (later t a e) m) [
      | inl less ↦
          let rest = fold-reached t gs (later t a e) m h less in
          (rest.0, Contains-there e gs rest.0 rest.1, rest.2)
      | inr ge ↦ (e, (0, omega arith, refl), asked-now t e a m (omega arith) l)
    ]

gt-reverse : (o : Ordering) → is_gt (ordering_reverse o) ≡ is_lt o
gt-reverse Less = refl
gt-reverse Equal = refl
gt-reverse Greater = refl

gt-before : (a b : Key) → is_gt (key_cmp a b) ≡ is_before b a
unfolding is_before
gt-before a b = ap is_gt (keys_total.antisymm a b) ∙ gt-reverse (key_cmp b a)

-- what is not before a second, which is not before a third, is not before the third
pub not_before-trans : (a b c : Key) → is_before a b ≡ false → is_before b c ≡ false → is_before a c ≡ false
not_before-trans a b c h k = sym (gt-before c a) ∙ upto keys_total c b a (gt-before c b ∙ k) (gt-before b a ∙ h)

between-itself : (p b : Bool) → b ≡ false → goes_first_between p p b ≡ false
between-itself true b h = h
between-itself false b h = h

itself-by : (a b : Bool) → b ≡ false → (not a && (a || b)) ≡ false
itself-by true b h = refl
itself-by false b h = h

between-asym : (p q de ed : Bool) → goes_first_between p q de ≡ true → (de ≡ true → ed ≡ false) → goes_first_between q p ed ≡ false
between-asym true true de ed h k = k h
between-asym true false de ed h k = refl
between-asym false true de ed h k = absurd (cc)
between-asym false false de ed h k = k h

asym-by : (e d de ed : Bool) → (not e && (d || de)) ≡ true → (de ≡ true → ed ≡ false) → (not d && (e || ed)) ≡ false
asym-by true d de ed h k = absurd (cc)
asym-by false true de ed h k = refl
asym-by false false de ed h k = k h

between-trans : (p q r cd dx cx : Bool) → goes_first_between p q cd ≡ false → goes_first_between q r dx ≡ false → (cd ≡ false → dx ≡ false → cx ≡ false) → goes_first_between p r cx ≡ false
between-trans true true true cd dx cx h k f = f h k
between-trans true true false cd dx cx h k f = absurd (cc)
between-trans true false r cd dx cx h k f = absurd (cc)
between-trans false q true cd dx cx h k f = refl
between-trans false true false cd dx cx h k f = absurd (cc)
between-trans false false false cd dx cx h k f = f h k

trans-by : (c d x cd dx cx : Bool) → (not d && (c || cd)) ≡ false → (not x && (d || dx)) ≡ false → (cd ≡ false → dx ≡ false → cx ≡ false) → (not x && (c || cx)) ≡ false
trans-by c d true cd dx cx h k f = refl
trans-by c true false cd dx cx h k f = absurd (cc)
trans-by true false false cd dx cx h k f = absurd (cc)
trans-by false false false cd dx cx h k f = f h k

module _ (ruled : Edge → Bool) where
  pub first-itself : (e : Edge) → goes_first ruled e e ≡ false
  first-itself e = itself-by (is_along e.kind) _ (between-itself (ruled e) (is_before e.from e.from) (before-itself e.from))

  pub first-asym : (d e : Edge) → goes_first ruled d e ≡ true → goes_first ruled e d ≡ false
  first-asym d e h =
      asym-by (is_along e.kind) (is_along d.kind) _ _ h (λ k.
      between-asym (ruled d) (ruled e) (is_before d.from e.from) (is_before e.from d.from) k (before-asymmetric d.from e.from))

  pub first-trans : (c d x : Edge) → goes_first ruled c d ≡ false → goes_first ruled d x ≡ false → goes_first ruled c x ≡ false
  first-trans c d x h k =
      trans-by (is_along c.kind) (is_along d.kind) (is_along x.kind) _ _ _ h k
      (λ l m. between-trans (ruled c) (ruled d) (ruled x) (is_before c.from d.from) (is_before d.from x.from) (is_before c.from x.from) l m
      (not_before-trans c.from d.from x.from))

-- of edges one is named, and none of them goes before it
pub record IsNamed (ruled : Edge → Bool) (xs : List Edge) (e : Edge) : Type 0 where
  pub is : named ruled xs ≡ Some e
  pub there : Contains xs e
  pub first : All (λ d. goes_first ruled d e ≡ false) xs

named-of : (ruled : Edge → Bool) (x : Edge) (xs : List Edge) → (e : Edge) × IsNamed ruled (x ∷ xs) e
named-of ruled x [] =
    (x, record { is = refl; there = (0, omega arith, refl); first = All-cons (λ d. goes_first ruled d x ≡ false) x [] (first-itself ruled x) (All-nil (λ d. goes_first ruled d x ≡ false)) })
named-of ruled x (y ∷ ys) =
    let rest = named-of ruled y ys in
    let d = rest.0 in
    elim (cases_Bool (goes_first ruled d x)) [
      | inl hit ↦ (
        d,
        record {
          is = ap (λ o. Some (first_of ruled x o)) rest.1.is ∙ ap (λ b. Some (cond b d x)) hit;
          there = Contains-there x (y ∷ ys) d rest.1.there;
          first = All-cons (λ c. goes_first ruled c d ≡ false) x (y ∷ ys) (first-asym ruled d x hit) rest.1.first;
        },
      )
      | inr miss ↦ (
        x,
        record {
          is = ap (λ o. Some (first_of ruled x o)) rest.1.is ∙ ap (λ b. Some (cond b d x)) miss;
          there = (0, omega arith, refl);
          first =
              All-cons (λ c. goes_first ruled c x ≡ false) x (y ∷ ys) (first-itself ruled x)
              (All-weaker (λ c. goes_first ruled c d ≡ false) (λ c. goes_first ruled c x ≡ false) (λ c h. first-trans ruled c d x h miss) (y ∷ ys) rest.1.first);
        },
      )
    ]

-- where there is an edge, one is named
pub named-there : (ruled : Edge → Bool) (xs : List Edge) (x : Edge) → Contains xs x → (e : Edge) × IsNamed ruled xs e
named-there ruled [] x h = let l = h.1 in absurd (omega arith)
named-there ruled (y ∷ ys) x h = named-of ruled y ys
