-- Links among the departures of a bucket, before and after one more.
use Rattle.dep_order.proofs.Words.{◌≡◌, ◌≢◌, ◌<◌, ℕ, ◌⊎◌, inl, inr, List, Option, Some, None, Bool, true, cond, nat_eq, refl, sym, ◌∙◌, ap, arith, cases_Bool, cases_eq, nat_tests, eq-eqb, Departure, held, AreLinked, IsNext, IsOf, is_above, is_past, nobody}
use Rattle.dep_order.proofs.OrderLemmas.{IsStrict, turn}

-- entries before and after a departure got a number: the key of none of them is its
pub record IsPut (less more : List (Option Departure)) (m : ℕ) (d : Departure) : Type 0 where
  pub number : m ≢ nobody
  pub nobody_is : held less nobody ≡ None
  pub free : held less m ≡ None
  pub is : held more m ≡ Some d
  pub others : (i : ℕ) → i ≢ m → held more i ≡ held less i
  pub new : (i : ℕ) (e : Departure) → held less i ≡ Some e → e.key ≢ d.key

pub some-or-none : {X : Type 0} (o : Option X) → ((x : X) × (o ≡ Some x)) ⊎ (o ≡ None)
some-or-none None = inr refl
some-or-none (Some x) = inl (x, refl)

module _ (lt : Departure → Departure → Bool) (strict : IsStrict lt) (bucket : Departure → ℕ) where
  -- the order turned round
  abbrev back : Departure → Departure → Bool
  back a b = lt b a

  above-bound : (o : Option Departure) (d : Departure) → ((e : Departure) → o ≡ Some e → lt e d ≡ true) → is_above lt o d ≡ true
  above-bound None d h = refl
  above-bound (Some e) d h = h e refl

  pub above-later : (o : Option Departure) (d e : Departure) → is_above lt o d ≡ true → lt d e ≡ true → is_above lt o e ≡ true
  above-later None d e h k = refl
  above-later (Some b) d e h k = strict.trans b d e h k

  pub past-later : (o : Option Departure) (d e : Departure) → is_past lt o d ≡ true → lt d e ≡ true → is_past lt o e ≡ true
  past-later None d e h k = h
  past-later (Some b) d e h k = strict.trans b d e h k

  not-both : (o : Option Departure) (d : Departure) → is_above lt o d ≡ true → is_past back o d ≡ true → ⊥
  not-both None d h k = cc
  not-both (Some b) d h k = strict.itself b (strict.trans b d b h k)

  past-at : (o : Option Departure) (d e : Departure) → o ≡ Some d → is_past lt o e ≡ true → lt d e ≡ true
  past-at o d e at h = rw at at h

  some-past : (o : Option Departure) (d : Departure) → is_past back o d ≡ true → (e : Departure) × (o ≡ Some e) × (lt d e ≡ true)
  some-past None d h = absurd (cc)
  some-past (Some e) d h = (e, refl, h)

  pub link-of : (es : List (Option Departure)) (b n : ℕ) (o : Option Departure) → IsNext lt bucket es b o n → IsOf bucket es b n
  link-of es b n o x =
      elim (some-or-none (held es n)) [ inl f ↦ inr (f.0, f.1, (x.there f.0 f.1).0) | inr gone ↦ inl (x.ends gone) ]

  -- a departure between two that follow each other
  pub between : (es : List (Option Departure)) (b before after : ℕ) (d : Departure) → IsNext lt bucket es b (held es before) after → is_above lt (held es before) d ≡ true → is_above back (held es after) d ≡ true → IsNext lt bucket es b (Some d) after
  between es b before after d x above below =
      record {
        ends = x.ends;
        there = λ e at. ((x.there e at).0, rw at at below);
        rest = λ i e at mine later. x.rest i e at mine (above-later (held es before) d e above later);
      }

  -- what stands in a bucket beside a departure
  module _ (es : List (Option Departure)) (b before : ℕ) (d : Departure) (g : IsNext back bucket es b (Some d) before) where
    pub above-before : is_above lt (held es before) d ≡ true
    above-before = above-bound (held es before) d (λ e h. (g.there e h).1)

    -- what comes after the one before it comes after it
    pub none-between : (i : ℕ) (e : Departure) → held es i ≡ Some e → bucket e ≡ b → e.key ≢ d.key → is_above lt (held es before) e ≡ true → lt d e ≡ true
    none-between i e h mine n above =
        elim (cases_Bool (lt d e)) [
          | inl later ↦ later
          | inr sooner ↦ elim (g.rest i e h mine (strict.either d e (λ k. n (sym k)) sooner)) [
            | inl own ↦ absurd (strict.itself e (rw (← own, h) at above))
            | inr past ↦ absurd (not-both (held es before) e above past)
          ]
        ]

    -- what it comes after is the one before it, or that comes after it too
    pub one-between : held es nobody ≡ None → (i : ℕ) → IsOf bucket es b i → i ≢ before → is_above lt (held es i) d ≡ true → (f : Departure) × (held es before ≡ Some f) × (is_above lt (held es i) f ≡ true)
    one-between none i (inl own) n above =
        elim (some-or-none (held es before)) [
          | inl f ↦ (f.0, f.1, rw (own, none) refl)
          | inr gone ↦ absurd (n (own ∙ sym (g.ends gone)))
        ]
    one-between none i (inr at) n above =
        elim (g.rest i at.0 at.1 at.2 (rw at.1 at above)) [
          | inl own ↦ absurd (n own)
          | inr past ↦ (let f = some-past (held es before) at.0 past in (f.0, f.1, rw at.1 f.2))
        ]

    -- the one before it leads to it
    pub leads-to : (n m : ℕ) → IsNext lt bucket es b (held es before) n → held es m ≡ Some d → bucket d ≡ b → n ≡ m
    leads-to n m x is mine =
        elim (x.rest m d is mine above-before) [
          | inl own ↦ sym own
          | inr past ↦ elim (some-or-none (held es n)) [
            | inr gone ↦ absurd (let k = rw gone at past in cc)
            | inl f ↦ (
                let t = x.there f.0 f.1 in
                elim (g.rest n f.0 f.1 t.0 (rw f.1 at past)) [
                  | inl own ↦ absurd (strict.itself f.0 (rw (← own, f.1) at t.1))
                  | inr k ↦ absurd (not-both (held es before) f.0 t.1 k)
                ])
          ]
        ]

  module _ (less more : List (Option Departure)) (m : ℕ) (d : Departure) (p : IsPut less more m d) where
    pub held-apart : (i : ℕ) (e : Departure) → held less i ≡ Some e → i ≢ m
    held-apart i e at own = let k = rw own at at in let free = p.free in cc

    of-less : (c i : ℕ) → i ≢ m → IsOf bucket more c i → IsOf bucket less c i
    of-less c i n (inl own) = inl own
    of-less c i n (inr at) = inr (at.0, sym (p.others i n) ∙ at.1, at.2)

    of-more : (c i : ℕ) → IsOf bucket less c i → (i ≢ m) × IsOf bucket more c i
    of-more c i (inl own) = ((λ e. p.number (sym e ∙ own)), inl own)
    of-more c i (inr at) = let n = held-apart i at.0 at.1 in (n, inr (at.0, p.others i n ∙ at.1, at.2))

    -- a link to another stays, where the departure does not come in between
    put-next : (b n : ℕ) (o : Option Departure) → IsNext lt bucket less b o n → (bucket d ≡ b → is_above lt o d ≡ true → is_past lt (held less n) d ≡ true) → IsNext lt bucket more b o n
    put-next b n o x h =
        let same = p.others n (λ e. p.number (sym e ∙ x.ends (ap (held less) e ∙ p.free))) in
        record {
          ends = λ e. x.ends (sym same ∙ e);
          there = λ e k. x.there e (sym same ∙ k);
          rest = λ i e at mine above. rw same (elim (cases_eq i m) [
            | inl own ↦ (
                let k = rw own at at in
                let now = p.is in
                let is : d ≡ e = cc in
                inr (rw (← is) (h (rw is mine) (rw is above))))
            | inr apart ↦ x.rest i e (sym (p.others i apart) ∙ at) mine above
          ]);
        }

    -- and so does one without it
    take-next : (b n : ℕ) (o : Option Departure) → IsNext lt bucket more b o n → n ≢ m → IsNext lt bucket less b o n
    take-next b n o x apart =
        let same = p.others n apart in
        record {
          ends = λ e. x.ends (same ∙ e);
          there = λ e k. x.there e (same ∙ k);
          rest = λ i e at mine above. rw (← same) (x.rest i e (p.others i (held-apart i e at) ∙ at) mine above);
        }

    -- what stands beside it stays without it
    pub take-gap : (b n : ℕ) → IsNext lt bucket more b (Some d) n → IsNext lt bucket less b (Some d) n
    take-gap b n x = take-next b n (Some d) x (λ own. strict.itself d (x.there d (ap (held more) own ∙ p.is)).1)

    module _ (count b before after : ℕ) (mine : bucket d ≡ b) (g : IsNext back bucket less b (Some d) before) (u : IsNext lt bucket less b (Some d) after) where
      before-below : (f : Departure) → held less before ≡ Some f → (bucket f ≡ b) × (lt f d ≡ true)
      before-below f at = g.there f at

      -- where the one before it is asked for in another bucket, it is nobody
      nobody-else : (c i : ℕ) → i ≡ before → c ≢ b → IsOf bucket less c i → (i ≡ nobody) × (c ≢ b)
      nobody-else c i is other (inl own) = (own, other)
      nobody-else c i is other (inr at) =
          let f = before-below at.0 (ap (held less) (sym is) ∙ at.1) in
          absurd (other (sym at.2 ∙ f.0))

      put-between : IsNext lt bucket more b (held less before) m
      put-between =
          let now = p.is in
          record {
            ends = λ e. absurd (cc);
            there = λ e at. let is : d ≡ e = cc in rw (← is) (mine, above-before less b before d g);
            rest = λ i e at own above. elim (cases_eq i m) [
              | inl same ↦ inl same
              | inr apart ↦ (
                  let was = sym (p.others i apart) ∙ at in
                  inr (rw now (none-between less b before d g i e was own (p.new i e was) above)))
            ];
          }

      -- each leads to the next once it was put between the two beside it
      pub put-linked : (next next' : ℕ → ℕ → ℕ) → AreLinked lt bucket count less next → next' b before ≡ m → next' b m ≡ after → ((c i : ℕ) → (i ≡ before → (i ≡ nobody) × (c ≢ b)) → i ≢ m → next' c i ≡ next c i) → AreLinked lt bucket count more next'
      put-linked next next' w first second rest c i l of =
          elim (cases_eq i m) [
            | inl own ↦ (
                let e : c ≡ b = elim of [
                  | inl none ↦ absurd (p.number (sym own ∙ none))
                  | inr at ↦ (let k = rw own at at.1 in let now = p.is in let is : d ≡ at.0 = cc in sym at.2 ∙ ap bucket (sym is) ∙ mine)
                ] in
                rw (own, e, p.is, second) (put-next b after (Some d) u (λ k h. absurd (strict.itself d h))))
            | inr apart ↦ (
                let was = of-less c i apart of in
                let same = p.others i apart in
                elim (cases_eq i before) [
                  | inl is ↦ elim (cases_eq c b) [
                    | inl e ↦ rw (same, is, e, first) put-between
                    | inr other ↦ rw (same, rest c i (λ k. nobody-else c i is other was) apart) (put-next c (next c i) (held less i) (w c i l was) (λ k h. absurd (other (sym k ∙ mine))))
                  ]
                  | inr far ↦ rw (same, rest c i (λ k. absurd (far k)) apart) (put-next c (next c i) (held less i) (w c i l was) (λ k h.
                      let e : c ≡ b = sym k ∙ mine in
                      let f = one-between less b before d g p.nobody_is i (rw e at was) far h in
                      let t = before-below f.0 f.1 in
                      elim ((w c i l was).rest before f.0 f.1 (t.0 ∙ sym e) f.2) [
                        | inl own ↦ rw (← own, f.1) t.1
                        | inr past ↦ past-later (held less (next c i)) f.0 d past t.1
                      ]))
                ])
          ]

      pub joined : IsNext lt bucket less b (held less before) after
      joined =
          record {
            ends = u.ends;
            there = λ e at. let t = u.there e at in (t.0, above-later (held less before) d e (above-before less b before d g) t.1);
            rest = λ i e at own above. u.rest i e at own (none-between less b before d g i e at own (p.new i e at) above);
          }

      not-it : (c i : ℕ) (x : ℕ) → IsOf bucket less c i → IsNext lt bucket more c (held less i) x → (i ≡ before → c ≢ b) → x ≢ m
      not-it c i x of w far own =
          let t = w.there d (ap (held more) own ∙ p.is) in
          let e : c ≡ b = sym t.0 ∙ mine in
          let f = one-between less b before d g p.nobody_is i (rw e at of) (λ k. far k e) t.1 in
          let s = before-below f.0 f.1 in
          let apart = held-apart before f.0 f.1 in
          elim (w.rest before f.0 (p.others before apart ∙ f.1) (s.0 ∙ sym e) f.2) [
            | inl k ↦ apart (k ∙ own)
            | inr past ↦ strict.itself d (strict.trans d f.0 d (past-at (held more x) d f.0 (ap (held more) own ∙ p.is) past) s.1)
          ]

      -- each leads to the next once the two beside it were joined
      pub take-linked : (next next' : ℕ → ℕ → ℕ) → AreLinked lt bucket count more next → next' b before ≡ after → ((c i : ℕ) → (i ≡ before → (i ≡ nobody) × (c ≢ b)) → i ≢ m → next' c i ≡ next c i) → AreLinked lt bucket count less next'
      take-linked next next' w first rest c i l of =
          let was = of-more c i of in
          let x = rw (p.others i was.0) at (w c i l was.1) in
          elim (cases_eq i before) [
            | inl is ↦ elim (cases_eq c b) [
              | inl e ↦ rw (is, e, first) joined
              | inr other ↦ rw (rest c i (λ k. nobody-else c i is other of) was.0) (take-next c (next c i) (held less i) x (not-it c i (next c i) of x (λ k. other)))
            ]
            | inr far ↦ rw (rest c i (λ k. absurd (far k)) was.0) (take-next c (next c i) (held less i) x (not-it c i (next c i) of x (λ k. absurd (far k))))
          ]

-- the links without what is between two
abbrev bridged : (ℕ → ℕ → ℕ) → ℕ → ℕ → ℕ → ℕ → ℕ → ℕ
bridged next b before after c i = cond (nat_eq i before) (cond (nat_eq c b) after (next c i)) (next c i)

bridged-at : (next : ℕ → ℕ → ℕ) (b before after : ℕ) → bridged next b before after b before ≡ after
bridged-at next b before after = rw (eq-eqb before before refl, eq-eqb b b refl) refl

bridged-else : (next : ℕ → ℕ → ℕ) (b before after c i : ℕ) → (i ≡ before → (i ≡ nobody) × (c ≢ b)) → bridged next b before after c i ≡ next c i
bridged-else next b before after c i h =
    elim (cases_eq i before) [
      | inl e ↦ (let far = (h e).1 in grind (arith, nat_tests))
      | inr far ↦ grind (arith, nat_tests)
    ]

module _ (lt : Departure → Departure → Bool) (strict : IsStrict lt) (bucket : Departure → ℕ) where
  pub gap-apart : (es : List (Option Departure)) (b n m : ℕ) (d : Departure) → IsNext lt bucket es b (Some d) n → held es m ≡ Some d → n ≢ m
  gap-apart es b n m d x is own = strict.itself d (x.there d (ap (held es) own ∙ is)).1

  -- links stay where a departure stays between the two beside it
  pub stay-linked : (less more last : List (Option Departure)) (m : ℕ) (d d' : Departure) → IsPut less more m d → IsPut less last m d' → (count b before after : ℕ) → b < count → bucket d ≡ b → bucket d' ≡ b → (next : ℕ → ℕ → ℕ) → AreLinked lt bucket count more next → IsNext lt bucket more b (Some d) after → IsNext (λ x y. lt y x) bucket more b (Some d) before → next b m ≡ after → is_above lt (held less before) d' ≡ true → is_above (λ x y. lt y x) (held less after) d' ≡ true → AreLinked lt bucket count last next
  stay-linked less more last m d d' p q count b before after low mine own next w u g second above below =
      let back : Departure → Departure → Bool = λ x y. lt y x in
      let turned = turn lt strict in
      let u₁ = take-gap lt strict bucket less more m d p b after u in
      let g₁ = take-gap back turned bucket less more m d p b before g in
      let without = take-linked lt strict bucket less more m d p count b before after mine g₁ u₁ next (bridged next b before after) w (bridged-at next b before after) (λ c i h n. bridged-else next b before after c i h) in
      let u₂ = between lt strict bucket less b before after d' (joined lt strict bucket less more m d p count b before after mine g₁ u₁) above below in
      let g₂ = between back turned bucket less b after before d' (joined back turned bucket less more m d p count b after before mine u₁ g₁) below above in
      let first = leads-to lt strict bucket more b before d g (next b before) m (w b before low (link-of back turned bucket more b before (Some d) g)) p.is mine in
      put-linked lt strict bucket less last m d' q count b before after own g₂ u₂ (bridged next b before after) next without first second (λ c i h n. sym (bridged-else next b before after c i h))
