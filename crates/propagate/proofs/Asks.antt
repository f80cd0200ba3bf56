-- What edges ask for of an event before and after some of the events that they leave get another time.
use Rattle.propagate.proofs.Words.{◌≡◌, ◌≢◌, ◌⊎◌, ℕ, ◌+◌, ◌≤◌, ◌<◌, true, false, max, List, Option, Some, None, unwrap_or, refl, sym, ◌∙◌, ap, subst, arith, inl, inr, fold, get_or, cond_both, cases_Bool, or_parts}
use Rattle.propagate.proofs.Words.{All, All-contains, Contains, Contains-filter, filter, is_same, same-is, same-itself, list_any_at, Key, Edge, Event, cap, capped, later, local, floor_of, incoming, outgoing, may_change}
use Rattle.delay_model.specs.Timing.{counts}
use Rattle.delay_model.proofs.Bounds.{AsksUpTo, fold-asks, fold-le, fold-up}
use Rattle.propagate.specs.Asked.{IsRaised, ask, leads}
use Rattle.propagate.specs.declared.asked.Asked.{Asked}
use Rattle.state_laws.proofs.Words.{incoming-there}
use Rattle.state_laws.proofs.Untouched.{incoming-are, incoming-ends}
use Rattle.propagate.proofs.Idle.{decides, idle}
use Rattle.propagate.proofs.Ordered.{filtered}

-- where an edge counts, it asks for what it asks for
counted : (e : Edge) (time m : ℕ) → ask e time ≤ m → counts e.kind e.to.time (time + e.weight) ≡ true → time + e.weight ≤ m
counted e time m l c = rw c at l

pub asks-to : (e : Edge) (time m : ℕ) → (counts e.kind e.to.time (time + e.weight) ≡ true → time + e.weight ≤ m) → ask e time ≤ m
asks-to e time m h = cond_both (counts e.kind e.to.time (time + e.weight)) (time + e.weight) 0 (λ x. x ≤ m) h (λ _. omega arith)

-- an edge asks by other times for what it asked for, for nothing that is later than a floor, or for no more than a bound
abbrev IsBelow : (Key → ℕ) → (Key → ℕ) → ℕ → ℕ → Edge → Type 0
IsBelow t u floor x e = (t e.from ≡ u e.from) ⊎ (((decides u e ≡ false) × (e.to.time ≤ floor)) ⊎ (ask e (u e.from) ≤ x))

below : (t u : Key → ℕ) (floor x m : ℕ) (e : Edge) → floor ≤ m → AsksUpTo t m e → IsBelow t u floor x e → AsksUpTo u (max m x) e
below t u floor x m e up asks h =
    elim h [
      | inl same ↦ λ c. let a = asks (rw same c) in omega (arith, a, same)
      | inr more ↦
          elim more [
            | inl none ↦ λ c. let a = idle e.kind e.to.time (u e.from + e.weight) none.0 c in let b = none.1 in omega arith
            | inr l ↦ λ c. let a = counted e (u e.from) x l c in omega arith
          ]
    ]

fold-below : (t u : Key → ℕ) (floor x : ℕ) (gs : List Edge) → All (IsBelow t u floor x) gs → fold (later u) floor gs ≤ max (fold (later t) floor gs) x
fold-below t u floor x gs h =
    let m = fold (later t) floor gs in
    let up = fold-up t gs floor in
    fold-le u (max m x) gs floor (omega arith) (λ i d l. below t u floor x m (get_or gs i d) up (fold-asks t gs floor i d l) (h i d l))

-- the value by the reports of a train, where what is asked for is not before the earlier value
value-later : (report top : Option ℕ) (m0 m1 a was : ℕ) → was ≡ unwrap_or report (capped top m0) → m1 ≤ max m0 a → (a ≤ m1) ⊎ (a ≡ 0) → was ≤ a → unwrap_or report (capped top m1) ≡ unwrap_or report (capped top a)
value-later (Some r) top m0 m1 a was is up low l = refl
value-later None None m0 m1 a was is up low l = let own : was ≡ m0 = is in elim low [ inl at ↦ (let same : m1 ≡ a = omega arith in same) | inr none ↦ (let same : m1 ≡ a = omega arith in same) ]
value-later None (Some c) m0 m1 a was is up low l = elim low [ inl at ↦ grind arith | inr none ↦ grind arith ]

-- and where nothing was or is asked for that is not before it
value-earlier : (report top : Option ℕ) (m0 m1 b a was : ℕ) → was ≡ unwrap_or report (capped top m0) → m1 ≤ max m0 a → m0 ≤ max m1 b → a < was → b < was → unwrap_or report (capped top m1) ≡ was
value-earlier (Some r) top m0 m1 b a was is up low l k = sym is
value-earlier None None m0 m1 b a was is up low l k = let own : was ≡ m0 = is in let same : m1 ≡ was = omega arith in same
value-earlier None (Some c) m0 m1 b a was is up low l k = grind arith

-- what is asked of an event covers an edge, whose origin has another time: the times are the same, the edge may not change the time
-- of the event, or it asked and asks for no more
abbrev IsCoveredBy : ℕ → ℕ → Asked → Edge → Type 0
IsCoveredBy x y a e = (x ≡ y) ⊎ ((may_change x y e ≡ false) ⊎ ((ask e x ≤ a.before) × (ask e y ≤ a.after)))

abbrev pub IsCovered : (Key → ℕ) → (Key → ℕ) → Asked → Edge → Type 0
IsCovered t u a e = IsCoveredBy (t e.from) (u e.from) a e

-- it covers each of these, and one of them whose origin has another time asks for it, if it is not nothing
pub record AreCovered (t u : Key → ℕ) (gs : List Edge) (a : Asked) : Type 0 where
  pub each : All (IsCovered t u a) gs
  pub attained : (a.after ≡ 0) ⊎ ((e : Edge) × Contains gs e × (t e.from ≢ u e.from) × (ask e (u e.from) ≡ a.after))

below-after : (t u : Key → ℕ) (a : Asked) (floor : ℕ) (e : Edge) → (decides u e ≡ false → e.to.time ≤ floor) → IsCovered t u a e → IsBelow t u floor a.after e
below-after t u a floor e until h =
    elim h [
      | inl same ↦ inl same
      | inr more ↦
          elim more [
            | inl none ↦ (let both = or_parts (decides t e) (decides u e) none in inr (inl (both.1, until both.1)))
            | inr asks ↦ inr (inr asks.1)
          ]
    ]

below-before : (t u : Key → ℕ) (a : Asked) (floor : ℕ) (e : Edge) → (decides t e ≡ false → e.to.time ≤ floor) → IsCovered t u a e → IsBelow u t floor a.before e
below-before t u a floor e until h =
    elim h [
      | inl same ↦ inl (sym same)
      | inr more ↦
          elim more [
            | inl none ↦ (let both = or_parts (decides t e) (decides u e) none in inr (inl (both.0, until both.0)))
            | inr asks ↦ inr (inr asks.0)
          ]
    ]

-- so what is asked of an event tells its value
module _ (es : List Event) (gs : List Edge) (t u : Key → ℕ) (v : Event) (a : Asked) (covered : AreCovered t u (incoming gs v.key) a) (until : All (λ e. decides t e ≡ false → e.to.time ≤ floor_of v) (incoming gs v.key)) (until_now : All (λ e. decides u e ≡ false → e.to.time ≤ floor_of v) (incoming gs v.key)) (was : ℕ) (value : was ≡ local es gs t v) where
  up : fold (later u) (floor_of v) (incoming gs v.key) ≤ max (fold (later t) (floor_of v) (incoming gs v.key)) a.after
  up = fold-below t u (floor_of v) a.after (incoming gs v.key) (λ i d l. below-after t u a (floor_of v) (get_or (incoming gs v.key) i d) (until_now i d l) (covered.each i d l))

  low : fold (later t) (floor_of v) (incoming gs v.key) ≤ max (fold (later u) (floor_of v) (incoming gs v.key)) a.before
  low = fold-below u t (floor_of v) a.before (incoming gs v.key) (λ i d l. below-before t u a (floor_of v) (get_or (incoming gs v.key) i d) (until i d l) (covered.each i d l))

  reached : (a.after ≤ fold (later u) (floor_of v) (incoming gs v.key)) ⊎ (a.after ≡ 0)
  reached =
      elim covered.attained [
        | inl none ↦ inr none
        | inr one ↦
            let m = fold (later u) (floor_of v) (incoming gs v.key) in
            let asks = asks-to one.0 (u one.0.from) m (All-contains (AsksUpTo u m) (incoming gs v.key) one.0 (fold-asks u (incoming gs v.key) (floor_of v)) one.1) in
            inl (omega (arith, asks, one.3))
      ]

  pub told-later : was ≤ a.after → local es gs u v ≡ unwrap_or v.report (capped (cap es v) a.after)
  unfolding local
  told-later l = value-later v.report (cap es v) (fold (later t) (floor_of v) (incoming gs v.key)) (fold (later u) (floor_of v) (incoming gs v.key)) a.after was value up reached l

  pub told-earlier : a.after < was → a.before < was → local es gs u v ≡ was
  unfolding local
  told-earlier l k = value-earlier v.report (cap es v) (fold (later t) (floor_of v) (incoming gs v.key)) (fold (later u) (floor_of v) (incoming gs v.key)) a.before a.after was value up low l k

-- where no edge leads to a key, nothing is raised
pub raised-none : (x y : ℕ) (gs : List Edge) (k : Key) (c : Asked) → leads gs k ≡ false → IsRaised x y gs k c c
raised-none x y gs k c none =
    record {
      before_kept = omega arith;
      after_kept = omega arith;
      before_asked = λ i d l to. let some = list_any_at (λ (e : Edge). is_same e.to k) gs i d l to in absurd (cc);
      after_asked = λ i d l to. let some = list_any_at (λ (e : Edge). is_same e.to k) gs i d l to in absurd (cc);
      attained = inl refl;
    }

weaker : (x y : ℕ) (c a : Asked) (e : Edge) → c.before ≤ a.before → c.after ≤ a.after → IsCoveredBy x y c e → IsCoveredBy x y a e
weaker x y c a e l k h =
    elim h [
      | inl same ↦ inl same
      | inr more ↦ elim more [ inl none ↦ inr (inl none) | inr asks ↦ (let p = asks.0 in let q = asks.1 in inr (inr (omega arith, omega arith))) ]
    ]

-- an event gets the time y in place of x, and no other does
module _ (gs : List Edge) (t u w : Key → ℕ) (k q : Key) (x y : ℕ) (first : t k ≡ x) (before : u k ≡ x) (now : w k ≡ y) (origins : All (λ (e : Edge). (w e.from ≡ u e.from) ⊎ (e.from ≡ k)) (incoming gs q)) where
  pub covered-same : x ≡ y → (a : Asked) → AreCovered t u (incoming gs q) a → AreCovered t w (incoming gs q) a
  covered-same e a h =
      let stays : All (λ (e : Edge). w e.from ≡ u e.from) (incoming gs q) = λ i d l. elim (origins i d l) [ inl same ↦ same | inr own ↦ rw own (now ∙ sym e ∙ sym before) ] in
      record {
        each = λ i d l. let e = get_or (incoming gs q) i d in subst (λ z. IsCoveredBy (t e.from) z a e) (sym (stays i d l)) (h.each i d l);
        attained = elim h.attained [
          | inl none ↦ inl none
          | inr one ↦
              let same = All-contains (λ (e : Edge). w e.from ≡ u e.from) (incoming gs q) one.0 stays one.1 in
              inr (one.0, one.1, λ p. one.2 (p ∙ same), ap (ask one.0) same ∙ one.3)
        ];
      }

  -- what reaches the other event is raised
  module _ (differ : x ≢ y) (c a : Asked) (h : AreCovered t u (incoming gs q) c) (up : IsRaised x y (filter (may_change x y) (outgoing gs k)) q c a) where
    own-covered : (e : Edge) → Contains gs e → is_same e.to q ≡ true → e.from ≡ k → IsCoveredBy x y a e
    unfolding outgoing
    own-covered e there to from =
        elim (cases_Bool (may_change x y e)) [
          | inl may ↦
              let here = Contains-filter (may_change x y) (outgoing gs k) e (Contains-filter (λ (e : Edge). is_same e.from k) gs e there (rw (from, same-itself k) refl)) may in
              inr (inr (All-contains (λ e. is_same e.to q ≡ true → ask e x ≤ a.before) (filter (may_change x y) (outgoing gs k)) e up.before_asked here to, All-contains (λ e. is_same e.to q ≡ true → ask e y ≤ a.after) (filter (may_change x y) (outgoing gs k)) e up.after_asked here to))
          | inr fails ↦ inr (inl fails)
        ]

    leaves : (e : Edge) → Contains (outgoing gs k) e → Contains gs e × (e.from ≡ k)
    unfolding outgoing
    leaves e h = let from = filtered (λ (e : Edge). is_same e.from k) gs e h in (from.0, same-is e.from k from.1)

    pub covered-raised : AreCovered t w (incoming gs q) a
    covered-raised =
        record {
          each = λ i d l.
              let e = get_or (incoming gs q) i d in
              elim (origins i d l) [
                | inl same ↦ subst (λ z. IsCoveredBy (t e.from) z a e) (sym same) (weaker (t e.from) (u e.from) c a e up.before_kept up.after_kept (h.each i d l))
                | inr own ↦
                    let here = own-covered e (incoming-are gs q i d l) (incoming-ends gs q i d l) own in
                    subst (λ z. IsCoveredBy (t z) (w z) a e) (sym own) (rw (first, now) here)
              ];
          attained = elim up.attained [
            | inl same ↦
                elim h.attained [
                  | inl none ↦ inl (same ∙ none)
                  | inr one ↦
                      let origin = All-contains (λ (e : Edge). (w e.from ≡ u e.from) ⊎ (e.from ≡ k)) (incoming gs q) one.0 origins one.1 in
                      elim origin [
                        | inl stays ↦ inr (one.0, one.1, λ p. one.2 (p ∙ stays), ap (ask one.0) stays ∙ one.3 ∙ sym same)
                        | inr own ↦ absurd (one.2 (ap t own ∙ first ∙ sym before ∙ ap u (sym own)))
                      ]
                ]
            | inr one ↦
                let out = filtered (may_change x y) (outgoing gs k) one.0 one.1 in
                let from = leaves one.0 out.0 in
                let own = from.1 in
                inr (one.0, incoming-there gs q one.0 from.0 one.2, λ p. differ (sym first ∙ ap t (sym own) ∙ p ∙ ap w own ∙ now), ap (λ z. ask one.0 (w z)) own ∙ ap (ask one.0) now ∙ one.3)
          ];
        }
