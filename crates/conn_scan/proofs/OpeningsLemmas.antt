-- What one way more, and a list of changes, make of the times from which on passengers can board.
use Rattle.conn_scan.proofs.Words.{◌≡◌, ◌≢◌, ◌⊎◌, inl, inr, ℕ, ◌+◌, ◌≤◌, ◌<◌, ◌&&◌, nat_lt, Bool, true, false, List, [], ◌∷◌, Option, Some, None, length, set, get_or, refl, sym, ◌∙◌, ap, subst, arith, All, option_map_or, and_parts, both_ways, cases_Bool, cases_eq, cond_both, ltb-true, ltb-false, All-cons, All-head, All-nil, All-tail, All-weaker, get_or-set_other, get_or-set_same, length-set, none-some, same_Some, Change, improved, is_earlier, lowered, never, time_at, HasOpened, ride_at, Openings, Stretch}
use Rattle.std.proofs.lemmas.Bool.{and_cases}

-- stop b has rows
pub record IsPlace (ls : Openings) (b : ℕ) : Type 0 where
  pub times : b < length ls.times
  pub rides : b < length ls.rides

earlier-than : (t : ℕ) (o : Option ℕ) (s : ℕ) → option_map_or (λ s. nat_lt t s) o true ≡ true → o ≡ Some s → t ≤ s
earlier-than t None s earlier at = absurd (none-some s at)
earlier-than t (Some u) s earlier at = let same : u ≡ s = same_Some u s at in omega (arith, ltb-true t u earlier)

never-large : (t : ℕ) → t < never → nat_lt t never ≡ false → ⊥
never-large t small large = let le = ltb-false t never large in omega arith

held-by : (t : ℕ) (o : Option ℕ) → option_map_or (λ s. nat_lt t s) o true ≡ false → (s : ℕ) × (o ≡ Some s) × (s ≤ t)
held-by t None later = absurd (both_ways true later refl)
held-by t (Some s) later = (s, refl, ltb-false t s later)

module _ (b t : ℕ) (r : Option Stretch) (ls : Openings) where
  abbrev now : Openings
  now = record { times = set ls.times b (Some t); rides = set ls.rides b r }

  pub length-times : length (improved b t r ls).times ≡ length ls.times
  length-times = cond_both _ now ls (λ (l : Openings). length l.times ≡ length ls.times) (λ _. length-set ls.times b (Some t)) (λ _. refl)

  pub length-rides : length (improved b t r ls).rides ≡ length ls.rides
  length-rides = cond_both _ now ls (λ (l : Openings). length l.rides ≡ length ls.rides) (λ _. length-set ls.rides b r) (λ _. refl)

  pub improved-place : (x : ℕ) → IsPlace ls x → IsPlace (improved b t r ls) x
  improved-place x h = record { times = omega (arith, length-times, h.times); rides = omega (arith, length-rides, h.rides) }

  module _ (place : IsPlace ls b) where
    -- no stop opens later
    pub improved-kept : (x s : ℕ) → HasOpened ls x s → HasOpened (improved b t r ls) x s
    improved-kept x s h = cond_both _ now ls (λ l. HasOpened l x s) (λ earlier. elim (cases_eq x b) [
      | inl same ↦ let le = earlier-than t (time_at ls.times b) h.0 (and_parts (nat_lt t never) _ earlier).1 (ap (time_at ls.times) (sym same) ∙ h.1) in let until = h.2 in (t, ap (time_at (set ls.times b (Some t))) same ∙ get_or-set_same ls.times b (Some t) None place.times, omega arith)
      | inr other ↦ (h.0, get_or-set_other ls.times b x (Some t) None other ∙ h.1, h.2)
    ]) (λ _. h)

    -- this one opens by then, if that is a time
    pub improved-there : t < never → HasOpened (improved b t r ls) b t
    improved-there small = cond_both _ now ls (λ l. HasOpened l b t) (λ _. (t, get_or-set_same ls.times b (Some t) None place.times, omega arith)) (λ fails. elim (and_cases (nat_lt t never) _ fails) [
      | inl large ↦ absurd (never-large t small large)
      | inr later ↦ held-by t (time_at ls.times b) later
    ])

    -- what is new is this way alone
    pub improved-from : (x s : ℕ) → time_at (improved b t r ls).times x ≡ Some s → ((time_at ls.times x ≡ Some s) × (ride_at (improved b t r ls) x ≡ ride_at ls x)) ⊎ ((x ≡ b) × (t ≡ s) × (ride_at (improved b t r ls) x ≡ r))
    improved-from x s = cond_both _ now ls (λ l. time_at l.times x ≡ Some s → ((time_at ls.times x ≡ Some s) × (ride_at l x ≡ ride_at ls x)) ⊎ ((x ≡ b) × (t ≡ s) × (ride_at l x ≡ r))) (λ _ at. elim (cases_eq x b) [
      | inl same ↦ inr (same, same_Some t s (sym (ap (time_at (set ls.times b (Some t))) same ∙ get_or-set_same ls.times b (Some t) None place.times) ∙ at), ap (ride_at now) same ∙ get_or-set_same ls.rides b r None place.rides)
      | inr other ↦ inl (sym (get_or-set_other ls.times b x (Some t) None other) ∙ at, get_or-set_other ls.rides b x r None other)
    ]) (λ _ at. inl (at, refl))

abbrev pub ArePlaces : Openings → List Change → Type 0
ArePlaces ls cs = All (λ (c : Change). IsPlace ls c.stop) cs

module _ (at : ℕ) (r : Option Stretch) where
  next-places : (c : Change) (cs : List Change) (ls : Openings) → ArePlaces ls (c ∷ cs) → ArePlaces (improved c.stop (at + c.seconds) r ls) cs
  next-places c cs ls places =
      All-weaker (λ (d : Change). IsPlace ls d.stop) (λ (d : Change). IsPlace (improved c.stop (at + c.seconds) r ls) d.stop) (λ d h. improved-place c.stop (at + c.seconds) r ls d.stop h) cs (All-tail (λ (d : Change). IsPlace ls d.stop) c cs places)

  pub length-lowered_times : (cs : List Change) (ls : Openings) → length (lowered at r cs ls).times ≡ length ls.times
  length-lowered_times [] ls = refl
  length-lowered_times (c ∷ cs) ls = length-lowered_times cs (improved c.stop (at + c.seconds) r ls) ∙ length-times c.stop (at + c.seconds) r ls

  pub length-lowered_rides : (cs : List Change) (ls : Openings) → length (lowered at r cs ls).rides ≡ length ls.rides
  length-lowered_rides [] ls = refl
  length-lowered_rides (c ∷ cs) ls = length-lowered_rides cs (improved c.stop (at + c.seconds) r ls) ∙ length-rides c.stop (at + c.seconds) r ls

  -- no stop opens later
  pub lowered-kept : (cs : List Change) (ls : Openings) → ArePlaces ls cs → (x s : ℕ) → HasOpened ls x s → HasOpened (lowered at r cs ls) x s
  lowered-kept [] ls places x s h = h
  lowered-kept (c ∷ cs) ls places x s h =
      lowered-kept cs (improved c.stop (at + c.seconds) r ls) (next-places c cs ls places) x s
      (improved-kept c.stop (at + c.seconds) r ls (All-head (λ (d : Change). IsPlace ls d.stop) c cs places) x s h)

  -- each stop to which one of them leads opens in its seconds, if that is a time
  pub lowered-there : (cs : List Change) (ls : Openings) → ArePlaces ls cs → All (λ (c : Change). (at + c.seconds < never) → HasOpened (lowered at r cs ls) c.stop (at + c.seconds)) cs
  lowered-there [] ls places = All-nil (λ (c : Change). (at + c.seconds < never) → HasOpened ls c.stop (at + c.seconds))
  lowered-there (c ∷ cs) ls places =
      let next = improved c.stop (at + c.seconds) r ls in
      let rest = next-places c cs ls places in
      All-cons (λ (c : Change). (at + c.seconds < never) → HasOpened (lowered at r cs next) c.stop (at + c.seconds)) c cs
      (λ small. lowered-kept cs next rest c.stop (at + c.seconds) (improved-there c.stop (at + c.seconds) r ls (All-head (λ (d : Change). IsPlace ls d.stop) c cs places) small))
      (lowered-there cs next rest)

  -- what is new is one of them
  pub lowered-from : (Q : ℕ → ℕ → Type 0) (cs : List Change) (ls : Openings) → ArePlaces ls cs → All (λ (c : Change). Q c.stop (at + c.seconds)) cs → (x s : ℕ) → time_at (lowered at r cs ls).times x ≡ Some s → ((time_at ls.times x ≡ Some s) × (ride_at (lowered at r cs ls) x ≡ ride_at ls x)) ⊎ ((ride_at (lowered at r cs ls) x ≡ r) × Q x s)
  lowered-from Q [] ls places each x s found = inl (found, refl)
  lowered-from Q (c ∷ cs) ls places each x s found =
      let P : Change → Type 0 = λ c. Q c.stop (at + c.seconds) in
      let next = improved c.stop (at + c.seconds) r ls in
      elim (lowered-from Q cs next (next-places c cs ls places) (All-tail P c cs each) x s found) [
        | inr new ↦ inr new
        | inl before ↦ elim (improved-from c.stop (at + c.seconds) r ls (All-head (λ (d : Change). IsPlace ls d.stop) c cs places) x s before.0) [
          | inl old ↦ inl (old.0, before.1 ∙ old.1)
          | inr new ↦ inr (before.1 ∙ new.2, subst (Q x) new.1 (subst (λ y. Q y (at + c.seconds)) (sym new.0) (All-head P c cs each)))
        ]
      ]
