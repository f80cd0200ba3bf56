-- Flushes stand round each query.
use Rattle.std.proofs.Common.{◌≡◌, ◌⊎◌, inl, inr, ℕ, zero, suc, ◌+◌, Bool, true, false, cond, List, [], ◌∷◌, ◌++◌, ap, sym, ◌∙◌, refl, append_assoc}
use Rattle.feed_gen.specs.Laws.{HasQueriesBetweenFlushes}
use Rattle.feed_gen.specs.Lines.{InputLine, ends_group, flush, forecast, lines, lines_from, lines_with, query}

-- an element of joined lists stands in the first of them or in the second
split : {X : Type 0} (xs ys before after : List X) (z : X) → xs ++ ys ≡ before ++ z ∷ after
    → ((mid : List X) × (xs ≡ before ++ z ∷ mid) × (after ≡ mid ++ ys)) ⊎ ((mid : List X) × (before ≡ xs ++ mid) × (ys ≡ mid ++ z ∷ after))
split [] ys before after z e = inr (before, refl, e)
split (x ∷ xs) ys [] after z e = let parts : (x ≡ z) × (xs ++ ys ≡ after) = (cc, cc) in inl (xs, ap (λ y. y ∷ xs) parts.0, sym parts.1)
split (x ∷ xs) ys (b ∷ bs) after z e =
    let parts : (x ≡ b) × (xs ++ ys ≡ bs ++ z ∷ after) = (cc, cc) in
    elim (split xs ys bs after z parts.1) [
      | inl found ↦ inl (found.0, (λ k. parts.0 k ∷ found.1 k), found.2)
      | inr found ↦ inr (found.0, (λ k. sym parts.0 k ∷ found.1 k), found.2)
    ]

between-append : (xs ys : List InputLine) → HasQueriesBetweenFlushes xs → HasQueriesBetweenFlushes ys → HasQueriesBetweenFlushes (xs ++ ys)
between-append xs ys h k before after train e = elim (split xs ys before after (query train) e) [
  | inl found ↦
      let round = h before found.0 train found.1 in
      (round.0, (round.1.0 ++ ys, found.2 ∙ ap (λ (l : List InputLine). l ++ ys) round.1.1))
  | inr found ↦
      let round = k found.0 after train found.2 in
      ((xs ++ round.0.0, found.1 ∙ ap (λ (l : List InputLine). xs ++ l) round.0.1 ∙ sym (append_assoc xs round.0.0 (flush ∷ []))), round.1)
]

between-none : HasQueriesBetweenFlushes []
between-none [] after train e = absurd (cc)
between-none (b ∷ bs) after train e = absurd (cc)

between-one : (train : ℕ) → HasQueriesBetweenFlushes (forecast train ∷ [])
between-one train [] after other e = absurd (cc)
between-one train (b ∷ []) after other e = absurd (cc)
between-one train (b ∷ c ∷ before) after other e = absurd (cc)

between-group : (train : ℕ) → HasQueriesBetweenFlushes (forecast train ∷ flush ∷ query train ∷ flush ∷ [])
between-group train [] after other e = absurd (cc)
between-group train (a ∷ []) after other e = absurd (cc)
between-group train (a ∷ b ∷ []) after other e = ((forecast train ∷ [], cc), ([], cc))
between-group train (a ∷ b ∷ c ∷ []) after other e = absurd (cc)
between-group train (a ∷ b ∷ c ∷ d ∷ []) after other e = absurd (cc)
between-group train (a ∷ b ∷ c ∷ d ∷ f ∷ before) after other e = absurd (cc)

between-choice : (b : Bool) (xs ys : List InputLine) → HasQueriesBetweenFlushes xs → HasQueriesBetweenFlushes ys → HasQueriesBetweenFlushes (cond b xs ys)
between-choice true xs ys p q = p
between-choice false xs ys p q = q

between-from : (trains train count : ℕ) → HasQueriesBetweenFlushes (lines_from trains train count)
unfolding lines_from
between-from trains train zero = between-none
between-from trains train (suc count) =
    between-append (lines_with trains train) (lines_from trains (train + 1) count) (between-choice (ends_group trains train) _ _ (between-group train) (between-one train)) (between-from trains (train + 1) count)

pub between-flushes : (trains : ℕ) → HasQueriesBetweenFlushes (lines trains)
between-flushes trains = between-from trains 0 trains
