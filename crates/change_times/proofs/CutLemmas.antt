-- Lists that stand one after the other in one list.
use Rattle.change_times.proofs.Words.{◌≡◌, ℕ, zero, suc, ◌-◌, ◌<◌, ◌≤◌, List, [], ◌∷◌, ◌++◌, length, get_or, take, drop, refl, sym, subst, ◌∙◌, ap, arith, inl, inr, take_all, cases_lt, lt-ltb, le-ltb, cut}
use Rattle.std.proofs.Common.{length-append}
use Rattle.std.proofs.lemmas.List.{drop_at, take-append-le, drop-append-le, length-drop}
use Rattle.change_times.specs.Cuts.{AreEnds, bounds_of}

start-within : {X : Type 0} (start : ℕ) (ends : List ℕ) (xs : List X) → AreEnds start ends xs → start ≤ length xs
start-within start [] xs h = omega (arith, h)
start-within start (end ∷ ends) xs h = let rest = start-within end ends xs h.1 in omega (arith, h.0, rest)

-- a part lies within the list
part-within : {X : Type 0} (start : ℕ) (ends : List ℕ) (xs : List X) (i : ℕ) → AreEnds start ends xs → i < length ends → (get_or (start ∷ ends) i 0 ≤ get_or ends i 0) × (get_or ends i 0 ≤ length xs)
part-within start [] xs i h l = absurd (omega (arith, l))
part-within start (end ∷ ends) xs zero h l = (h.0, start-within end ends xs h.1)
part-within start (end ∷ ends) xs (suc i) h l = part-within end ends xs i h.1 (omega (arith, l))

part-is : {X : Type 0} (start : ℕ) (ends : List ℕ) (xs : List X) (i : ℕ) → i < length ends → get_or (cut start ends xs) i [] ≡ take (get_or ends i 0 - get_or (start ∷ ends) i 0) (drop (get_or (start ∷ ends) i 0) xs)
part-is start [] xs i l = absurd (omega (arith, l))
part-is start (end ∷ ends) xs zero l = refl
part-is start (end ∷ ends) xs (suc i) l = part-is end ends xs i (omega (arith, l))

part-past : {X : Type 0} (start : ℕ) (ends : List ℕ) (xs : List X) (i : ℕ) → length ends ≤ i → get_or (cut start ends xs) i [] ≡ []
part-past start [] xs i l = refl
part-past start (end ∷ ends) xs zero l = absurd (omega (arith, l))
part-past start (end ∷ ends) xs (suc i) l = part-past end ends xs i (omega (arith, l))

-- what the bounds of a part give
pub record IsPart {X : Type 0} (xs ys : List X) (bounds : ℕ × ℕ) : Type 0 where
  pub order : bounds.0 ≤ bounds.1
  pub within : bounds.1 ≤ length xs
  pub part : take (bounds.1 - bounds.0) (drop bounds.0 xs) ≡ ys

is-part : {X : Type 0} (ends : List ℕ) (xs : List X) (i : ℕ) → AreEnds 0 ends xs → IsPart xs (get_or (cut 0 ends xs) i []) (bounds_of ends i)
is-part ends xs i h =
    elim (cases_lt i (length ends)) [
      | inl l ↦
          rw (lt-ltb i (length ends) l) (record {
            order = (part-within 0 ends xs i h l).0;
            within = (part-within 0 ends xs i h l).1;
            part = sym (part-is 0 ends xs i l);
          })
      | inr l ↦
          rw (le-ltb i (length ends) l) (record {
            order = omega arith;
            within = omega arith;
            part = sym (part-past 0 ends xs i l);
          })
    ]

pub bounded : {X : Type 0} (given ends : List ℕ) (xs : List X) (i : ℕ) (bounds : ℕ × ℕ) → bounds ≡ bounds_of given i → given ≡ ends → AreEnds 0 ends xs → IsPart xs (get_or (cut 0 ends xs) i []) bounds
bounded given ends xs i bounds e f h =
    subst (IsPart xs (get_or (cut 0 ends xs) i [])) (sym (e ∙ ap (λ es. bounds_of es i) f)) (is-part ends xs i h)

-- one more part
pub one-more : {X : Type 0} (start : ℕ) (ends : List ℕ) (xs ys : List X) → AreEnds start ends xs → cut start (ends ++ length (xs ++ ys) ∷ []) (xs ++ ys) ≡ cut start ends xs ++ ys ∷ []
one-more start [] xs ys h =
    ap (λ zs. zs ∷ []) (ap (take (length (xs ++ ys) - start)) (drop_at xs ys start (sym h)) ∙ take_all (length (xs ++ ys) - start) ys (omega (arith, h, length-append xs ys)))
one-more start (end ∷ ends) xs ys h =
    let within = start-within end ends xs h.1 in
    let before : start ≤ length xs = omega (arith, h.0, within) in
    let front : end - start ≤ length (drop start xs) = omega (arith, length-drop start xs, within) in
    ap (λ zs. zs ∷ cut end (ends ++ length (xs ++ ys) ∷ []) (xs ++ ys)) (ap (take (end - start)) (drop-append-le start xs ys before) ∙ take-append-le (end - start) (drop start xs) ys front)
    ∙ ap (λ zs. take (end - start) (drop start xs) ∷ zs) (one-more end ends xs ys h.1)

pub more-ends : {X : Type 0} (start : ℕ) (ends : List ℕ) (xs ys : List X) → AreEnds start ends xs → AreEnds start (ends ++ length (xs ++ ys) ∷ []) (xs ++ ys)
more-ends start [] xs ys h = (omega (arith, h, length-append xs ys), refl)
more-ends start (end ∷ ends) xs ys h = (h.0, more-ends end ends xs ys h.1)
