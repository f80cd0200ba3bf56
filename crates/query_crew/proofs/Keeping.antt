-- Workers of which so much stays as it was.
use Rattle.query_crew.proofs.Words.{◌≡◌, ◌<◌, ◌-◌, ◌+◌, ℕ, zero, suc, List, [], ◌∷◌, ◌++◌, length, set, Option, Some, None, IsSome, refl, sym, ap, subst, ◌∙◌, arith, length-set, TimetableState, HasSearchRoom}
use Rattle.std.proofs.Common.{◌↔◌, All, MatchOption, get_or, max, min}
use Rattle.std.proofs.lemmas.List.{get_or_default}
use Rattle.query_crew.specs.Keeping.{IsKept, AreKept, HaveViewers}
use Rattle.query_crew.specs.declared.worker.Worker.{Worker}
use Rattle.query_crew.proofs.Putting.{at-put}

kept-again : {V : Type 0} (a b c : Worker V) → IsKept a b → IsKept b c → IsKept a c
kept-again a b c h k = record { room = k.room ∙ h.room; viewer = k.viewer ∙ h.viewer }

pub all-kept : {V : Type 0} (ws : List (Worker V)) → AreKept ws ws
all-kept ws = record { count = refl; each = λ k d l. record { room = refl; viewer = refl } }

pub all-kept-again : {V : Type 0} (xs ys zs : List (Worker V)) → AreKept xs ys → AreKept ys zs → AreKept xs zs
all-kept-again xs ys zs h k = record {
  count = k.count ∙ h.count;
  each = λ i d l. kept-again (get_or xs i d) (get_or ys i d) (get_or zs i d) (h.each i d l) (k.each i d (omega (arith, l, h.count)));
}

-- one of the workers is another one now, of which so much is as it was
pub put-kept : {V : Type 0} (old now : List (Worker V)) (i : ℕ) (x y : Worker V) → AreKept old now → i < length now → IsKept (get_or now i x) y → AreKept old (set now i y)
put-kept old now i x y h lt kept = record {
  count = length-set now i y ∙ h.count;
  each = λ k d l. at-put (λ z. IsKept (get_or old k d) z) now i k y d lt
      (λ e. kept-again (get_or old k d) (get_or now k d) y (h.each k d l) (subst (λ z. IsKept z y) (get_or_default now i x d lt ∙ ap (λ j. get_or now j d) (sym e)) kept))
      (λ ne. h.each k d l);
}

pub rooms-kept : {V : Type 0} (o : Option TimetableState) (old new : List (Worker V)) → AreKept old new → ((i : ℕ) (d : Worker V) → i < length old → HasSearchRoom o (get_or old i d).scratch.room)
    → (i : ℕ) (d : Worker V) → i < length old → HasSearchRoom o (get_or new i d).scratch.room
rooms-kept o old new h rooms i d l = subst (HasSearchRoom o) (sym (h.each i d l).room) (rooms i d l)

-- ---- workers that are made one after another

-- the last viewer is taken out, if one is left
pub taken-out : {V : Type 0} (o : Option V) (count left made : ℕ) → (IsSome o ↔ (0 < left)) → left ≡ count - made → (IsSome o ↔ (made < count))
taken-out o count left made h e = (λ s. omega (arith, h.0 s, e), λ l. h.1 (omega (arith, l, e)))

pub one-less : {V : Type 0} (o : Option V) (old new : ℕ) → MatchOption o ((old ≡ 0) × (new ≡ 0)) (λ v. new + 1 ≡ old) → new ≡ old - 1
one-less None old new h = omega (arith, h)
one-less (Some v) old new h = omega (arith, h)

each-more : {X : Type 0} (P : ℕ → X → Type 0) (xs : List X) (x : X) → ((k : ℕ) (d : X) → k < length xs → P k (get_or xs k d)) → P (length xs) x
    → (k : ℕ) (d : X) → k < length (xs ++ x ∷ []) → P k (get_or (xs ++ x ∷ []) k d)
each-more P [] x h here zero d l = here
each-more P [] x h here (suc k) d l = absurd (omega (arith, l))
each-more P (y ∷ ys) x h here zero d l = h 0 d (omega arith)
each-more P (y ∷ ys) x h here (suc k) d l = each-more (λ n. P (suc n)) ys x (λ n e m. h (suc n) e (omega (arith, m))) here k d (omega (arith, l))

pub viewers-more : {V : Type 0} (count : ℕ) (ws : List (Worker V)) (w : Worker V) → HaveViewers count ws → (IsSome w.viewer ↔ (length ws < count)) → HaveViewers count (ws ++ w ∷ [])
viewers-more count ws w h here = each-more (λ k x. IsSome x.viewer ↔ (k < count)) ws w h here

-- of so many viewers no more are given away than there are workers
pub viewers-given : {V : Type 0} (viewers workers seats left : ℕ) (ws : List (Worker V))
    → HaveViewers left ws → length ws ≡ workers → seats ≡ max (min viewers workers) 1 → left + (seats - viewers) ≡ seats → HaveViewers viewers ws
viewers-given viewers workers seats left ws h count seated given k d l =
    let is = h k d l in
    (λ s. omega (arith, is.0 s, l, count, seated, given), λ lt. is.1 (omega (arith, lt, l, count, seated, given)))

pub all-have : {V : Type 0} (viewers : ℕ) (ws : List (Worker V)) → HaveViewers viewers ws → length ws ≡ viewers → All (λ w. IsSome w.viewer) ws
all-have viewers ws h count = λ k d l. (h k d l).1 (omega (arith, l, count))
