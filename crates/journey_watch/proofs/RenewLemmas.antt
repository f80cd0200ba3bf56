-- How the standings of watched journeys are found again, one after the other.
use Rattle.std.proofs.Common.{◌≡◌, ℕ, zero, suc, ◌+◌, ◌*◌, ◌≤◌, ◌<◌, true, false, cond, List, [], ◌∷◌, Some, drop, map, length, slice_get, slice_set, refl, sym, ap, subst, arith}
use Rattle.std.specs.List.{All}
use Rattle.std.proofs.lemmas.Bool.{eq-eqb, eqb-true}
use Rattle.std.proofs.lemmas.Option.{none-some, same_Some}
use Rattle.mt_base.specs.declared.keys.Node.{Node}
use Rattle.delay_model.specs.declared.network.Network.{Network}
use Rattle.delay_model.specs.declared.state.State.{State}
use Rattle.standing_laws.specs.declared.standings.Standing.{Standing}
use Rattle.standing_laws.specs.declared.standings.Standing.TheVariants.{Good, Broken}
use Rattle.standing_laws.specs.Standings.{is_on_one}
use Rattle.journey_watch.specs.declared.watched.Watched.{Watched}
use Rattle.journey_watch.specs.Watching.{alert_of, alerts_of, has_kept_standing, is_same_standing, reads_for, renewed, standing_in}

-- ---- standings

-- a standing is the same as itself, and as no other
pub same-itself : (s : Standing) → is_same_standing s s ≡ true
same-itself (Good t) = eq-eqb t t refl
same-itself (Broken n) = eq-eqb n n refl

pub same-is : (s t : Standing) → is_same_standing s t ≡ true → s ≡ t
same-is (Good s) (Good t) same = ap Good (eqb-true s t same)
same-is (Broken m) (Broken n) same = ap Broken (eqb-true m n same)
same-is (Good s) (Broken n) same = absurd (cc)
same-is (Broken m) (Good t) same = absurd (cc)

module _ (nw : Network) (st : State) where
  -- the journey has the standing that is kept of it
  abbrev pub IsKept : Watched → Type 0
  IsKept w = standing_in nw st w ≡ w.standing

  pub kept-has : (w : Watched) → IsKept w → has_kept_standing nw st w ≡ true
  kept-has w kept = rw kept (same-itself w.standing)

  pub has-kept : (w : Watched) → has_kept_standing nw st w ≡ true → IsKept w
  has-kept w has = same-is (standing_in nw st w) w.standing has

  pub kept-renewed : (w : Watched) → IsKept w → renewed nw st w ≡ w
  kept-renewed w kept = λ i. record w { standing = kept i }

  -- where all are kept nothing is told, and all stay
  pub alerts-none : (ws : List Watched) → All IsKept ws → alerts_of nw st ws ≡ []
  alerts-none [] all = refl
  alerts-none (w ∷ ws) all = rw (kept-has w (all 0 w (omega arith))) (alerts-none ws (λ k d l. all (suc k) d (omega arith)))

  pub renewed-none : (ws : List Watched) → All IsKept ws → map (renewed nw st) ws ≡ ws
  renewed-none [] all = refl
  renewed-none (w ∷ ws) all = λ i. kept-renewed w (all 0 w (omega arith)) i ∷ renewed-none ws (λ k d l. all (suc k) d (omega arith)) i

  -- the first journey that is not kept is told first
  pub alerts-set : (ws : List Watched) (j : ℕ) (w : Watched) → slice_get ws j ≡ Some w
      → ((k : ℕ) (v : Watched) → k < j → slice_get ws k ≡ Some v → IsKept v) → has_kept_standing nw st w ≡ false
      → alerts_of nw st ws ≡ alert_of nw st w ∷ alerts_of nw st (slice_set ws j (renewed nw st w))
  alerts-set [] j w at before not-kept = absurd (none-some w at)
  alerts-set (v ∷ ws) zero w at before not-kept =
      let same : v ≡ w = same_Some v w at in
      let own : has_kept_standing nw st (renewed nw st w) ≡ true = kept-has (renewed nw st w) refl in
      rw (same, not-kept, own) refl
  alerts-set (v ∷ ws) (suc j) w at before not-kept =
      let kept = kept-has v (before 0 v (omega arith) refl) in
      rw kept (alerts-set ws j w at (λ k u l. before (suc k) u (omega arith)) not-kept)

  -- a journey that is found again is found the same once more
  pub renewed-set : (ws : List Watched) (j : ℕ) (w : Watched) → slice_get ws j ≡ Some w → map (renewed nw st) (slice_set ws j (renewed nw st w)) ≡ map (renewed nw st) ws
  renewed-set [] j w at = refl
  renewed-set (v ∷ ws) zero w at = ap (λ u. renewed nw st u ∷ map (renewed nw st) ws) (sym (same_Some v w at))
  renewed-set (v ∷ ws) (suc j) w at = ap (λ us. renewed nw st v ∷ us) (renewed-set ws j w at)

  -- the rides stay
  pub rides-set : (ws : List Watched) (j : ℕ) (w : Watched) → slice_get ws j ≡ Some w
      → map (λ (w : Watched). w.rides) (slice_set ws j (renewed nw st w)) ≡ map (λ (w : Watched). w.rides) ws
  rides-set [] j w at = refl
  rides-set (v ∷ ws) zero w at = ap (λ (u : Watched). u.rides ∷ map (λ (w : Watched). w.rides) ws) (sym (same_Some v w at))
  rides-set (v ∷ ws) (suc j) w at = ap (λ rs. v.rides ∷ rs) (rides-set ws j w at)

  -- reads are counted by the rides
  pub reads-set : (nodes : List Node) (ws : List Watched) (j b : ℕ) (w : Watched) → slice_get ws j ≡ Some w
      → reads_for nodes (drop b (slice_set ws j (renewed nw st w))) ≡ reads_for nodes (drop b ws)
  reads-set nodes [] j b w at = refl
  reads-set nodes (v ∷ ws) zero zero w at =
      ap (λ (u : Watched). cond (is_on_one nodes u.rides) (2 * length u.rides) 0 + reads_for nodes ws) (sym (same_Some v w at))
  reads-set nodes (v ∷ ws) zero (suc b) w at = refl
  reads-set nodes (v ∷ ws) (suc j) zero w at = ap (λ n. cond (is_on_one nodes v.rides) (2 * length v.rides) 0 + n) (reads-set nodes ws j zero w at)
  reads-set nodes (v ∷ ws) (suc j) (suc b) w at = reads-set nodes ws j b w at

-- what is at another place
pub at-other : {X : Type 0} (xs : List X) (j k : ℕ) (x y : X) → (k ≡ j → ⊥) → slice_get (slice_set xs j y) k ≡ Some x → slice_get xs k ≡ Some x
at-other [] j k x y apart at = at
at-other (z ∷ xs) zero zero x y apart at = absurd (apart refl)
at-other (z ∷ xs) zero (suc k) x y apart at = at
at-other (z ∷ xs) (suc j) zero x y apart at = at
at-other (z ∷ xs) (suc j) (suc k) x y apart at = at-other xs j k x y (λ same. apart (ap suc same)) at

pub at-own : {X : Type 0} (xs : List X) (j : ℕ) (x y z : X) → slice_get xs j ≡ Some z → slice_get (slice_set xs j y) j ≡ Some x → y ≡ x
at-own [] j x y z was at = absurd (none-some z was)
at-own (w ∷ xs) zero x y z was at = same_Some y x at
at-own (w ∷ xs) (suc j) x y z was at = at-own xs j x y z was at

-- the reads of one journey, and of those behind it
pub reads-split : (nodes : List Node) (ws : List Watched) (b j : ℕ) (w : Watched) → b ≤ j → slice_get ws j ≡ Some w
    → cond (is_on_one nodes w.rides) (2 * length w.rides) 0 + reads_for nodes (drop (suc j) ws) ≤ reads_for nodes (drop b ws)
reads-split nodes [] b j w l at = absurd (none-some w at)
reads-split nodes (v ∷ ws) zero zero w l at =
    let same : v ≡ w = same_Some v w at in
    let reads : Watched → ℕ = λ u. cond (is_on_one nodes u.rides) (2 * length u.rides) 0 + reads_for nodes ws in
    subst (λ (u : Watched). reads u ≤ reads v) same (omega arith)
reads-split nodes (v ∷ ws) zero (suc j) w l at =
    let rest = reads-split nodes ws zero j w (omega arith) at in
    let first = cond (is_on_one nodes v.rides) (2 * length v.rides) 0 in
    omega (arith, rest)
reads-split nodes (v ∷ ws) (suc b) zero w l at = absurd (omega arith)
reads-split nodes (v ∷ ws) (suc b) (suc j) w l at = reads-split nodes ws b j w (omega arith) at
