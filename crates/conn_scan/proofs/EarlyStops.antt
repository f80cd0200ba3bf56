-- The stops that have a time before the best arrival.
use Rattle.conn_scan.proofs.Words.{◌≡◌, ◌⊎◌, inl, inr, ℕ, zero, suc, ◌+◌, ◌-◌, ◌≤◌, ◌<◌, nat_eq, nat_lt, Bool, true, false, List, [], ◌∷◌, ◌++◌, Option, Some, None, replicate, get_or, refl, sym, ◌∙◌, ap, subst, arith, All, AllPairs, option_map_or, both_ways, cond, cases_Bool, cases_eq, cases_lt, cond_both, eq-eqb, eqb-true, ltb-true, ltb-false, ne_eqb, All-cons, All-nil, none-some, same_Some, Network, is_stop, IsEarly, time_at}
use Rattle.std.proofs.lemmas.Bool.{lt-ltb}
use Rattle.std.proofs.lemmas.List.Elements.{All-append}
use Rattle.std.proofs.lemmas.List.Kept.{AllPairs-cons}
use Rattle.delay_model.proofs.Lists.{AllPairs-nil}
use Rattle.mt_base.specs.declared.certificates.Reach.{Reach}
use Rattle.journey_laws.specs.Certificates.{AreEarlyStops, IsEarlyPart, IsEarlyStop, time_in}
use Rattle.conn_scan.specs.ScratchState.{early_from, early_stop, early_stops}

is-early : (best : Option ℕ) (t : ℕ) → option_map_or (λ at. nat_lt t at) best true ≡ true → IsEarly best t
is-early None t h = tt
is-early (Some at) t h = ltb-true t at h

early-is : (best : Option ℕ) (t : ℕ) → IsEarly best t → option_map_or (λ at. nat_lt t at) best true ≡ true
early-is None t h = refl
early-is (Some at) t h = lt-ltb t at h

-- what holds of each row with an early time holds of each entry
pub early-each : (P : Reach → Type 0) (best : Option ℕ) (n : ℕ) (ts : List (Option ℕ)) → ((b t : ℕ) → time_at ts b ≡ Some t → IsEarly best t → P (record { stop = n + b; time = t })) → All P (early_from best n ts)
early-each P best n [] h = All-nil P
early-each P best n (x ∷ ts) h =
    All-append P (early_stop best n x) (early_from best (suc n) ts) (one x (λ t same. h 0 t same))
    (early-each P best (suc n) ts (λ b t at early. let next : n + suc b ≡ suc n + b = omega arith in subst (λ m. P (record { stop = m; time = t })) next (h (suc b) t at early)))
  where
    one : (x : Option ℕ) → ((t : ℕ) → x ≡ Some t → IsEarly best t → P (record { stop = n + 0; time = t })) → All P (early_stop best n x)
    one None h = All-nil P
    one (Some t) h =
        let same : n + 0 ≡ n = omega arith in
        cond_both (option_map_or (λ at. nat_lt t at) best true) (record { stop = n; time = t } ∷ []) [] (All P)
        (λ early. All-cons P (record { stop = n; time = t }) [] (subst (λ m. P (record { stop = m; time = t })) same (h t refl (is-early best t early))) (All-nil P)) (λ _. All-nil P)

-- they rise by number
early-above : (best : Option ℕ) (n : ℕ) (ts : List (Option ℕ)) → All (λ (x : Reach). n ≤ x.stop) (early_from best n ts)
early-above best n ts = early-each (λ (x : Reach). n ≤ x.stop) best n ts (λ b t at early. omega arith)

rise-front : (best : Option ℕ) (n : ℕ) (ts : List (Option ℕ)) → AllPairs (λ (x y : Reach). x.stop < y.stop) (early_from best (suc n) ts) → (x : Option ℕ) → AllPairs (λ (x y : Reach). x.stop < y.stop) (early_stop best n x ++ early_from best (suc n) ts)
rise-front best n ts rise None = rise
rise-front best n ts rise (Some t) =
    cond_both (option_map_or (λ at. nat_lt t at) best true) (record { stop = n; time = t } ∷ []) [] (λ xs. AllPairs (λ (x y : Reach). x.stop < y.stop) (xs ++ early_from best (suc n) ts))
    (λ _. AllPairs-cons (λ (x y : Reach). x.stop < y.stop) (record { stop = n; time = t }) (early_from best (suc n) ts) (λ i c l. let above = early-above best (suc n) ts i c l in omega arith) rise) (λ _. rise)

pub early-rise : (best : Option ℕ) (n : ℕ) (ts : List (Option ℕ)) → AllPairs (λ (x y : Reach). x.stop < y.stop) (early_from best n ts)
early-rise best n [] = AllPairs-nil (λ (x y : Reach). x.stop < y.stop)
early-rise best n (x ∷ ts) = rise-front best n ts (early-rise best (suc n) ts) x

-- below the first number there is none
below-none : (xs : List Reach) (n b : ℕ) → All (λ (x : Reach). n ≤ x.stop) xs → b < n → time_in xs b ≡ None
below-none [] n b above l = refl
below-none (x ∷ xs) n b above l =
    let here = above 0 x (omega arith) in
    rw (ne_eqb x.stop b (λ same. omega arith)) (below-none xs n b (λ i c m. above (suc i) c (omega arith)) l)

-- the time beside a stop is that of its row, if it is early
early-time : Option ℕ → Option ℕ → Option ℕ
early-time best None = None
early-time best (Some t) = cond (option_map_or (λ at. nat_lt t at) best true) (Some t) None

in-front : (best : Option ℕ) (n : ℕ) (x : Option ℕ) (rest : List Reach) → time_in rest n ≡ None → time_in (early_stop best n x ++ rest) n ≡ early-time best x
unfolding early-time
in-front best n None rest none = none
in-front best n (Some t) rest none = elim (cases_Bool (option_map_or (λ at. nat_lt t at) best true)) [
  | inl early ↦ rw (early, eq-eqb n n refl) refl
  | inr late ↦ rw late none
]

in-rest : (best : Option ℕ) (n b : ℕ) (x : Option ℕ) (rest : List Reach) → n < b → time_in (early_stop best n x ++ rest) b ≡ time_in rest b
in-rest best n b None rest l = refl
in-rest best n b (Some t) rest l = elim (cases_Bool (option_map_or (λ at. nat_lt t at) best true)) [
  | inl early ↦ rw (early, ne_eqb n b (λ same. omega arith)) refl
  | inr late ↦ rw late refl
]

time-from : (best : Option ℕ) (n : ℕ) (ts : List (Option ℕ)) (b : ℕ) → time_in (early_from best n ts) (n + b) ≡ early-time best (time_at ts b)
unfolding early-time
time-from best n [] b = refl
time-from best n (x ∷ ts) zero =
    let same : n + 0 ≡ n = omega arith in
    ap (time_in (early_from best n (x ∷ ts))) same ∙ in-front best n x (early_from best (suc n) ts) (below-none (early_from best (suc n) ts) (suc n) n (early-above best (suc n) ts) (omega arith))
time-from best n (x ∷ ts) (suc b) =
    let next : n + suc b ≡ suc n + b = omega arith in
    in-rest best n (n + suc b) x (early_from best (suc n) ts) (omega arith) ∙ ap (time_in (early_from best (suc n) ts)) next ∙ time-from best (suc n) ts b

time-early : (best : Option ℕ) (ts : List (Option ℕ)) (b : ℕ) → time_in (early_stops best ts) b ≡ early-time best (time_at ts b)
time-early best ts b = let same : b ≡ 0 + b = omega arith in ap (time_in (early_stops best ts)) same ∙ time-from best 0 ts b

early-only : (best o : Option ℕ) (t : ℕ) → early-time best o ≡ Some t → (o ≡ Some t) × IsEarly best t
unfolding early-time
early-only best None t h = absurd (none-some t h)
early-only best (Some s) t h = elim (cases_Bool (option_map_or (λ at. nat_lt s at) best true)) [
  | inl early ↦ let same : s ≡ t = same_Some s t (rw early at h) in (ap Some same, subst (IsEarly best) same (is-early best s early))
  | inr late ↦ absurd (none-some t (rw late at h))
]

only-early : (best o : Option ℕ) (t : ℕ) → o ≡ Some t → IsEarly best t → early-time best o ≡ Some t
unfolding early-time
only-early best o t is early = rw is (rw (early-is best t early) refl)

-- they are the early part of what is held
pub early-part : (best : Option ℕ) (ts : List (Option ℕ)) → IsEarlyPart best (time_at ts) (early_stops best ts)
early-part best ts b t = (
  λ h. early-only best (time_at ts b) t (sym (time-early best ts b) ∙ h),
  λ h. time-early best ts b ∙ only-early best (time_at ts b) t h.0 h.1,
)

pub early-are : (nw : Network) (best : Option ℕ) (ts : List (Option ℕ)) → ((b t : ℕ) → time_at ts b ≡ Some t → is_stop nw.stops b ≡ true) → AreEarlyStops nw best (early_stops best ts)
early-are nw best ts stops = (
  early-rise best 0 ts,
  early-each (IsEarlyStop nw best) best 0 ts (λ b t at early. let same : b ≡ 0 + b = omega arith in (subst (λ b. is_stop nw.stops b ≡ true) same (stops b t at), early)),
)

-- where nothing is held there are none
pub early-none : (best : Option ℕ) (n m : ℕ) → early_from best m (replicate n None) ≡ []
early-none best zero m = refl
early-none best (suc n) m = early-none best n (suc m)
