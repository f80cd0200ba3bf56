-- Departures that get their places as numbers, one after another.
use Rattle.dep_order.proofs.Words.{◌≡◌, ℕ, zero, suc, ◌+◌, ◌<◌, List, [], ◌∷◌, ◌++◌, Option, None, Some, false, refl, sym, ap, arith, All, inl, inr, cases_Bool, slice_get_within, is_of_call, departures_in_order, get_or, length, map, set, replicate, slice_get, Departure, departures_of, held, length-replicate}
use Rattle.std.specs.List.{AllPairs}
use Rattle.dep_order.specs.Loaded.{first_loaded}
use Rattle.dep_order.proofs.BuildLemmas.{none-held}
use Rattle.dep_order.proofs.NumberLemmas.{call-is, of-call}
use Rattle.dep_order.proofs.OneOrder.{in-at}
use Rattle.dep_order.proofs.PlaceLemmas.{found}

pub load-start : (ds : List Departure) (spare : ℕ) → replicate (length ds + spare) None ≡ first_loaded zero ds spare
load-start [] spare = let e : zero + spare ≡ spare = omega arith in rw e refl
load-start (d ∷ ds) spare =
    let e : suc (length ds) + spare ≡ suc (length ds + spare) = omega arith in
    rw e (ap (λ es. None ∷ es) (load-start ds spare))

pub load-length : (i : ℕ) (ds : List Departure) (spare : ℕ) → length (first_loaded i ds spare) ≡ length ds + spare
load-length i [] spare = let none : Option Departure = None in let e = length-replicate spare none in omega arith
load-length zero (d ∷ ds) spare = let rest = load-length zero ds spare in omega arith
load-length (suc i) (d ∷ ds) spare = let rest = load-length i ds spare in omega arith

pub load-next : (i : ℕ) (ds : List Departure) (spare : ℕ) (d : Departure) → i < length ds → d ≡ get_or ds i d → set (first_loaded i ds spare) i (Some d) ≡ first_loaded (suc i) ds spare
load-next i [] spare e l at = absurd (omega arith)
load-next zero (d ∷ ds) spare e l at = ap (λ x. Some x ∷ first_loaded zero ds spare) at
load-next (suc i) (d ∷ ds) spare e l at = ap (λ es. Some d ∷ es) (load-next i ds spare e (omega arith) at)

pub load-held : (i : ℕ) (ds : List Departure) (spare j : ℕ) (d : Departure) → held (first_loaded i ds spare) j ≡ Some d → (j < i) × (slice_get ds j ≡ Some d)
load-held i [] spare j d h = let none = none-held spare j in absurd (cc)
load-held zero (e ∷ ds) spare zero d h = absurd (cc)
load-held zero (e ∷ ds) spare (suc j) d h = let r = load-held zero ds spare j d h in absurd (omega (arith, r.0))
load-held (suc i) (e ∷ ds) spare zero d h = (omega arith, h)
load-held (suc i) (e ∷ ds) spare (suc j) d h = let r = load-held i ds spare j d h in (omega (arith, r.0), r.1)

none-of : (n : ℕ) → departures_of (replicate n None) ≡ []
none-of zero = refl
none-of (suc n) = none-of n

pub load-all : (ds : List Departure) (spare : ℕ) → departures_of (first_loaded (length ds) ds spare) ≡ ds
load-all [] spare = none-of spare
load-all (d ∷ ds) spare = ap (λ es. d ∷ es) (load-all ds spare)

-- all of them, with the numbers that are left behind them
pub load-end : (ds : List Departure) (spare : ℕ) → first_loaded (length ds) ds spare ≡ map (λ d. Some d) ds ++ replicate spare None
load-end [] spare = refl
load-end (d ∷ ds) spare = ap (λ es. Some d ∷ es) (load-end ds spare)

get-or : (ds : List Departure) (i : ℕ) (f d : Departure) → slice_get ds i ≡ Some f → get_or ds i d ≡ f
get-or [] i f d h = absurd (cc)
get-or (x ∷ ds) zero f d h = cc
get-or (x ∷ ds) (suc i) f d h = get-or ds i f d h

other-call : (a b : Departure) → is_of_call a.key.train a.key.label b ≡ false → is_of_call b.key.train b.key.label a ≡ false
other-call a b h =
    elim (cases_Bool (is_of_call b.key.train b.key.label a)) [
      | inl t ↦ (
          let c = call-is b.key.train b.key.label a t in
          let own = of-call a.key.train a.key.label b (sym c.0) (sym c.1) in
          absurd (cc))
      | inr f ↦ f
    ]

-- the next of them is of another call than those before
pub load-new : (ds : List Departure) (spare i : ℕ) (d : Departure) → i < length ds → d ≡ get_or ds i d → AllPairs (λ a b. is_of_call a.key.train a.key.label b ≡ false) ds → All (λ e. is_of_call d.key.train d.key.label e ≡ false) (departures_in_order (first_loaded i ds spare))
load-new ds spare i d l at apart = λ k e low.
    let es = first_loaded i ds spare in
    let f = get_or (departures_in_order es) k e in
    let r = found es f (in-at (departures_in_order es) k e low) in
    let s = load-held i ds spare r.0 f r.1 in
    let there = slice_get_within ds r.0 f s.1 in
    let own : get_or ds r.0 d ≡ f = get-or ds r.0 f d s.1 in
    other-call f d (rw (own, ← at) at (apart r.0 i d s.0 l))

-- as many as there are numbers for
pub load-room : (ds : List Departure) (spare i : ℕ) (es : List (Option Departure)) → es ≡ first_loaded i ds spare → i < length ds → i < length es
load-room ds spare i es e l = rw e (omega (arith, load-length i ds spare))
