-- The bounds of the first rules by the routes that they make wait.
use Rattle.waiting_rules.proofs.Words.{◌≡◌, ℕ, zero, suc, ◌+◌, ◌<◌, ◌≤◌, List, [], ◌∷◌, All, true, false, length, get_or, nat_lt, slice_get, refl, sym, ◌∙◌, ap, subst, arith, Some, None, Option, Ordering, inl, inr, is_at, Less, Equal, Greater, option_cmp, nat_cmp, is_eq, is_lt, ordering_then, cases_lt, lt-ltb, le-ltb, unwrap_or, cases_Bool, Connecting, connecting_cmp}
use Rattle.std.proofs.Common.{◌-◌, slice_range}
use Rattle.std.specs.Cmp.Lexicographic.{options_total}
use Rattle.std.specs.List.Sorted.{IsNonDecreasingBy, IsPartitionPoint, IsPartitionedBy, IsStrictlySortedBy}
use Rattle.std.specs.Ordering.{ordering_index}
use Rattle.std.proofs.lemmas.Cmp.{nat_cmp_total, by_ranked, ranked}
use Rattle.std.proofs.lemmas.List.Sorted.{searchable_from_sorted}
use Rattle.waiting_rules.specs.declared.bounds.Bounds.{Bounds}
use Rattle.waiting_rules.specs.Bounded.{AreInOrder, AreStarts, IsStart, bounds_in}
use Rattle.waiting_rules.specs.Scopes.{row_of, trains}
use Rattle.waiting_rules.proofs.Orders.{connecting_total, field-tied, fields-same}
use Rattle.waiting_rules.proofs.PartLemmas.{not-below}
use Rattle.waiting_rules.proofs.Ranges.{found, missed, lookup-none, lookup-range, rises, range-at, range-within}

abbrev Rows : Type 0
Rows = List (Connecting × Bounds)

-- a route's row tells the route
same-route : (a b : Option ℕ) → row_of a ≡ row_of b → a ≡ b
same-route None None h = refl
same-route None (Some n) h = absurd (omega arith)
same-route (Some m) None h = absurd (omega arith)
same-route (Some m) (Some n) h = ap (λ (k : ℕ). Some k) (omega arith)

then-not : (a b : Ordering) → a ≡ Greater → ordering_then a b ≡ Less → ⊥
then-not Less b h k = cc
then-not Equal b h k = cc
then-not Greater b h k = cc

up : (m n : ℕ) (o : Ordering) → ordering_then (nat_cmp m n) o ≡ Less → m ≤ n
up m n o h = by_ranked (m < n) (m ≡ n) (n < m) (nat_cmp m n) (ranked m n (nat_cmp m n) refl) (λ e p. omega arith) (λ e p. omega arith) (λ e p. absurd (then-not (nat_cmp m n) o e h))

-- the rows rise
rows-up : (a b : Option ℕ) (o : Ordering) → ordering_then (option_cmp nat_cmp a b) o ≡ Less → row_of a ≤ row_of b
rows-up None b o h = omega arith
rows-up (Some m) None o h = absurd (cc)
rows-up (Some m) (Some n) o h = omega (arith, up m n o h)

-- of two places the row of the first is not above
rows-rise : (es : Rows) (i j : ℕ) (d : Connecting × Bounds) → AreInOrder es → i < j → j < length es → row_of (get_or es i d).0.route ≤ row_of (get_or es j d).0.route
rows-rise es i j d s l m = rows-up _ _ _ (rises connecting_cmp es i j d s l m)

pub row-parted : (es : Rows) (row : ℕ) → AreInOrder es → IsPartitionedBy (λ b. nat_lt (row_of b.0.route) row) es
row-parted es row s i j d le l h = elim (cases_lt i j) [
  | inl before ↦
      let up = rows-rise es i j d s before l in
      elim (cases_lt (row_of (get_or es j d).0.route) row) [
        | inl below ↦ lt-ltb _ _ (omega arith)
        | inr above ↦ let none = le-ltb _ _ above in absurd (cc)
      ]
  | inr same ↦ let e : i ≡ j = omega arith in rw e h
]

got : {X : Type 0} (xs : List X) (k : ℕ) (x : X) → Some x ≡ slice_get xs k → (k < length xs) × ((d : X) → get_or xs k d ≡ x)
got [] k x h = absurd (cc)
got (y ∷ ys) zero x h = (omega arith, λ d. ap (λ o. unwrap_or o y) (sym h))
got (y ∷ ys) (suc k) x h = let rest = got ys k x h in (omega (arith, rest.0), rest.1)

-- the rows are those up to the last one's
pub rows-to : (es : Rows) (n : ℕ) (last : Connecting × Bounds) → AreInOrder es → Some last ≡ slice_get es (length es - 1) → n ≡ row_of last.0.route → All (λ b. row_of b.0.route < n + 1) es
rows-to es n last s found is i d l =
    let at = (got es (length es - 1) last found).1 d in
    elim (cases_lt i (length es - 1)) [
      | inl before ↦
          let up = rows-rise es i (length es - 1) d s before (omega arith) in
          let e = ap (λ (b : Connecting × Bounds). row_of b.0.route) at in
          omega arith
      | inr same ↦
          let place : i ≡ length es - 1 = omega arith in
          let e = ap (λ k. row_of (get_or es k d).0.route) place ∙ ap (λ (b : Connecting × Bounds). row_of b.0.route) at in
          omega arith
    ]

apart : (a : Connecting) (route stop : Option ℕ) → (row_of route ≡ row_of a.route → ⊥) → is_eq (connecting_cmp (trains route stop) a) ≡ false
apart a route stop other = elim (cases_Bool (is_eq (connecting_cmp (trains route stop) a))) [
  | inl same ↦ absurd (other (ap row_of (fields-same (trains route stop) a same)))
  | inr not ↦ not
]

below-is : (m n : ℕ) → nat_lt m n ≡ true → m < n
below-is m n h = elim (cases_lt m n) [
  | inl below ↦ below
  | inr above ↦ let none = le-ltb m n above in absurd (cc)
]

above-is : (m n : ℕ) → nat_lt m n ≡ false → n ≤ m
above-is m n h = elim (cases_lt m n) [
  | inl below ↦ let one = lt-ltb m n below in absurd (cc)
  | inr above ↦ above
]

-- what stands at a row's place is where it begins
pub row-start : (es : Rows) (starts : List ℕ) (row k r : ℕ) → AreStarts es starts → k ≡ row → k < length starts → r ≡ get_or starts k r → IsStart es row r
row-start es starts row k r h same l at =
    subst (IsStart es row) (ap (λ n. get_or starts n r) (sym same) ∙ sym at) (h.each row r (omega arith))

pub none-order : AreInOrder []
unfolding IsStrictlySortedBy
none-order = tt

-- where a row begins and the next one does
pub row-order : (es : Rows) (row a b : ℕ) → IsStart es row a → IsStart es (row + 1) b → a ≤ b
row-order es row a b start end = elim (cases_lt b a) [
  | inl past ↦
      let d : Connecting × Bounds = (trains None None, record { part = record { start = 0; end = 0 }; waits = false }) in
      let within = start.within in
      let one = below-is _ _ (start.parted.0 b d (omega arith) past) in
      let two = above-is _ _ (end.parted.1 b d (omega arith) (omega arith)) in
      omega arith
  | inr within ↦ within
]

-- the bounds of a row are those of one route
pub row-route : (es : Rows) (route : Option ℕ) (a b : ℕ) → IsStart es (row_of route) a → IsStart es (row_of route + 1) b → All (λ e. e.0.route ≡ route) (slice_range es a b)
row-route es route a b start end i d l =
    let at = range-within es a b i l in
    let low = above-is _ _ (start.parted.1 (a + i) d (omega arith) at.1) in
    let high = below-is _ _ (end.parted.0 (a + i) d (omega arith) at.0) in
    ap (λ (e : Connecting × Bounds). e.0.route) (range-at es a b i d l) ∙ same-route _ _ (omega arith)

empty-bounds : Option Bounds → Bounds
empty-bounds found = unwrap_or found (record { part = record { start = 0; end = 0 }; waits = false })

pub row-all : (es : Rows) (route stop : Option ℕ) (a b : ℕ) → IsStart es (row_of route) a → IsStart es (row_of route + 1) b → bounds_in (slice_range es a b) (trains route stop) ≡ bounds_in es (trains route stop)
unfolding empty-bounds
row-all es route stop a b start end = ap empty-bounds (lookup-range (is_at (connecting_cmp (trains route stop))) a b es (row-order es (row_of route) a b start end)
    (λ i d k n. let low = below-is _ _ (start.parted.0 i d (omega arith) k) in apart (get_or es i d).0 route stop (λ e. omega arith))
    (λ i d k n. let high = above-is _ _ (end.parted.1 i d k n) in apart (get_or es i d).0 route stop (λ e. omega arith)))

-- a row behind all has no bounds
pub row-past : (es : Rows) (route stop : Option ℕ) (n : ℕ) → All (λ b. row_of b.0.route + 1 < n) es → n ≤ row_of route + 1 → bounds_in [] (trains route stop) ≡ bounds_in es (trains route stop)
unfolding empty-bounds
row-past es route stop n h past =
    ap empty-bounds (lookup-none (is_at (connecting_cmp (trains route stop))) es (λ i d l. let low = h i d l in apart (get_or es i d).0 route stop (λ e. omega arith)))

-- among trains of one route the stops decide
by-stop : (c : Connecting) (route stop : Option ℕ) → c.route ≡ route → option_cmp nat_cmp c.stop stop ≡ connecting_cmp c (trains route stop)
by-stop c route stop h = ap (λ o. ordering_then o (option_cmp nat_cmp c.stop stop)) (sym (field-tied c.route route h))

-- so a binary search by stops is right
pub stops-rise : (es : Rows) (route stop : Option ℕ) → AreInOrder es → All (λ b. b.0.route ≡ route) es → IsNonDecreasingBy (λ b. ordering_index (option_cmp nat_cmp b.0.stop stop)) es
stops-rise es route stop s h =
    searchable_from_sorted (options_total nat_cmp_total) (λ (b : Connecting × Bounds). b.0.stop) es stop (λ k d l m.
    let first = get_or es k d in
    let next = get_or es (k + 1) d in
    ap is_lt ((options_total nat_cmp_total).antisymm next.0.stop first.0.stop)
    ∙ not-below _ (by-stop first.0 next.0.route next.0.stop (h k d (omega arith) ∙ sym (h (k + 1) d m)) ∙ rises connecting_cmp es k (k + 1) d s (omega arith) m))

pub bounds-found : (es : Rows) (route stop : Option ℕ) (i : ℕ) (d : Connecting × Bounds) → AreInOrder es → All (λ b. b.0.route ≡ route) es → i < length es → option_cmp nat_cmp (get_or es i d).0.stop stop ≡ Equal → (get_or es i d).1 ≡ bounds_in es (trains route stop)
unfolding empty-bounds
bounds-found es route stop i d s h l e =
    ap empty-bounds (found connecting_total es (trains route stop) i d s l (sym (by-stop (get_or es i d).0 route stop (h i d l)) ∙ e))

pub bounds-missed : (es : Rows) (route stop : Option ℕ) (n : ℕ) → All (λ b. b.0.route ≡ route) es → IsPartitionPoint (λ b. option_cmp nat_cmp b.0.stop stop ≡ Less) (λ b. option_cmp nat_cmp b.0.stop stop ≡ Greater) es n → record { part = record { start = 0; end = 0 }; waits = false } ≡ bounds_in es (trains route stop)
unfolding empty-bounds
bounds-missed es route stop n h parted =
    ap empty-bounds (missed connecting_total es (trains route stop) n
    (λ i d l k. sym (by-stop (get_or es i d).0 route stop (h i d l)) ∙ parted.0 i d (omega arith) k)
    (λ i d l k. sym (by-stop (get_or es i d).0 route stop (h i d l)) ∙ parted.1 i d k l))
