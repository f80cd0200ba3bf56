-- The lists of all locations, and how many pairs they have.
use Rattle.change_times.proofs.Words.{◌≡◌, ℕ, zero, suc, ◌+◌, ◌-◌, ◌≤◌, List, [], ◌∷◌, ◌++◌, Bool, true, false, cond, map, length, get_or, refl, sym, subst, ◌∙◌, ap, arith, inl, inr, cases_lt, map-range_with_len_more, get_or-map-range_with_len, length-map-range_with_len, if◌then◌else◌, filter, range_with_len, sum_by, is_stop, is_stop_or_station, Change, Onward, Back, ChangeTables, listed, reached, reached_back, pairs, IsKept}
use Rattle.std.proofs.lemmas.List.{map-id, get_or_past}
use Rattle.std.proofs.lemmas.List.Elements.{filter-append}
use Rattle.std.proofs.lemmas.List.Sums.{sum_by-append}
use Rattle.change_times.proofs.ListedLemmas.{listed-past, no-stop}

-- the stops from which one can change to a stop
pub back-at-stop : (t : ChangeTables) (b : ℕ) → is_stop t.stops b ≡ true → listed t Back b ≡ reached_back t b
unfolding listed reached_back
back-at-stop t b e = sym (ap (λ c. if c then listed t Back b else []) e)

-- no stops are listed for what is no stop
pub back-elsewhere : (t : ChangeTables) (b : ℕ) → is_stop t.stops b ≡ false → reached_back t b ≡ []
unfolding listed reached_back
back-elsewhere t b e = ap (λ c. if c then listed t Back b else []) e

-- the lists of the first locations, by a function that gives the list of each
abbrev pub lists_of : (ℕ → List Change) → ℕ → List (List Change)
lists_of list n = map list (range_with_len 0 n)

pub lists-more : (list : ℕ → List Change) (n : ℕ) → lists_of list (n + 1) ≡ lists_of list n ++ list n ∷ []
lists-more list n = map-range_with_len_more list 0 n n (omega arith)

lists-all : (list : ℕ → List Change) (n a : ℕ) → ((b : ℕ) → n ≤ b → list b ≡ []) → get_or (lists_of list n) a [] ≡ list a
lists-all list n a past =
    elim (cases_lt a n) [
      | inl l ↦ get_or-map-range_with_len list 0 n a a [] l (omega arith)
      | inr l ↦ get_or_past (lists_of list n) a [] (omega (arith, length-map-range_with_len list 0 n, l)) ∙ sym (past a l)
    ]

-- the lists of all locations are those of all numbers
pub onward-all : (t : ChangeTables) (n a : ℕ) → IsKept t → n ≡ length t.stops → get_or (lists_of (listed t Onward) n) a [] ≡ listed t Onward a
onward-all t n a h e = lists-all (listed t Onward) n a (λ b l. listed-past t Onward b h (omega (arith, l, e)))

pub back-all : (t : ChangeTables) (n b : ℕ) → n ≡ length t.stops → get_or (lists_of (reached_back t) n) b [] ≡ reached_back t b
back-all t n b e = lists-all (reached_back t) n b (λ a l. back-elsewhere t a (no-stop t a (omega (arith, l, e))))

-- how many pairs the first locations have
abbrev pub counted : ChangeTables → ℕ → ℕ
counted t n =
    sum_by (λ a. length (listed t Onward a)) (filter (is_stop_or_station t.stops) (range_with_len 0 n))

range-more : (n : ℕ) → range_with_len 0 (n + 1) ≡ range_with_len 0 n ++ n ∷ []
range-more n =
    sym (map-id (range_with_len 0 (n + 1))) ∙ map-range_with_len_more (λ x. x) 0 n n (omega arith)
    ∙ ap (λ xs. xs ++ n ∷ []) (map-id (range_with_len 0 n))

sum-one : (f : ℕ → ℕ) (n : ℕ) (b : Bool) → sum_by f (cond b (n ∷ []) []) ≡ cond b (f n) 0
sum-one f n true = omega arith
sum-one f n false = refl

-- with one more location, its pairs are added if it is a stop or station
pub counted-next : (t : ChangeTables) (n : ℕ) (b : Bool) → is_stop_or_station t.stops n ≡ b → counted t (n + 1) ≡ counted t n + cond b (length (listed t Onward n)) 0
counted-next t n b e =
    let f : ℕ → ℕ = λ a. length (listed t Onward a) in
    let p = is_stop_or_station t.stops in
    ap (λ xs. sum_by f (filter p xs)) (range-more n) ∙ ap (sum_by f) (filter-append p (range_with_len 0 n) (n ∷ []))
    ∙ sum_by-append f (filter p (range_with_len 0 n)) (filter p (n ∷ []))
    ∙ ap (λ c. counted t n + sum_by f (cond c (n ∷ []) [])) e ∙ ap (λ m. counted t n + m) (sum-one f n b)

counted-above : (t : ChangeTables) (m k : ℕ) → counted t m ≤ counted t (k + m)
counted-above t m zero = let e : 0 + m ≡ m = omega arith in subst (λ n. counted t m ≤ counted t n) (sym e) (omega arith)
counted-above t m (suc k) =
    let e : suc k + m ≡ (k + m) + 1 = omega arith in
    let below = counted-above t m k in
    let next = counted-next t (k + m) (is_stop_or_station t.stops (k + m)) refl in
    subst (λ n. counted t m ≤ counted t n) (sym e) (omega (arith, below, next))

pub counted-below : (t : ChangeTables) (m n : ℕ) → m ≤ n → counted t m ≤ counted t n
counted-below t m n l =
    let e : (n - m) + m ≡ n = omega (arith, l) in subst (λ k. counted t m ≤ counted t k) e (counted-above t m (n - m))

pub counted-all : (t : ChangeTables) → counted t (length t.stops) ≡ pairs t
unfolding listed reached pairs
counted-all t = refl

pub onward-is : (t : ChangeTables) (a : ℕ) → listed t Onward a ≡ reached t a
unfolding listed reached
onward-is t a = refl
