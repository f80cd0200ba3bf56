-- The lists of changes: where they lead, and that they lead everywhere.
use Rattle.conn_scan.proofs.Words.{◌≡◌, ℕ, zero, suc, ◌+◌, ◌-◌, ◌≤◌, ◌<◌, Bool, true, false, nat_eq, List, [], ◌∷◌, Option, Some, None, length, refl, sym, ◌∙◌, ap, subst, inl, inr, arith, All, Contains, cons_option, filter_map, range_with_len, option_map, cases_Bool, none-some, same_Some, All-cons, All-nil, Query, StopRow, Network, is_stop, change, station, IsInTime, ChangeTables, Change, change_to, places, reached, at_origin, cond, cond_both, improved, lowered, place_at_origin, Openings}
use Rattle.std.proofs.lemmas.List.FromFn.{get_or-range_with_len, length-range_with_len}
use Rattle.delay_model.proofs.Lists.{Contains-cases, Contains-there}
use Rattle.conn_scan.proofs.OpeningsLemmas.{length-rides, length-times}

-- the change times of a network
abbrev pub changes_of : Network → ChangeTables
changes_of nw = record { stops = nw.stops; transfers = nw.transfers; default = nw.opts.change }

pub tables-are : (t : ChangeTables) (graph nw : Network) → t.stops ≡ graph.stops → t.transfers ≡ graph.transfers → t.default ≡ graph.opts.change → graph ≡ nw → t ≡ changes_of nw
tables-are t graph nw stops transfers default same = (λ i. record { stops = stops i; transfers = transfers i; default = default i }) ∙ ap changes_of same

still-there : {Y : Type 0} (o : Option Y) (ys : List Y) (y : Y) → Contains ys y → Contains (cons_option o ys) y
still-there None ys y there = there
still-there (Some z) ys y there = Contains-there z ys y there

filter_map-there : {X Y : Type 0} (f : X → Option Y) (xs : List X) (x : X) (y : Y) → Contains xs x → f x ≡ Some y → Contains (filter_map f xs) y
filter_map-there f [] x y there found = let l = there.1 in absurd (omega arith)
filter_map-there f (w ∷ xs) x y there found =
    elim (Contains-cases w xs x there) [
      | inl here ↦ subst (λ o. Contains (cons_option o (filter_map f xs)) y) (sym (ap f here ∙ found)) (0, omega arith, refl)
      | inr later ↦ still-there (f w) (filter_map f xs) y (filter_map-there f xs x y later found)
    ]

cons-each : {Y : Type 0} (P : Y → Type 0) (o : Option Y) (ys : List Y) → ((y : Y) → o ≡ Some y → P y) → All P ys → All P (cons_option o ys)
cons-each P None ys h k = k
cons-each P (Some y) ys h k = All-cons P y ys (h y refl) k

filter_map-each : {X Y : Type 0} (P : Y → Type 0) (f : X → Option Y) (xs : List X) → ((x : X) (y : Y) → Contains xs x → f x ≡ Some y → P y) → All P (filter_map f xs)
filter_map-each P f [] h = All-nil P
filter_map-each P f (x ∷ xs) h = cons-each P (f x) (filter_map f xs) (λ y. h x y (0, omega arith, refl)) (filter_map-each P f xs (λ w y there. h w y (Contains-there x xs w there)))

pub stop-within : (stops : List StopRow) (b : ℕ) → is_stop stops b ≡ true → b < length stops
stop-within [] b h = absurd (cc)
stop-within (s ∷ stops) zero h = omega arith
stop-within (s ∷ stops) (suc b) h = let l = stop-within stops b h in omega arith

place-there : (t : ChangeTables) (b : ℕ) → b < length t.stops → Contains (places t) b
place-there t b within = let all = length-range_with_len 0 (length t.stops) in (b, omega arith, get_or-range_with_len 0 (length t.stops) b b within ∙ omega arith)

place-within : (t : ChangeTables) (b : ℕ) → Contains (places t) b → b < length t.stops
place-within t b there =
    let all = length-range_with_len 0 (length t.stops) in
    let l = there.1 in
    let at = get_or-range_with_len 0 (length t.stops) there.0 b (omega arith) in
    let is : b ≡ there.0 = sym there.2 ∙ at ∙ omega arith in
    omega arith

-- a change to a stop, of so many seconds
pub record IsChange (t : ChangeTables) (a : ℕ) (c : Change) : Type 0 where
  pub stop : is_stop t.stops c.stop ≡ true
  pub change : change t.stops t.transfers t.default a c.stop ≡ Some c.seconds

made-change : (t : ChangeTables) (a b : ℕ) (c : Change) (o : Option ℕ) → is_stop t.stops b ≡ true → change t.stops t.transfers t.default a b ≡ o → option_map (λ s. record { stop = b; seconds = s }) o ≡ Some c → IsChange t a c
made-change t a b c None stop at made = absurd (none-some c made)
made-change t a b c (Some s) stop at made = subst (IsChange t a) (same_Some (record { stop = b; seconds = s }) c made) (record { stop = stop; change = at })

is-change : (t : ChangeTables) (a b : ℕ) (c : Change) → change_to t a b ≡ Some c → IsChange t a c
is-change t a b c made = elim (cases_Bool (is_stop t.stops b)) [
  | inl stop ↦ made-change t a b c (change t.stops t.transfers t.default a b) stop refl (rw stop at made)
  | inr other ↦ absurd (none-some c (rw other at made))
]

-- each of the changes from a place leads to a stop
pub reached-each : (t : ChangeTables) (a : ℕ) → All (IsChange t a) (reached t a)
unfolding reached
reached-each t a = filter_map-each (IsChange t a) (change_to t a) (places t) (λ b c there made. is-change t a b c made)

pub reached-within : (t : ChangeTables) (a n : ℕ) → length t.stops ≤ n → All (λ (c : Change). c.stop < n) (reached t a)
reached-within t a n room = λ k d l. let within = stop-within t.stops _ (reached-each t a k d l).stop in omega arith

-- each change to a stop is among them
pub change-listed : (t : ChangeTables) (a b w : ℕ) → is_stop t.stops b ≡ true → change t.stops t.transfers t.default a b ≡ Some w → Contains (reached t a) (record { stop = b; seconds = w })
unfolding reached
change-listed t a b w stop at =
    filter_map-there (change_to t a) (places t) b (record { stop = b; seconds = w }) (place-there t b (stop-within t.stops b stop)) (rw (stop, at))

-- a place of the origin's station, where one need not change
pub record IsAtOrigin (t : ChangeTables) (q : Query) (c : Change) : Type 0 where
  pub within : c.stop < length t.stops
  pub station : nat_eq (station t.stops c.stop) (station t.stops q.from_stop) ≡ true
  pub seconds : c.seconds ≡ 0

at-origin-is : (t : ChangeTables) (q : Query) (b : ℕ) (c : Change) → b < length t.stops → place_at_origin t q b ≡ Some c → IsAtOrigin t q c
at-origin-is t q b c within made = elim (cases_Bool (nat_eq (station t.stops b) (station t.stops q.from_stop))) [
  | inl one ↦ subst (IsAtOrigin t q) (same_Some (record { stop = b; seconds = 0 }) c (rw one at made)) (record { within = within; station = one; seconds = refl })
  | inr other ↦ absurd (none-some c (rw other at made))
]

pub at_origin-each : (t : ChangeTables) (q : Query) → All (IsAtOrigin t q) (at_origin t q)
at_origin-each t q = filter_map-each (IsAtOrigin t q) (place_at_origin t q) (places t) (λ b c there made. at-origin-is t q b c (place-within t b there) made)

pub at_origin-listed : (t : ChangeTables) (q : Query) (b : ℕ) → b < length t.stops → nat_eq (station t.stops b) (station t.stops q.from_stop) ≡ true → Contains (at_origin t q) (record { stop = b; seconds = 0 })
at_origin-listed t q b within one = filter_map-there (place_at_origin t q) (places t) b (record { stop = b; seconds = 0 }) (place-there t b within) (rw one)

-- the places that are left of a range
abbrev pub left_of : ℕ → ℕ → List ℕ
left_of n end = range_with_len n (end - n)

pub left-next : (n end : ℕ) → n < end → left_of n end ≡ n ∷ left_of (n + 1) end
left-next n end l = let size : end - n ≡ suc (end - (n + 1)) = omega arith in rw size

pub left-none : (n end : ℕ) → end ≤ n → left_of n end ≡ []
left-none n end l = let size : end - n ≡ 0 = omega arith in rw size

-- one place more is opened, if it is of the origin's station
pub open-step : (t : ChangeTables) (q : Query) (n : ℕ) (rest : List ℕ) (ls : Openings) (x : Bool) → nat_eq (station t.stops n) (station t.stops q.from_stop) ≡ x → lowered q.time None (filter_map (place_at_origin t q) (n ∷ rest)) ls ≡ lowered q.time None (filter_map (place_at_origin t q) rest) (cond x (improved n q.time None ls) ls)
open-step t q n rest ls true is = let same : q.time + 0 ≡ q.time = omega arith in rw is (ap (λ s. lowered q.time None (filter_map (place_at_origin t q) rest) (improved n s None ls)) same)
open-step t q n rest ls false is = rw is refl

-- the places are opened that are before place n
abbrev pub IsOpening : ChangeTables → Query → Openings → ℕ → ℕ → Openings → Type 0
IsOpening t q first end n ls =
    (lowered q.time None (filter_map (place_at_origin t q) (left_of n end)) ls ≡ lowered q.time None (at_origin t q) first)
    × (end ≡ length t.stops) × (length ls.times ≡ length first.times) × (length ls.rides ≡ length first.rides)

pub opens-next : (t : ChangeTables) (q : Query) (first old new : Openings) (end n : ℕ) (x : Bool) → n < end → nat_eq (station t.stops n) (station t.stops q.from_stop) ≡ x → new ≡ cond x (improved n q.time None old) old → IsOpening t q first end n old → IsOpening t q first end (n + 1) new
opens-next t q first old new end n x l is made h = rw made (
  sym (open-step t q n (left_of (n + 1) end) old x is) ∙ ap (λ ns. lowered q.time None (filter_map (place_at_origin t q) ns) old) (sym (left-next n end l)) ∙ h.0,
  h.1,
  cond_both x (improved n q.time None old) old (λ (ls : Openings). length ls.times ≡ length first.times) (λ _. length-times n q.time None old ∙ h.2) (λ _. h.2),
  cond_both x (improved n q.time None old) old (λ (ls : Openings). length ls.rides ≡ length first.rides) (λ _. length-rides n q.time None old ∙ h.3) (λ _. h.3),
)
