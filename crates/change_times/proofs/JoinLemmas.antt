-- A possible change joins two locations that are near each other.
use Rattle.change_times.proofs.Words.{◌≡◌, ℕ, ◌<◌, List, [], ◌∷◌, Bool, true, ◌&&◌, nat_eq, find, map, length, Option, None, Some, refl, sym, subst, ◌∙◌, ap, arith, inl, inr, ◌⊎◌, cases_Bool, and_parts, eqb-true, eq-eqb, get_or-map, length-map, All-contains, if◌then◌else◌, cond, Contains, filter, flat_map, option_map_or, option_or, StopRow, TransferRow, station, is_looked_at, is_row_of, first_row, change_by, change, Contains-cases, Contains-filter, Link, Onward, Back, Nearby, ChangeTables, other_of, with_members, allows, has_default, own_members, near, link_of, HaveMembers, AreOf}
use Rattle.std.specs.Prelude.{is_none}
use Rattle.std.proofs.lemmas.List.Elements.{Contains-append_left, Contains-append_right}
use Rattle.delay_model.specs.Changes.{change_without_row}
use Rattle.delay_model.proofs.Lists.{Contains-there}
use Rattle.change_times.specs.Near.{others, linked}
use Rattle.change_times.specs.Stored.{is_at}

-- the location itself, or its station
abbrev pub IsEnd : List StopRow → ℕ → ℕ → Type 0
IsEnd stops a x = (x ≡ a) ⊎ (x ≡ station stops a)

-- two locations are of one station, and no row names one of them with it or it with itself
pub record AreOwn (t : ChangeTables) (a b : ℕ) : Type 0 where
  pub same : station t.stops a ≡ station t.stops b
  pub onward : first_row t.stops t.transfers a (station t.stops b) ≡ None
  pub back : first_row t.stops t.transfers (station t.stops a) b ≡ None
  pub stations : first_row t.stops t.transfers (station t.stops a) (station t.stops b) ≡ None

-- two locations are of one station, or a row by which a change is possible leads from the one or its station to the other or its station
abbrev pub AreJoined : ChangeTables → ℕ → ℕ → Type 0
AreJoined t a b =
    AreOwn t a b ⊎ ((row : TransferRow) × Contains t.transfers row × (allows row ≡ true) × IsEnd t.stops a row.from_stop × IsEnd t.stops b row.to_stop)

found-here : {X : Type 0} (p : X → Bool) (xs : List X) (x : X) → find p xs ≡ Some x → Contains xs x × (p x ≡ true)
found-here p [] x e = absurd (cc)
found-here p (y ∷ ys) x e =
    elim (cases_Bool (p y)) [
      | inl h ↦
          let s : Some y ≡ Some x = sym (ap (λ b. cond b (Some y) (find p ys)) h) ∙ e in
          let same : y ≡ x = cc in
          ((0, omega arith, same), subst (λ z. p z ≡ true) same h)
      | inr h ↦
          let r = found-here p ys x (sym (ap (λ b. cond b (Some y) (find p ys)) h) ∙ e) in
          (Contains-there y ys x r.0, r.1)
    ]

end-same : (stops : List StopRow) (a x y : ℕ) → y ≡ x → IsEnd stops a x → IsEnd stops a y
end-same stops a x y e h = subst (IsEnd stops a) (sym e) h

-- a row by which a change takes some time allows it
allowing : (default s : ℕ) (row : TransferRow) → change_by default row ≡ Some s → allows row ≡ true
allowing default s row e = elim (cases_Bool (nat_eq row.kind 3)) [
  | inl h ↦ let none = rw h at e in absurd (cc)
  | inr h ↦ rw h refl
]

first-joins : (t : ChangeTables) (a b x y s : ℕ) (row : TransferRow) → first_row t.stops t.transfers x y ≡ Some row → change_by t.default row ≡ Some s → IsEnd t.stops a x → IsEnd t.stops b y → AreJoined t a b
first-joins t a b x y s row e possible ha hb =
    let found = found-here (is_row_of t.stops x y) t.transfers row e in
    let pair = and_parts (nat_eq row.from_stop x && nat_eq row.to_stop y) (is_looked_at t.stops row) found.1 in
    let ends = and_parts (nat_eq row.from_stop x) (nat_eq row.to_stop y) pair.0 in
    inr (row, found.0, allowing t.default s row possible, end-same t.stops a x row.from_stop (eqb-true _ _ ends.0) ha, end-same t.stops b y row.to_stop (eqb-true _ _ ends.1) hb)

-- what a choice of four gives, one of them gives, or else the last
four-cases : {X Y : Type 0} (f : X → Option Y) (o1 o2 o3 o4 : Option X) (d : Option Y) (y : Y) → option_map_or f (option_or o1 (option_or o2 (option_or o3 o4))) d ≡ Some y → ((x : X) × (o1 ≡ Some x) × (f x ≡ Some y)) ⊎ (((x : X) × (o2 ≡ Some x) × (f x ≡ Some y)) ⊎ (((x : X) × (o3 ≡ Some x) × (f x ≡ Some y)) ⊎ (((x : X) × (o4 ≡ Some x) × (f x ≡ Some y)) ⊎ ((d ≡ Some y) × (o2 ≡ None) × (o3 ≡ None) × (o4 ≡ None)))))
four-cases f (Some x) o2 o3 o4 d y e = inl (x, refl, e)
four-cases f None (Some x) o3 o4 d y e = inr (inl (x, refl, e))
four-cases f None None (Some x) o4 d y e = inr (inr (inl (x, refl, e)))
four-cases f None None None (Some x) d y e = inr (inr (inr (inl (x, refl, e))))
four-cases f None None None None d y e = inr (inr (inr (inr (e, refl, refl, refl))))

one-station : (a b default s : ℕ) → (if nat_eq a b then Some default else None) ≡ Some s → a ≡ b
one-station a b default s e =
    elim (cases_Bool (nat_eq a b)) [
      | inl h ↦ eqb-true a b h
      | inr h ↦ let n : None ≡ Some s = sym (ap (λ c. if c then Some default else None) h) ∙ e in absurd (cc)
    ]

pub change-joins : (t : ChangeTables) (a b s : ℕ) → change t.stops t.transfers t.default a b ≡ Some s → AreJoined t a b
unfolding change
change-joins t a b s e =
    let first = first_row t.stops t.transfers in
    let at = station t.stops in
    elim (four-cases (change_by t.default) (first a b) (first a (at b)) (first (at a) b) (first (at a) (at b)) (change_without_row t.stops t.default a b) s e) [
      | inl r ↦ first-joins t a b a b s r.0 r.1 r.2 (inl refl) (inl refl)
      | inr o2 ↦
          elim o2 [
            | inl r ↦ first-joins t a b a (at b) s r.0 r.1 r.2 (inl refl) (inr refl)
            | inr o3 ↦
                elim o3 [
                  | inl r ↦ first-joins t a b (at a) b s r.0 r.1 r.2 (inr refl) (inl refl)
                  | inr o4 ↦
                      elim o4 [
                        | inl r ↦ first-joins t a b (at a) (at b) s r.0 r.1 r.2 (inr refl) (inr refl)
                        | inr d ↦ inl (record { same = one-station (at a) (at b) t.default s d.0; onward = d.1; back = d.2; stations = d.3 })
                      ]
                ]
          ]
    ]

Contains-map : {X Y : Type 0} (f : X → Y) (xs : List X) (x : X) → Contains xs x → Contains (map f xs) (f x)
Contains-map f xs x h = (h.0, omega (arith, length-map xs f, h.1), get_or-map f xs h.0 x (f x) h.1 ∙ ap f h.2)

Contains-flat_map : {X Y : Type 0} (f : X → List Y) (xs : List X) (x : X) (y : Y) → Contains xs x → Contains (f x) y → Contains (flat_map f xs) y
Contains-flat_map f [] x y h there = let l = h.1 in absurd (omega (arith, l))
Contains-flat_map f (z ∷ xs) x y h there =
    elim (Contains-cases z xs x h) [
      | inl e ↦ Contains-append_left (f z) (flat_map f xs) y (subst (λ w. Contains (f w) y) (sym e) there)
      | inr c ↦ Contains-append_right (f z) (flat_map f xs) y (Contains-flat_map f xs x y c there)
    ]

-- the second of a pair is among those that are paired with the first
others-have : (links : List Link) (link : Link) (p : ℕ) → Contains links link → link.place ≡ p → Contains (others links p) link.other
others-have links link p h e = Contains-map other_of (filter (is_at p) links) link (Contains-filter (is_at p) links link h (eq-eqb link.place p e))

linked-have : (members links : List Link) (link : Link) (p b : ℕ) → Contains links link → link.place ≡ p → Contains (with_members members link) b → Contains (linked members links p) b
linked-have members links link p b h e there =
    Contains-flat_map (with_members members) (filter (is_at p) links) link b (Contains-filter (is_at p) links link h (eq-eqb link.place p e)) there

-- a location, or a place of which it is the station, leads to what is paired with it
end-have : (stops : List StopRow) (members : List Link) (link : Link) (b : ℕ) → HaveMembers stops members → b < length stops → IsEnd stops b link.other → Contains (with_members members link) b
end-have stops members link b h l (inl e) = (0, omega arith, e)
end-have stops members link b h l (inr e) =
    Contains-there link.other (others members link.other) b (others-have members (record { place = station stops b; other = b }) link.other (h b l) (sym e))

near-have : (stops : List StopRow) (members links : List Link) (link : Link) (own : Bool) (a b : ℕ) → HaveMembers stops members → b < length stops → Contains links link → IsEnd stops a link.place → IsEnd stops b link.other → Contains (near members links a (station stops a) own) b
near-have stops members links link own a b h l there (inl e) eb =
    Contains-append_right (own_members members (station stops a) own) _ b (Contains-append_left (linked members links a) _ b (linked-have members links link a b there e (end-have stops members link b h l eb)))
near-have stops members links link own a b h l there (inr e) eb =
    Contains-append_right (own_members members (station stops a) own) _ b (Contains-append_right (linked members links a) _ b (linked-have members links link (station stops a) b there e (end-have stops members link b h l eb)))

station-have : (stops : List StopRow) (members links : List Link) (own : Bool) (a b : ℕ) → HaveMembers stops members → b < length stops → own ≡ true → station stops b ≡ station stops a → Contains (near members links a (station stops a) own) b
station-have stops members links own a b h l yes_own e =
    Contains-append_left (own_members members (station stops a) own) _ b
    (subst (λ o. Contains (own_members members (station stops a) o) b) (sym yes_own) (others-have members (record { place = station stops b; other = b }) (station stops a) (h b l) e))

-- within a station that no row decides on, the default does
own-onward : (t : ChangeTables) (a b : ℕ) → AreOwn t a b → has_default t Onward a (station t.stops a) ≡ true
own-onward t a b h =
    ap (λ s. is_none (first_row t.stops t.transfers a s) && is_none (first_row t.stops t.transfers (station t.stops a) s)) h.same
    ∙ (λ i. is_none (h.onward i) && is_none (h.stations i))

own-back : (t : ChangeTables) (a b : ℕ) → AreOwn t a b → has_default t Back b (station t.stops b) ≡ true
own-back t a b h =
    ap (λ s. is_none (first_row t.stops t.transfers s b) && is_none (first_row t.stops t.transfers s (station t.stops b))) (sym h.same)
    ∙ (λ i. is_none (h.back i) && is_none (h.stations i))

pub near-onward : (t : ChangeTables) (nearby : Nearby) (a b : ℕ) → AreOf t nearby → b < length t.stops → AreJoined t a b → Contains (near nearby.members nearby.onward a (station t.stops a) (has_default t Onward a (station t.stops a))) b
near-onward t nearby a b h l (inl e) = station-have t.stops nearby.members nearby.onward (has_default t Onward a (station t.stops a)) a b h.members l (own-onward t a b e) (sym e.same)
near-onward t nearby a b h l (inr r) =
    near-have t.stops nearby.members nearby.onward (link_of Onward r.0) (has_default t Onward a (station t.stops a)) a b h.members l (All-contains (λ row. Contains nearby.onward (link_of Onward row)) (filter allows t.transfers) r.0 h.onward (Contains-filter allows t.transfers r.0 r.1 r.2)) r.3 r.4

pub near-back : (t : ChangeTables) (nearby : Nearby) (a b : ℕ) → AreOf t nearby → a < length t.stops → AreJoined t a b → Contains (near nearby.members nearby.back b (station t.stops b) (has_default t Back b (station t.stops b))) a
near-back t nearby a b h l (inl e) = station-have t.stops nearby.members nearby.back (has_default t Back b (station t.stops b)) b a h.members l (own-back t a b e) e.same
near-back t nearby a b h l (inr r) =
    near-have t.stops nearby.members nearby.back (link_of Back r.0) (has_default t Back b (station t.stops b)) b a h.members l (All-contains (λ row. Contains nearby.back (link_of Back row)) (filter allows t.transfers) r.0 h.back (Contains-filter allows t.transfers r.0 r.1 r.2)) r.4 r.3
