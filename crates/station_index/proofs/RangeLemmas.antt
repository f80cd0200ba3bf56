-- What comes next in a range.
use Rattle.station_index.proofs.Words.{◌≡◌, ℕ, ◌+◌, ◌-◌, ◌<◌, ◌≤◌, List, [], ◌∷◌, Bool, true, false, length, get_or, take, drop, map, min, refl, sym, ◌∙◌, ap, arith, All, drop-map, get_or-drop, length-drop, length-map, length-take, between_to_end, All-nil, All-tail, Entry, before_entry-itself, AreInOrder, loaded_left, entry_of, comes_first, kept, merged}
use Rattle.std.proofs.Common.{None, Option, Some}
use Rattle.std.specs.Iterator.{MakesProgress, item_count}
use Rattle.std.specs.Option.{MatchOption}
use Rattle.station_index.specs.declared.range.Range.TheInside.{Inside}
use Rattle.station_index.specs.Ranged.{IsRange}
use Rattle.station_index.proofs.OrderLemmas.{AreInOrder-nil, AreInOrder-tail}
use Rattle.station_index.proofs.PlaceLemmas.{AreInOrder-drop}
use Rattle.station_index.proofs.KeptLemmas.{kept-holds, kept-dead}
use Rattle.station_index.proofs.MergeLemmas.{IsNotBefore, first-before-all, merged-all, merged-first, none-before, with-first}

-- the first of the loaded entries, if there is one, does not come before the added ones
abbrev pub Waits : List Entry → List Entry → Type 0
Waits [] fs = Unit {0}
Waits (x ∷ xs) fs = comes_first x fs ≡ false

kept-first : (x : Entry) (xs : List Entry) (flags : List Bool) → 0 < length flags → get_or flags 0 false ≡ true → kept (x ∷ xs) flags ≡ x ∷ kept xs (drop 1 flags)
kept-first x xs [] l h = absurd (omega arith)
kept-first x xs (true ∷ flags) l h = refl
kept-first x xs (false ∷ flags) l h = cc

-- a live loaded entry that comes first
pub loaded-first : (x : Entry) (xs : List Entry) (flags : List Bool) (fs : List Entry) → 0 < length flags → get_or flags 0 false ≡ true → AreInOrder fs → comes_first x fs ≡ true → merged (kept (x ∷ xs) flags) fs ≡ x ∷ merged (kept xs (drop 1 flags)) fs
loaded-first x xs flags fs l h up first =
    ap (λ es. merged es fs) (kept-first x xs flags l h) ∙ merged-first x (kept xs (drop 1 flags)) fs (first-before-all x fs up first)

waits-all : (es : List Entry) (y : Entry) (ys : List Entry) → AreInOrder es → Waits es (y ∷ ys) → All (IsNotBefore y) es
waits-all [] y ys up h = All-nil (IsNotBefore y)
waits-all (x ∷ xs) y ys up h = none-before y x xs up h

-- an added entry where no loaded one comes first
pub added-first : (es : List Entry) (flags : List Bool) (y : Entry) (ys : List Entry) → AreInOrder es → AreInOrder (y ∷ ys) → Waits es (y ∷ ys) → merged (kept es flags) (y ∷ ys) ≡ y ∷ merged (kept es flags) ys
added-first es flags y ys up high h =
    with-first y (merged (kept es flags) ys)
    (merged-all (IsNotBefore y) (kept es flags) ys (kept-holds (IsNotBefore y) es flags (waits-all es y ys up h)) (All-tail (IsNotBefore y) y ys (none-before y y ys high (before_entry-itself y))))

-- none of either
pub none-left : (es : List Entry) (flags : List Bool) → Waits es [] → merged (kept es flags) [] ≡ []
none-left [] flags h = refl
none-left (x ∷ xs) flags h = cc

-- parts of lists of one length
pub same-length : (i n : ℕ) (es : List Entry) (flags : List Bool) → length flags ≡ length es → length (take n (drop i flags)) ≡ length (take n (drop i es))
same-length i n es flags h =
    length-take n (drop i flags) ∙ ap (min n) (length-drop i flags ∙ ap (λ l. l - i) h ∙ sym (length-drop i es)) ∙ sym (length-take n (drop i es))

empty-is : (es : List Entry) → length es ≡ 0 → es ≡ []
empty-is [] h = refl
empty-is (x ∷ xs) h = absurd (omega arith)

waits-empty : (es fs : List Entry) → length es ≡ 0 → Waits es fs
waits-empty [] fs h = tt
waits-empty (x ∷ xs) fs h = absurd (omega arith)

-- what is left of a list, as a slice gives it
abbrev pub rest_of : {X : Type 0} → ℕ → List X → List X
rest_of n xs = take (length xs - n) (drop n xs)

pub rest-is : {X : Type 0} (n : ℕ) (xs : List X) → rest_of n xs ≡ drop n xs
rest-is n xs = between_to_end xs n (length xs) (omega arith)

-- what is left of the entries of events
pub rest-map : {X : Type 0} (f : X → Entry) (n : ℕ) (xs : List X) → rest_of n (map f xs) ≡ map f (rest_of n xs)
rest-map f n xs = rest-is n (map f xs) ∙ drop-map f n xs ∙ ap (map f) (sym (rest-is n xs))

-- a call that gave the first of what was left, or nothing where nothing was, comes nearer to the end
pub comes-nearer : (left later : List Entry) (r : Option Entry) → MatchOption r ((left ≡ []) × (later ≡ [])) (λ x. left ≡ x ∷ later) → MakesProgress (λ (es : List Entry). Unit {0}) (item_count (λ (es : List Entry). es)) left r later
comes-nearer left later None h = record { on = λ _. tt; keeps = tt; rests = λ _. tt }
comes-nearer left later (Some x) h = let less = ap length h in record { on = λ _. (tt, tt, omega arith); keeps = tt; rests = λ _. tt }

-- what the loaded entries, their flags and the added entries are, and how many loaded ones at the front are not live
pub record IsFront (es : List Entry) (flags : List Bool) (fs : List Entry) (n : ℕ) : Type 0 where
  pub loaded : AreInOrder es
  pub count : length flags ≡ length es
  pub added : AreInOrder fs
  pub within : n ≤ length flags
  pub dead : (k : ℕ) → k < n → get_or flags k true ≡ false
  pub live : n < length flags → get_or flags n false ≡ true

pub front-from : (s : Inside) (n : ℕ) → IsRange s → n ≤ length s.live.now → ((k : ℕ) → k < n → get_or s.live.now k true ≡ false) → (n < length s.live.now → get_or s.live.now n false ≡ true) → IsFront (loaded_left s) s.live.now s.added n
front-from s n h within dead live = record { loaded = h.loaded; count = h.flags ∙ sym (length-map s.loaded.now (entry_of s.stop s.dep)); added = h.added; within = within; dead = dead; live = live }

module _ (es : List Entry) (flags : List Bool) (fs : List Entry) (n : ℕ) (h : IsFront es flags fs n) where
  begins : merged (kept es flags) fs ≡ merged (kept (drop n es) (drop n flags)) fs
  begins = ap (λ xs. merged xs fs) (sym (kept-dead n es flags h.within h.dead))

  -- a loaded entry is next
  module _ (x : Entry) (later : List Entry) (is : rest_of n es ≡ x ∷ later) where
    there : drop n es ≡ x ∷ later
    there = sym (rest-is n es) ∙ is

    more : n + 1 + length later ≡ length es
    more = let count = ap length there in omega (arith, count, length-drop n es)

    pub loaded-step : comes_first x fs ≡ true → merged (kept es flags) fs ≡ x ∷ merged (kept later (rest_of 1 (rest_of n flags))) fs
    loaded-step first =
        let some : 0 < length (drop n flags) = omega (arith, more, h.count, length-drop n flags) in
        let live : get_or (drop n flags) 0 false ≡ true = get_or-drop n flags 0 false ∙ ap (λ i. get_or flags i false) (omega arith) ∙ h.live (omega (arith, more, h.count)) in
        begins ∙ (rw there (loaded-first x later (drop n flags) fs some live h.added first))
        ∙ ap (λ gs. x ∷ merged (kept later gs) fs) (sym (rest-is 1 (rest_of n flags) ∙ ap (drop 1) (rest-is n flags)))

    pub later-ordered : AreInOrder later
    later-ordered = AreInOrder-tail x later (rw there at (AreInOrder-drop n es h.loaded))

    pub later-flags : length (rest_of 1 (rest_of n flags)) ≡ length later
    later-flags = rw (rest-is 1 (rest_of n flags), rest-is n flags) (omega (arith, more, h.count, length-drop n flags, length-drop 1 (drop n flags)))

    pub waits-some : comes_first x fs ≡ false → Waits (drop n es) fs
    waits-some later-comes = rw there later-comes

  pub waits-none : length (rest_of n es) ≡ 0 → Waits (drop n es) fs
  waits-none none = waits-empty (drop n es) fs (ap length (sym (rest-is n es)) ∙ none)

  -- an added entry is next
  pub added-step : (y : Entry) (ys : List Entry) → fs ≡ y ∷ ys → Waits (drop n es) fs → merged (kept es flags) fs ≡ y ∷ merged (kept (rest_of n es) (rest_of n flags)) ys
  added-step y ys is waits =
      let up : AreInOrder (y ∷ ys) = rw is at h.added in
      begins ∙ (rw (is, rest-is n es, rest-is n flags) (added-first (drop n es) (drop n flags) y ys (AreInOrder-drop n es h.loaded) up (rw is at waits)))

  -- none is next
  pub none-step : length fs ≡ 0 → Waits (drop n es) fs → (merged (kept es flags) fs ≡ []) × (merged (kept (rest_of n es) (rest_of n flags)) fs ≡ [])
  none-step none waits =
      let is : fs ≡ [] = empty-is fs none in
      let left : merged (kept (drop n es) (drop n flags)) fs ≡ [] = rw is (none-left (drop n es) (drop n flags) (rw is at waits)) in
      (begins ∙ left, rw (rest-is n es, rest-is n flags) left)

  pub rest-ordered : AreInOrder (rest_of n es)
  rest-ordered = rw rest-is (AreInOrder-drop n es h.loaded)

  pub rest-flags : length (rest_of n flags) ≡ length (rest_of n es)
  rest-flags = rw (rest-is n es, rest-is n flags) (omega (arith, length-drop n flags, length-drop n es, h.count))

  pub added-later : (y : Entry) (ys : List Entry) → fs ≡ y ∷ ys → AreInOrder ys
  added-later y ys is = AreInOrder-tail y ys (rw is at h.added)

  -- what is next of the added entries, if there is one, is next
  pub next-step : (r : Option Entry) (ys : List Entry) → MatchOption r ((fs ≡ []) × (ys ≡ [])) (λ y. fs ≡ y ∷ ys) → Waits (drop n es) fs → MatchOption r ((merged (kept es flags) fs ≡ []) × (merged (kept (rest_of n es) (rest_of n flags)) ys ≡ [])) (λ y. merged (kept es flags) fs ≡ y ∷ merged (kept (rest_of n es) (rest_of n flags)) ys)
  next-step None ys left waits =
      let none = none-step (ap length left.0) waits in
      let same : ys ≡ fs = left.1 ∙ sym left.0 in
      (none.0, rw same none.1)
  next-step (Some y) ys left waits = added-step y ys left waits

  pub next-ordered : (r : Option Entry) (ys : List Entry) → MatchOption r ((fs ≡ []) × (ys ≡ [])) (λ y. fs ≡ y ∷ ys) → AreInOrder ys
  next-ordered None ys left = rw left.1 AreInOrder-nil
  next-ordered (Some y) ys left = added-later y ys left
