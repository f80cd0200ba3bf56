-- Departures that get other times, one event after the other.
use Rattle.timetable.proofs.Words.{◌≡◌, ◌≢◌, suc, ◌+◌, ◌≤◌, Bool, true, false, not, List, [], ◌∷◌, ◌++◌, map, filter, get_or, refl, sym, ◌∙◌, ap, subst, arith}
use Rattle.timetable.proofs.Words.{inl, inr, All, AllPairs, Contains, IsPermutation, cases_Bool, list_any, All-contains, All-contains_itself, All-filter, All-map, All-permutation, All-append, All-cons, All-nil, any-there}
use Rattle.timetable.proofs.Words.{All-tail, All-weaker, AllPairs-nil, AllPairs-cons, AllPairs-tail, AllPairs-after, AllPairs-filter, Contains-permutation, filter_passes, IsPermutation-refl, IsPermutation-sym, IsPermutation-trans, IsPermutation-cons}
use Rattle.timetable.proofs.Words.{IsPermutation-middle, Key, is_same, same-is, same-itself, TimeChange, Departure, AreTimeChanges, departing_then, departs, is_of_one, leaves_before, with_times}
use Rattle.timetable.proofs.Words.{in_order, placed, false_from_ne_true}
use Rattle.std.proofs.lemmas.List.Sorted.{IsPermutation-append}
use Rattle.delay_model.proofs.Lists.{AllPairs-append}
use Rattle.timetable.specs.Departures.{AreInOrder}
use Rattle.propagate.proofs.{Named.any-from, Ordered.filtered}
use Rattle.dep_order.specs.Ordered.{Ordered, at_time, is_of_call, moved, spare}
use Rattle.timetable.specs.Numbers.{AreMoved}
use Rattle.timetable.proofs.Numbers.{moved-on, none-moved}
use Rattle.timetable.proofs.Words.{Event, has_call, IsTrain, Network, and_parts, events, events-unique, live_keys, nat_eq, node_of, eqb-true}
use Rattle.propagate.proofs.{Ordered.keyed-live}
use Rattle.timetable.specs.Moved.{IsOfLive}
use Rattle.timetable.proofs.Words.{◌&&◌, Contains-filter, Contains-map, Contains-there, IsAtCall, State, any-there, count_new, is_new_to}
use Rattle.timetable.proofs.{Departing.call-there, Departing.filter-first, Departing.none-before-itself, Departing.one-in-order, Departing.put-in-order}
use Rattle.propagate.proofs.{Sorted.AllPairs-map, Sorted.in_order-moves}

-- ---- lists

pub filter-all : {X : Type 0} (p : X → Bool) (xs : List X) → All (λ x. p x ≡ true) xs → filter p xs ≡ xs
filter-all p [] h = refl
filter-all p (x ∷ xs) h = rw (h 0 x (omega arith), filter-all p xs (λ i d l. h (suc i) d (omega arith))) refl

filter-cons : {X : Type 0} (p : X → Bool) (x : X) (xs ys : List X) → IsPermutation (filter p xs) (filter p ys) → IsPermutation (filter p (x ∷ xs)) (filter p (x ∷ ys))
filter-cons p x xs ys h = elim (cases_Bool (p x)) [ inl passes ↦ rw passes (IsPermutation-cons x _ _ h) | inr fails ↦ rw fails h ]

filter-swapped : {X : Type 0} (p : X → Bool) (x y : X) (ys : List X) → IsPermutation (filter p (x ∷ y ∷ ys)) (filter p (y ∷ x ∷ ys))
filter-swapped p x y ys =
    elim (cases_Bool (p x)) [
      | inl a ↦ elim (cases_Bool (p y)) [ inl b ↦ rw (a, b) (IsPermutation-middle (x ∷ []) y (filter p ys)) | inr b ↦ rw (a, b) (IsPermutation-refl _) ]
      | inr a ↦ rw a (IsPermutation-refl _)
    ]

filter-placed : {X : Type 0} (lt : X → X → Bool) (p : X → Bool) (x : X) (ys : List X) → IsPermutation (filter p (x ∷ ys)) (filter p (placed lt x ys))
filter-placed lt p x [] = IsPermutation-refl _
filter-placed lt p x (y ∷ ys) =
    elim (cases_Bool (lt x y)) [
      | inl first ↦ rw first (IsPermutation-refl _)
      | inr later ↦ rw later (IsPermutation-trans _ _ _ (filter-swapped p x y ys) (filter-cons p y (x ∷ ys) (placed lt x ys) (filter-placed lt p x ys)))
    ]

filter-in_order : {X : Type 0} (lt : X → X → Bool) (p : X → Bool) (xs : List X) → IsPermutation (filter p xs) (filter p (in_order lt xs))
filter-in_order lt p [] = IsPermutation-refl _
filter-in_order lt p (x ∷ xs) = IsPermutation-trans _ _ _ (filter-cons p x xs (in_order lt xs) (filter-in_order lt p xs)) (filter-placed lt p x (in_order lt xs))

-- ---- departures in their order

rise-differ : (ds : List Departure) → AreInOrder ds → AllPairs (λ a b. a ≢ b) ds
rise-differ ds up i j d l m e = let less = up i j d l m in none-before-itself (get_or ds j d) (sym (ap (λ a. leaves_before a (get_or ds j d)) e) ∙ less)

-- departures that differ, put in order, are any list in order of the same departures
pub in_order-is : (xs ys : List Departure) → AllPairs (λ a b. a ≢ b) xs → IsPermutation xs ys → AreInOrder ys → in_order leaves_before xs ≡ ys
in_order-is xs ys differ moved up =
    one-in-order xs ys differ up (All-permutation (Contains ys) ys xs (IsPermutation-sym xs ys moved) (All-contains_itself ys)) (All-permutation (Contains xs) xs ys moved (All-contains_itself xs))

abbrev stays : List TimeChange → Departure → Bool
stays rs d = not (is_of_one rs d)

-- how many departures of some events are new
count-cons : (ds : List Departure) (r : TimeChange) (rs : List TimeChange) → count_new ds (r ∷ rs) ≡ count_new ds (r ∷ []) + count_new ds rs
count-cons ds r rs = elim (cases_Bool (is_new_to ds r)) [ inl new ↦ rw new (omega arith) | inr known ↦ rw known (omega arith) ]

abbrev is_there : List Departure → TimeChange → Bool
is_there ds r = list_any (λ (d : Departure). is_same d.key r.key) ds

is-known : (ds : List Departure) (r : TimeChange) → is_there ds r ≡ true → is_new_to ds r ≡ false
is-known ds r there = ap (λ b. r.key.dep && not b) there ∙ (elim (cases_Bool r.key.dep) [ inl t ↦ rw t refl | inr f ↦ rw f refl ])

count-none : (ds : List Departure) (r : TimeChange) → is_there ds r ≡ true → count_new ds (r ∷ []) ≡ 0
count-none ds r there = rw (is-known ds r there) refl

count-arrives : (ds : List Departure) (r : TimeChange) → departs r ≡ false → count_new ds (r ∷ []) ≡ 0
count-arrives ds r arrives = rw arrives refl

pub count-some : (ds : List Departure) (r : TimeChange) → is_there ds r ≡ false → departs r ≡ true → count_new ds (r ∷ []) ≡ 1
count-some ds r none leaves =
    let new : is_new_to ds r ≡ true = ap (λ b. r.key.dep && not b) none ∙ rw leaves refl in
    rw new refl

count-few : (ds : List Departure) (r : TimeChange) → count_new ds (r ∷ []) ≤ 1
count-few ds r = elim (cases_Bool (is_new_to ds r)) [ inl new ↦ rw new (omega arith) | inr known ↦ rw known (omega arith) ]

-- the departures at their new times, and the others
abbrev pub parts : Network → State → List TimeChange → List Departure → List Departure
parts nw st rs ds = map (departing_then nw st) (filter departs rs) ++ filter (stays (filter departs rs)) ds

filter-both : (r : TimeChange) (moved : List TimeChange) (ds : List Departure) → filter (stays (r ∷ moved)) ds ≡ filter (stays moved) (filter (stays (r ∷ [])) ds)
filter-both r moved [] = refl
filter-both r moved (d ∷ ds) = grind (arith, filter-both r moved ds)

abbrev IsLiveOne : State → Departure → Type 0
IsLiveOne st d = Contains (live_keys (events st)) d.key × (d.key.dep ≡ true)

module _ (nw : Network) (st : State) where
  pub parts-differ : (rs : List TimeChange) (ds : List Departure) → AreInOrder ds → AreTimeChanges nw st rs ds → AllPairs (λ a b. a ≢ b) (parts nw st rs ds)
  parts-differ rs ds up h =
      let moved = filter departs rs in
      let others = filter (stays moved) ds in
      AllPairs-append (λ a b. a ≢ b) (map (departing_then nw st) moved) others
      (AllPairs-map (λ a b. a ≢ b) (departing_then nw st) moved (λ i j d l m e. AllPairs-filter (λ (a b : TimeChange). a.key ≢ b.key) departs rs h.once i j d l m (ap (λ (x : Departure). x.key) e)))
      (AllPairs-filter (λ a b. a ≢ b) (stays moved) ds (rise-differ ds up))
      (All-map (λ x. All (λ y. x ≢ y) others) (departing_then nw st) moved (λ i d l. λ j e m same.
      let r = get_or moved i d in
      let y = get_or others j e in
      let passes = filter_passes (stays moved) ds j e m in
      let there = any-from (λ s. is_same s.key y.key) moved r (All-contains_itself moved i d l) (ap (λ (x : Departure). is_same r.key x.key) (sym same) ∙ same-itself r.key) in
      absurd (cc)))

  with-moves : (rs : List TimeChange) (ds : List Departure) → IsPermutation (parts nw st rs ds) (with_times nw st rs ds)
  unfolding with_times
  with-moves rs ds = in_order-moves leaves_before (parts nw st rs ds)

  with-rises : (rs : List TimeChange) (ds : List Departure) → AreInOrder ds → AreTimeChanges nw st rs ds → AreInOrder (with_times nw st rs ds)
  unfolding with_times
  with-rises rs ds up h = put-in-order (parts nw st rs ds) (parts-differ rs ds up h)

  -- and they are any list in order of those
  pub with-is : (rs : List TimeChange) (ds : List Departure) → AreInOrder ds → AreTimeChanges nw st rs ds → (ys : List Departure) → IsPermutation (parts nw st rs ds) ys → AreInOrder ys → with_times nw st rs ds ≡ ys
  unfolding with_times
  with-is rs ds up h ys moved rise = in_order-is (parts nw st rs ds) ys (parts-differ rs ds up h) moved rise

  -- where no event gets another time they stay
  pub with-none : (ds : List Departure) → AreInOrder ds → with_times nw st [] ds ≡ ds
  unfolding with_times
  with-none ds up =
      rw (filter-all (stays []) ds (λ i d l. refl)) (in_order-is ds ds (rise-differ ds up) (IsPermutation-refl ds) up)

  -- an arrival moves none
  pub with-less : (r : TimeChange) (rs : List TimeChange) (ds : List Departure) → departs r ≡ false → with_times nw st (r ∷ rs) ds ≡ with_times nw st rs ds
  unfolding with_times
  with-less r rs ds arrives = rw arrives refl

  -- one of these events, and then the others
  module _ (r : TimeChange) (rs : List TimeChange) (ds : List Departure) (up : AreInOrder ds) (h : AreTimeChanges nw st (r ∷ rs) ds) where
    pub one-time-changes : AreTimeChanges nw st (r ∷ []) ds
    one-time-changes = record {
      live = h.live;
      at_calls = h.at_calls;
      once = AllPairs-cons (λ a b. a.key ≢ b.key) r [] (All-nil (λ b. r.key ≢ b.key)) (AllPairs-nil (λ a b. a.key ≢ b.key));
      there = All-cons (IsOfLive st) r [] (h.there 0 r (omega arith)) (All-nil (IsOfLive st));
    }

    pub rest-time-changes : AreTimeChanges nw st rs (with_times nw st (r ∷ []) ds)
    rest-time-changes =
        let moved = filter departs (r ∷ []) in
        record {
          live = All-permutation (IsLiveOne st) (parts nw st (r ∷ []) ds) (with_times nw st (r ∷ []) ds) (with-moves (r ∷ []) ds)
              (All-append (IsLiveOne st) (map (departing_then nw st) moved) (filter (stays moved) ds)
              (All-map (IsLiveOne st) (departing_then nw st) moved (λ i d l.
              let w = filtered departs (r ∷ []) (get_or moved i d) (All-contains_itself moved i d l) in
              (All-contains (IsOfLive st) (r ∷ []) (get_or moved i d) (All-cons (IsOfLive st) r [] (h.there 0 r (omega arith)) (All-nil (IsOfLive st))) w.0, w.1)))
              (All-filter (stays moved) (IsLiveOne st) ds h.live));
          at_calls = All-permutation (IsAtCall nw st) (parts nw st (r ∷ []) ds) (with_times nw st (r ∷ []) ds) (with-moves (r ∷ []) ds)
              (All-append (IsAtCall nw st) (map (departing_then nw st) moved) (filter (stays moved) ds)
              (All-map (IsAtCall nw st) (departing_then nw st) moved (λ i d l. refl)) (All-filter (stays moved) (IsAtCall nw st) ds h.at_calls));
          once = AllPairs-tail (λ a b. a.key ≢ b.key) r rs h.once;
          there = All-tail (IsOfLive st) r rs h.there;
        }

    own-stays : stays (filter departs rs) (departing_then nw st r) ≡ true
    own-stays =
        ap not (false_from_ne_true _ (λ e.
        let w = any-there (λ s. is_same s.key r.key) (filter departs rs) e in
        let there = filtered departs rs w.0 w.1 in
        absurd (All-contains (λ (s : TimeChange). r.key ≢ s.key) rs w.0 (AllPairs-after (λ (a b : TimeChange). a.key ≢ b.key) [] r rs h.once) there.0 (sym (same-is w.0.key r.key w.2)))))

    departs-parts : departs r ≡ true → IsPermutation (parts nw st (r ∷ rs) ds) (parts nw st rs (with_times nw st (r ∷ []) ds))
    unfolding with_times
    departs-parts leaves =
        let moved = filter departs rs in
        let at = departing_then nw st r in
        let first = filter (stays (r ∷ [])) ds in
        let both : filter (stays (r ∷ moved)) ds ≡ filter (stays moved) first = filter-both r moved ds in
        let own : stays moved at ≡ true = own-stays in
        let kept : IsPermutation (at ∷ filter (stays moved) first) (filter (stays moved) (in_order leaves_before (at ∷ first))) = rw own at (filter-in_order leaves_before (stays moved) (at ∷ first)) in
        rw (filter-first departs r rs leaves, filter-first departs r [] leaves, both)
        (IsPermutation-trans _ _ _ (IsPermutation-sym _ _ (IsPermutation-middle (map (departing_then nw st) moved) at (filter (stays moved) first)))
        (IsPermutation-append (map (departing_then nw st) moved) (map (departing_then nw st) moved) _ _ (IsPermutation-refl _) kept))

    -- the others may follow later
    pub with-more : departs r ≡ true → with_times nw st (r ∷ rs) ds ≡ with_times nw st rs (with_times nw st (r ∷ []) ds)
    with-more leaves =
        let once = with_times nw st (r ∷ []) ds in
        let risen = with-rises (r ∷ []) ds up one-time-changes in
        with-is (r ∷ rs) ds up h (with_times nw st rs once) (IsPermutation-trans _ _ _ (departs-parts leaves) (with-moves rs once)) (with-rises rs once risen rest-time-changes)

  -- ---- the departure of one event

  module _ (r : TimeChange) (ds : List Departure) (leaves : departs r ≡ true) (up : AreInOrder ds) (h : AreTimeChanges nw st (r ∷ []) ds) where
    -- one that is of another event stays
    other-stays : (d : Departure) → is_same d.key r.key ≡ false → stays (r ∷ []) d ≡ true
    other-stays d other =
        elim (cases_Bool (is_same r.key d.key)) [
          | inl same ↦ absurd (let own = same-itself d.key in let back = rw (same-is r.key d.key same) at other in cc)
          | inr differs ↦ rw differs refl
        ]

    stays-other : (d : Departure) → stays (r ∷ []) d ≡ true → is_same d.key r.key ≡ false
    stays-other d stay =
        elim (cases_Bool (is_same d.key r.key)) [
          | inl same ↦ absurd (let own = same-itself r.key in let back = rw (same-is d.key r.key same) at stay in grind arith)
          | inr differs ↦ differs
        ]

    -- one that was there takes place at another time
    pub moved-there : AllPairs (λ (a b : Departure). a.key ≢ b.key) ds → list_any (λ (d : Departure). is_same d.key r.key) ds ≡ true → moved r.key r.is ds ≡ with_times nw st (r ∷ []) ds
    moved-there keys there =
        let at = at_time r.key r.is in
        let own : (d : Departure) → (at d).key ≡ d.key = λ d. grind arith in
        let apart : AllPairs (λ a b. a ≢ b) (map at ds) = AllPairs-map (λ a b. a ≢ b) at ds (λ i j d l m e. keys i j d l m (sym (own (get_or ds i d)) ∙ ap (λ (x : Departure). x.key) e ∙ own (get_or ds j d))) in
        let ps = parts nw st (r ∷ []) ds in
        let then : (d : Departure) → Contains ds d → is_same d.key r.key ≡ true → at d ≡ departing_then nw st r = λ d in_ds same.
        let is = All-contains (IsAtCall nw st) ds d h.at_calls in_ds in
        let key = same-is d.key r.key same in
        grind arith in
        let first : Contains ps (departing_then nw st r) = rw (filter-first departs r [] leaves) (0, omega arith, refl) in
        let into : All (Contains ps) (map at ds) = All-map (Contains ps) at ds (λ i d l.
        let y = get_or ds i d in
        let in_ds = All-contains_itself ds i d l in
        elim (cases_Bool (is_same y.key r.key)) [
          | inl same ↦ rw (then y in_ds same) first
          | inr differs ↦
              let same : at y ≡ y = rw differs refl in
              rw (same, filter-first departs r [] leaves) (Contains-there (departing_then nw st r) _ y (Contains-filter (stays (r ∷ [])) ds y in_ds (other-stays y differs)))
        ]) in
        let one = any-there (λ (d : Departure). is_same d.key r.key) ds there in
        let back : All (Contains (map at ds)) ps = rw (filter-first departs r [] leaves) (All-cons (Contains (map at ds)) (departing_then nw st r) _
        (subst (Contains (map at ds)) (then one.0 one.1 one.2) (Contains-map at ds one.0 one.1))
        (λ i d l.
        let y = get_or (filter (stays (r ∷ [])) ds) i d in
        let f = filtered (stays (r ∷ [])) ds y (All-contains_itself (filter (stays (r ∷ [])) ds) i d l) in
        let same : at y ≡ y = rw (stays-other y f.1) refl in
        subst (Contains (map at ds)) same (Contains-map at ds y f.0))) in
        let all = with-moves (r ∷ []) ds in
        one-in-order (map at ds) (with_times nw st (r ∷ []) ds) apart (with-rises (r ∷ []) ds up h)
        (All-weaker (Contains ps) (Contains (with_times nw st (r ∷ []) ds)) (λ d in_ps. Contains-permutation ps (with_times nw st (r ∷ []) ds) d all in_ps) (map at ds) into)
        (All-permutation (Contains (map at ds)) ps (with_times nw st (r ∷ []) ds) all back)

    -- one that was not is put in
    none-there : list_any (λ (d : Departure). is_same d.key r.key) ds ≡ false → All (λ (d : Departure). is_same d.key r.key ≡ false) ds
    none-there none = λ i d l. false_from_ne_true _ (λ same. let any = any-from (λ (d : Departure). is_same d.key r.key) ds (get_or ds i d) (All-contains_itself ds i d l) same in absurd (cc))

    unmoved : (es : List Departure) → All (λ (d : Departure). is_same d.key r.key ≡ false) es → map (at_time r.key r.is) es ≡ es
    unmoved [] none = refl
    unmoved (e ∷ es) none = rw (none 0 e (omega arith), unmoved es (λ i d l. none (suc i) d (omega arith))) refl

    pub moved-none : list_any (λ (d : Departure). is_same d.key r.key) ds ≡ false → moved r.key r.is ds ≡ ds
    moved-none none = rw (unmoved ds (none-there none)) (in_order-is ds ds (rise-differ ds up) (IsPermutation-refl ds) up)

    pub put-new : list_any (λ (d : Departure). is_same d.key r.key) ds ≡ false → placed leaves_before (departing_then nw st r) ds ≡ with_times nw st (r ∷ []) ds
    unfolding with_times
    put-new none =
        let all = filter-all (stays (r ∷ [])) ds (λ i d l. other-stays (get_or ds i d) (none-there none i d l)) in
        rw (filter-first departs r [] leaves, all, in_order-is ds ds (rise-differ ds up) (IsPermutation-refl ds) up) refl

    pub new-key : list_any (λ (d : Departure). is_same d.key r.key) ds ≡ false → All (λ (d : Departure). d.key ≢ r.key) ds
    new-key none = λ i d l e. let own = same-itself r.key in let no = none-there none i d l in let same = rw e at no in absurd (cc)

    -- no departure is of its call, since events are told apart by their names
    pub new-call : All IsTrain st.trains → list_any (λ (d : Departure). is_same d.key r.key) ds ≡ false → All (λ d. is_of_call r.key.train r.key.label d ≡ false) ds
    new-call trains none = λ i d l. false_from_ne_true _ (λ same.
        let e = get_or ds i d in
        let both = and_parts (nat_eq e.key.train r.key.train) _ same in
        let own = h.live i d l in
        let u = keyed-live (events st) e.key own.0 in
        let v = keyed-live (events st) r.key (h.there 0 r (omega arith)) in
        let train = eqb-true e.key.train r.key.train both.0 in
        let label = eqb-true e.key.label r.key.label both.1 in
        let dep : e.key.dep ≡ r.key.dep = own.1 ∙ sym leaves in
        let name : node_of e.key ≡ node_of r.key = grind arith in
        let one = events-unique st trains u.0 v.0 u.1 v.1 (ap node_of u.2 ∙ name ∙ sym (ap node_of v.2)) in
        new-key none i d l (sym u.2 ∙ ap (λ (w : Event). w.key) one ∙ v.2))

    -- its departure is there afterwards, and so are those that were there
    pub key-stays : (k : Key) → list_any (λ (d : Departure). is_same d.key k) ds ≡ true → list_any (λ (d : Departure). is_same d.key k) (with_times nw st (r ∷ []) ds) ≡ true
    key-stays k there =
        let one = any-there (λ (d : Departure). is_same d.key k) ds there in
        let ps = parts nw st (r ∷ []) ds in
        let found : (x : Departure) → Contains ps x → x.key ≡ one.0.key → list_any (λ (d : Departure). is_same d.key k) (with_times nw st (r ∷ []) ds) ≡ true = λ x in_ps e.
        any-from (λ (d : Departure). is_same d.key k) (with_times nw st (r ∷ []) ds) x (Contains-permutation ps (with_times nw st (r ∷ []) ds) x (with-moves (r ∷ []) ds) in_ps) (rw e one.2) in
        elim (cases_Bool (is_same one.0.key r.key)) [
          | inl same ↦ found (departing_then nw st r) (rw (filter-first departs r [] leaves) (0, omega arith, refl)) (sym (same-is one.0.key r.key same))
          | inr differs ↦
              found one.0 (rw (filter-first departs r [] leaves) (Contains-there (departing_then nw st r) _ one.0 (Contains-filter (stays (r ∷ [])) ds one.0 one.1 (other-stays one.0 differs)))) refl
        ]

    pub count-falls : (rs : List TimeChange) → count_new (with_times nw st (r ∷ []) ds) rs ≤ count_new ds rs
    count-falls [] = omega arith
    count-falls (s ∷ rs) =
        let rest = count-falls rs in
        let more = with_times nw st (r ∷ []) ds in
        let one = count-cons ds s rs in
        let other = count-cons more s rs in
        elim (cases_Bool (list_any (λ (d : Departure). is_same d.key s.key) ds)) [
          | inl there ↦ (let none = count-none more s (key-stays s.key there) in omega arith)
          | inr new ↦ (
              let some = count-some ds s new in
              elim (cases_Bool (departs s)) [
                | inl leaving ↦ (let own = some leaving in let few = count-few more s in omega arith)
                | inr arrives ↦ (let none = count-arrives more s arrives in omega arith)
              ])
        ]

-- the call of an event that gets another time is there
pub call-of : {nw : Network} {st : State} {r : TimeChange} {ds : List Departure} → All IsTrain st.trains → AreTimeChanges nw st (r ∷ []) ds → has_call st r.key.train r.key.label ≡ true
call-of {st = st} {r = r} trains h =
    let at = keyed-live (events st) r.key (h.there 0 r (omega arith)) in
    rw at.2 at (call-there st at.0 at.1 trains)

-- part of the moves: with the events that are left the departures become what they become with all,
-- there is room for those that are new, and each has its number still or got one
pub record AreMovedTo (nw : Network) (st : State) (rs : List TimeChange) (before : Ordered) (left : List TimeChange) (now : Ordered) : Type 0 where
  pub changes : AreTimeChanges nw st left now.departures
  pub whole : with_times nw st left now.departures ≡ with_times nw st rs before.departures
  pub room : spare before + count_new now.departures left ≤ spare now + count_new before.departures rs
  pub numbers : AreMoved before now

pub none-moved-to : {nw : Network} {st : State} {rs : List TimeChange} {before : Ordered} → AreTimeChanges nw st rs before.departures → AreMovedTo nw st rs before rs before
none-moved-to {before = before} h = record { changes = h; whole = refl; room = omega arith; numbers = none-moved before }

module _ (nw : Network) (st : State) (rs : List TimeChange) (before now : Ordered) (r : TimeChange) (left : List TimeChange) (m : AreMovedTo nw st rs before (r ∷ left) now) where
  pub part-room : count_new before.departures rs ≤ spare before → count_new now.departures (r ∷ []) ≤ spare now
  part-room enough = let room = m.room in let both = count-cons now.departures r left in omega arith

  module _ (up : AreInOrder now.departures) (leaves : departs r ≡ true) where
    pub part-changes : AreTimeChanges nw st (r ∷ []) now.departures
    part-changes = one-time-changes nw st r left now.departures up m.changes

    pub part-moved : (next : Ordered) → next.departures ≡ with_times nw st (r ∷ []) now.departures → spare now ≤ spare next + count_new now.departures (r ∷ []) → AreMoved now next → AreMovedTo nw st rs before left next
    part-moved next is more numbers =
        let falls = count-falls nw st r now.departures leaves up part-changes left in
        let room = m.room in
        record {
          changes = rw is (rest-time-changes nw st r left now.departures up m.changes);
          whole = rw is (sym (with-more nw st r left now.departures up m.changes leaves) ∙ m.whole);
          room = let both = count-cons now.departures r left in rw is (omega arith);
          numbers = moved-on m.numbers numbers;
        }

  pub part-arrives : departs r ≡ false → AreMovedTo nw st rs before left now
  part-arrives arrives =
      let room = m.room in
      record {
        changes = record {
          live = m.changes.live;
          at_calls = m.changes.at_calls;
          once = AllPairs-tail (λ a b. a.key ≢ b.key) r left m.changes.once;
          there = All-tail (IsOfLive st) r left m.changes.there;
        };
        whole = sym (with-less nw st r left now.departures arrives) ∙ m.whole;
        room = rw arrives at room;
        numbers = m.numbers;
      }

pub all-moved : (nw : Network) (st : State) (rs : List TimeChange) (before now : Ordered) → AreInOrder now.departures → AreMovedTo nw st rs before [] now → now.departures ≡ with_times nw st rs before.departures
all-moved nw st rs before now up m = sym (with-none nw st now.departures up) ∙ m.whole
