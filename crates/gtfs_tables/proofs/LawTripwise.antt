-- What the check of the trips says of their calls: both ends have times, which do not fall.
use Rattle.gtfs_tables.proofs.Words.{◌≡◌, ℕ, ◌<◌, List, [], ◌∷◌, ◌++◌, true, Option, Ok, map, refl, sym, ◌∙◌, ap, subst, arith, append_assoc, common_steps, append-nil, CallRow, calls_of, sequence, AreDistinct, IsTripwise, Rises, CallTimes, is_timed, last_call, check_order, check_trip, check_trips}
use Rattle.feed_tables.specs.Calls.{times_of, DoNotFall}
use Rattle.feed_tables.specs.Lawful.{HasTimedEnds, IsTimed, last_row}
use Rattle.gtfs_tables.proofs.LawByTrip.{Entry, entry_trip, entry_sequence, entries_of, entries-none}
use Rattle.gtfs_tables.proofs.LawKeptRows.{Facts, row_facts, entry_facts, IsAlike}
use Rattle.gtfs_tables.proofs.LawSteps.{bind-ok}

-- ---- each trip was checked

abbrev entry_times : List Entry → List CallTimes
entry_times es = map (λ (e : Entry). e.1) es

record IsChecked (trip : ℕ) (passed : List CallTimes) (es : List Entry) : Type 0 where
  pub own : check_trip (passed ++ entry_times (entries_of es trip)) ≡ Ok tt
  pub later : (k : ℕ) → trip < k → check_trip (entry_times (entries_of es k)) ≡ Ok tt

checked : (trip : ℕ) (passed : List CallTimes) (es : List Entry) → Rises entry_trip trip es → check_trips trip passed es ≡ Ok tt → IsChecked trip passed es
unfolding check_trips check_trip
checked trip passed [] h c = record { own = ap check_trip (append-nil passed) ∙ c; later = λ k l. refl }
checked trip passed (e ∷ es) h c =
    grind (
      arith,
      common_steps,
      bind-ok,
      append-nil passed,
      append_assoc passed (e.1 ∷ []),
      λ (k : ℕ). entries-none (entry_trip e) es k,
      checked trip (passed ++ e.1 ∷ []) es,
      checked (entry_trip e) (e.1 ∷ []) es,
    )

-- every trip
each-checked : (es : List Entry) (trip : ℕ) → Rises entry_trip 0 es → check_trips 0 [] es ≡ Ok tt → check_trip (entry_times (entries_of es trip)) ≡ Ok tt
each-checked es trip h c = let all = checked 0 [] es h c in grind (arith, all.own, all.later trip)

-- ---- one trip

-- the arrival and the departure
abbrev Both : Type 0
Both = Option ℕ × Option ℕ

abbrev row_times : CallRow → Both
row_times r = (r.arr, r.dep)

abbrev call_times : CallTimes → Both
call_times c = (c.arr, c.dep)

falls : (low : ℕ) (rs : List CallRow) (cs : List CallTimes) → map row_times rs ≡ map call_times cs → check_order low cs ≡ Ok tt → DoNotFall low (times_of rs)
unfolding check_order DoNotFall
falls low [] cs same h = tt
falls low (r ∷ rs) [] same h = grind arith
falls low (r ∷ rs) (c ∷ cs) same h = grind (arith, λ (k : ℕ). falls k rs cs)

last-timed : (r : CallRow) (rs : List CallRow) (c : CallTimes) (cs : List CallTimes) → map row_times (r ∷ rs) ≡ map call_times (c ∷ cs) → is_timed (last_call c cs) ≡ true → IsTimed (last_row r rs)
last-timed r [] c [] same h = grind arith
last-timed r [] c (d ∷ cs) same h = grind arith
last-timed r (s ∷ rs) c [] same h = grind arith
last-timed r (s ∷ rs) c (d ∷ cs) same h = grind (arith, last-timed s rs d cs)

-- both ends have times, and times do not fall
good : (rs : List CallRow) (cs : List CallTimes) → map row_times rs ≡ map call_times cs → check_trip cs ≡ Ok tt → HasTimedEnds rs × DoNotFall 0 (times_of rs)
unfolding check_trip DoNotFall
good [] cs same h = (tt, tt)
good (r ∷ rs) [] same h = grind arith
good (r ∷ rs) (c ∷ []) same h = grind arith
good (r ∷ []) (c ∷ d ∷ cs) same h = grind arith
good (r ∷ s ∷ rs) (c ∷ d ∷ cs) same h = grind (arith, last-timed s rs d cs, falls 0 (r ∷ s ∷ rs) (c ∷ d ∷ cs))

map-map : {X Y Z : Type 0} (g : Y → Z) (f : X → Y) (xs : List X) → map g (map f xs) ≡ map (λ x. g (f x)) xs
map-map g f [] = refl
map-map g f (x ∷ xs) = ap (λ zs. g (f x) ∷ zs) (map-map g f xs)

-- what tables keep of the calls of a trip, where the trips were checked
pub checked-tripwise : (rows : List CallRow) (es : List Entry) → IsAlike rows es → check_trips 0 [] es ≡ Ok tt → (trip : ℕ) → IsTripwise (calls_of rows trip)
checked-tripwise rows es h c trip =
    let rs = calls_of rows trip in
    let own = entries_of es trip in
    let sequences : map sequence rs ≡ map entry_sequence own = sym (map-map (λ (f : Facts). f.0) row_facts rs) ∙ ap (map (λ (f : Facts). f.0)) (h.same trip) ∙ map-map (λ (f : Facts). f.0) entry_facts own in
    let times : map row_times rs ≡ map call_times (entry_times own) =
    sym (map-map (λ (f : Facts). f.1) row_facts rs) ∙ ap (map (λ (f : Facts). f.1)) (h.same trip) ∙ map-map (λ (f : Facts). f.1) entry_facts own ∙ sym (map-map call_times (λ (e : Entry). e.1) own) in
    let kept = good rs (entry_times own) times (each-checked es trip h.rises c) in
    record { sequences = subst AreDistinct (sym sequences) (h.distinct trip); ends = kept.0; in_order = kept.1 }
