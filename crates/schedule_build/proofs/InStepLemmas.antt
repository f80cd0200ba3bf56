-- Names and trains stay in step.
use Rattle.schedule_build.proofs.Words.{◌≡◌, ◌∙◌, ◌+◌, ◌-◌, ◌<◌, ◌≤◌, ◌++◌, ◌∷◌, [], ℕ, zero, suc, List, Some, None, Bool, length, length-append, length-map, map-append, All, All-nil, All-append, map, arith, ap, sym, refl, common_steps, elements, bytes_eq-Decides}
use Rattle.schedule_build.proofs.Words.{Tables, TripRow, CallRow, Opts, Network, State, IsLawful, Run, run_train, name_of_run, day_runs, runs_on, runs_from, all_runs, schedule, number_from, bytes_eq, nat_eq, ◌&&◌}
use Rattle.std.proofs.Common.{◌≢◌, drop}
use Rattle.std.specs.Prelude.{slice_get}
use Rattle.delay_model.specs.Names.{TrainName}
use Rattle.delay_model.specs.Effect.{effect, change_train, new_train}
use Rattle.delay_model.specs.Refusals.{refusal}
use Rattle.delay_model.specs.declared.messages.Message.{Message}
use Rattle.delay_model.specs.declared.messages.Message.TheVariants.{Report, Forecast, Correct, Withdraw, Cancel, Reroute, Extra, Keep, Drop, Rule}
use Rattle.delay_model.specs.declared.state.Train.{Train}
use Rattle.mt_base.specs.declared.new_calls.NewCall.{NewCall}
use Rattle.feed_tables.specs.Lawful.{AreDistinct}
use Rattle.schedule_build.specs.Bases.{base_at}
use Rattle.schedule_build.specs.Dates.{date_after}
use Rattle.schedule_build.specs.Directory.{Names, names_of, train_named, with_extra}
use Rattle.schedule_build.specs.InStep.{AreInStep, IsNewTrain, names_after_message}
use Rattle.schedule_build.specs.Services.{is_active}

-- ---- lists without two equal elements

pub distinct-append : {X : Type 0} (xs ys : List X) → AreDistinct xs → AreDistinct ys → All (λ x. All (λ y. x ≢ y) ys) xs → AreDistinct (xs ++ ys)
unfolding AreDistinct
distinct-append [] ys h k apart = k
distinct-append (x ∷ xs) ys h k apart = (All-append (λ y. x ≢ y) xs ys h.0 (apart 0 x (omega arith)), distinct-append xs ys h.1 k (λ i d l. apart (suc i) d (omega arith)))

-- ---- the names of the loaded trains

-- the rows from a place on
drop-there : {X : Type 0} (xs rest : List X) (x : X) (n : ℕ) → x ∷ rest ≡ drop n xs → (slice_get xs n ≡ Some x) × (rest ≡ drop (n + 1) xs)
drop-there [] rest x zero e = absurd (cc)
drop-there [] rest x (suc n) e = absurd (cc)
drop-there (y ∷ ys) rest x zero e = grind (arith, e)
drop-there (y ∷ ys) rest x (suc n) e = grind (arith, common_steps, drop-there ys rest x n e)

abbrev ids : List TripRow → List (List ℕ)
ids rows = map (λ (r : TripRow). r.id) rows

-- the names of the trains of a day are of that day, and of trips of these rows
day-names : (P : List ℕ → Type 0) (active : ℕ → Bool) (calls : List CallRow) (trips : List TripRow) (day base trip : ℕ) (rows : List TripRow) → rows ≡ drop trip trips → All P (ids rows)
    → All (λ (n : TrainName). (n.day ≡ day) × P n.trip) (map (name_of_run trips) (day_runs active calls day base trip rows))
day-names P active calls trips day base trip [] e h = All-nil (λ (n : TrainName). (n.day ≡ day) × P n.trip)
day-names P active calls trips day base trip (row ∷ rows) e h =
    let there = drop-there trips rows row trip e in
    let rest = day-names P active calls trips day base (trip + 1) rows there.1 (λ i d l. h (suc i) d (omega arith)) in
    grind (arith, elements, there.0, rest, h 0 [] (omega arith))

distinct-day : (active : ℕ → Bool) (calls : List CallRow) (trips : List TripRow) (day base trip : ℕ) (rows : List TripRow) → rows ≡ drop trip trips → AreDistinct (ids rows)
    → AreDistinct (map (name_of_run trips) (day_runs active calls day base trip rows))
unfolding AreDistinct
distinct-day active calls trips day base trip [] e h = tt
distinct-day active calls trips day base trip (row ∷ rows) e h =
    let there = drop-there trips rows row trip e in
    let rest = distinct-day active calls trips day base (trip + 1) rows there.1 h.1 in
    let others = day-names (λ id. row.id ≢ id) active calls trips day base (trip + 1) rows there.1 h.0 in
    grind (arith, elements, there.0, rest, others)

-- those of the days from a day on are of no earlier day
later-names : (t : Tables) (first : ℕ) (bases : List ℕ) (day days : ℕ) → All (λ (n : TrainName). day ≤ n.day) (map (name_of_run t.trips) (runs_from t first bases day days))
later-names t first bases day zero = All-nil (λ (n : TrainName). day ≤ n.day)
later-names t first bases day (suc days) =
    let own = day-names (λ id. Unit {0}) (λ service. is_active t service (date_after first day)) t.calls t.trips day (base_at bases day) 0 t.trips refl (λ i d l. tt) in
    let later = later-names t first bases (day + 1) days in
    rw map-append (All-append (λ (n : TrainName). day ≤ n.day) (map (name_of_run t.trips) (runs_on t first day (base_at bases day))) (map (name_of_run t.trips) (runs_from t first bases (day + 1) days)) (λ i d l. omega (arith, (own i d l).0)) (λ i d l. omega (arith, later i d l)))

distinct-days : (t : Tables) (first : ℕ) (bases : List ℕ) (day days : ℕ) → AreDistinct (ids t.trips) → AreDistinct (map (name_of_run t.trips) (runs_from t first bases day days))
unfolding AreDistinct
distinct-days t first bases day zero h = tt
distinct-days t first bases day (suc days) h =
    let active : ℕ → Bool = λ service. is_active t service (date_after first day) in
    let own = day-names (λ id. Unit {0}) active t.calls t.trips day (base_at bases day) 0 t.trips refl (λ i d l. tt) in
    let later = later-names t first bases (day + 1) days in
    rw map-append (distinct-append (map (name_of_run t.trips) (runs_on t first day (base_at bases day))) (map (name_of_run t.trips) (runs_from t first bases (day + 1) days)) (distinct-day active t.calls t.trips day (base_at bases day) 0 t.trips refl h) (distinct-days t first bases (day + 1) days h)
    (λ i d l k e m is. omega (arith, (own i d l).0, later k e m, ap (λ (n : TrainName). n.day) is)))

-- what a feed holds is in step
pub loaded-in_step : (t : Tables) (first days : ℕ) (bases : List ℕ) (o : Opts) → IsLawful t → AreInStep (names_of t first days bases o) (schedule t first days bases o)
loaded-in_step t first days bases o h =
    record {
      count = length-map (all_runs t first days bases) (name_of_run t.trips) ∙ sym (length-map (all_runs t first days bases) (run_train t.calls));
      days = same (all_runs t first days bases);
      distinct = distinct-days t first bases 0 days h.names.trips;
      spare = refl;
    }
  where
    same : (rs : List Run) → map (λ (n : TrainName). n.day) (map (name_of_run t.trips) rs) ≡ map (λ (t : Train). t.day) (map (run_train t.calls) rs)
    same [] = refl
    same (r ∷ rs) = rw (same rs) refl

-- ---- messages

days-changed : (n : ℕ) (f : Train → Train) (ts : List Train) → ((t : Train) → (f t).day ≡ t.day) → map (λ (t : Train). t.day) (change_train n f ts) ≡ map (λ (t : Train). t.day) ts
days-changed n f [] same = refl
days-changed zero f (t ∷ ts) same = rw (same t) refl
days-changed (suc n) f (t ∷ ts) same = rw (days-changed n f ts same) refl

length-changed : (n : ℕ) (f : Train → Train) (ts : List Train) → length (change_train n f ts) ≡ length ts
length-changed n f [] = refl
length-changed zero f (t ∷ ts) = refl
length-changed (suc n) f (t ∷ ts) = rw (length-changed n f ts) refl

-- a state with as many trains, of the same days, and as much room for trains
same-days : (names : Names) (st new : State) → AreInStep names st → length new.trains ≡ length st.trains → map (λ (t : Train). t.day) new.trains ≡ map (λ (t : Train). t.day) st.trains → new.spare_trains ≡ st.spare_trains → AreInStep names new
same-days names st new h count days spare = record { count = h.count ∙ sym count; days = h.days ∙ sym days; distinct = h.distinct; spare = h.spare ∙ sym spare }

-- no name without a number is there
none-there : (at : ℕ) (trip : List ℕ) (day : ℕ) (names : List TrainName) → number_from at (λ (t : TrainName). bytes_eq t.trip trip && nat_eq t.day day) names ≡ None → All (λ (n : TrainName). n ≢ record { trip = trip; day = day }) names
none-there at trip day [] h = All-nil (λ (n : TrainName). n ≢ record { trip = trip; day = day })
none-there at trip day (n ∷ names) h = grind (arith, elements, common_steps, bytes_eq-Decides n.trip trip, none-there (at + 1) trip day names)

pub extra-in_step : (names : Names) (st : State) (trip : List ℕ) (train day route : ℕ) (calls : List NewCall) → AreInStep names st → train_named names trip day ≡ None
    → AreInStep (with_extra trip day names) (effect st (Extra train day route calls))
unfolding effect train_named AreDistinct
extra-in_step names st trip train day route calls h new =
    let name : TrainName = record { trip = trip; day = day } in
    let none = none-there 0 trip day names.trains new in
    record {
      count = omega (arith, h.count, length-append names.trains (name ∷ []), length-append st.trains (new_train day route calls ∷ []));
      days = rw (map-append, map-append, h.days) refl;
      distinct = distinct-append names.trains (name ∷ []) h.distinct (All-nil (λ (y : TrainName). name ≢ y), tt) (λ i d l. grind (arith, elements, none i d l));
      spare = ap (λ k. k - 1) h.spare;
    }

-- an accepted extra train gets the next number, and there is room for its name
pub extra-next : (nw : Network) (names : Names) (st : State) (train day route : ℕ) (calls : List NewCall) → AreInStep names st → refusal nw st (Extra train day route calls) ≡ None → (train ≡ length names.trains) × (0 < names.spare_trains)
unfolding refusal
extra-next nw names st train day route calls h accepted = grind (arith, common_steps, h.count, h.spare)

-- each message keeps names and trains in step
pub message-in_step : (names : Names) (st : State) (trip : List ℕ) (m : Message) → AreInStep names st → IsNewTrain trip names m → AreInStep (names_after_message trip names m) (effect st m)
unfolding effect
message-in_step names st trip (Report n t) h new = same-days names st _ h (length-changed n.train _ st.trains) (days-changed n.train _ st.trains (λ t. refl)) refl
message-in_step names st trip (Forecast n t) h new = same-days names st _ h (length-changed n.train _ st.trains) (days-changed n.train _ st.trains (λ t. refl)) refl
message-in_step names st trip (Correct n o) h new = same-days names st _ h (length-changed n.train _ st.trains) (days-changed n.train _ st.trains (λ t. refl)) refl
message-in_step names st trip (Withdraw n) h new = same-days names st _ h (length-changed n.train _ st.trains) (days-changed n.train _ st.trains (λ t. refl)) refl
message-in_step names st trip (Cancel train from to) h new = same-days names st _ h (length-changed train _ st.trains) (days-changed train _ st.trains (λ t. refl)) refl
message-in_step names st trip (Reroute train from to via) h new = same-days names st _ h (length-changed train _ st.trains) (days-changed train _ st.trains (λ t. refl)) refl
message-in_step names st trip (Extra train day route calls) h new = extra-in_step names st trip train day route calls h new
message-in_step names st trip (Keep feeder train) h new = same-days names st _ h refl refl refl
message-in_step names st trip (Drop feeder train) h new = same-days names st _ h refl refl refl
message-in_step names st trip (Rule feeder train) h new = same-days names st _ h refl refl refl
