-- The timetable that the feed holds.
use Rattle.feed_gen_laws.proofs.Words.{List, [], ◌∷◌, all_runs, ap, arith, get_or, le-ltb, length, length-map-range_with_len, refl, ℕ, ◌∙◌, ◌≡◌, ◌≤◌}
use Rattle.std.proofs.lemmas.List.{length-map}
use Rattle.std.proofs.lemmas.List.FromFn.{length-range_with_len}
use Rattle.std.proofs.lemmas.List.Sums.{count_by-le-length, length-filter, sum_by-le}
use Rattle.std.specs.List.{filter}
use Rattle.change_times.specs.ChangeTables.{ChangeTables, tables_of}
use Rattle.change_times.specs.Reach.{change_to, pairs, places, reached}
use Rattle.delay_model.specs.Changes.{is_stop_or_station}
use Rattle.feed_gen_laws.specs.Timetables.{HoldsTimetable}
use Rattle.feed_load.specs.Loaded.{loaded, unless_too_many}
use Rattle.mt_base.specs.declared.options.Opts.{Opts}
use Rattle.schedule_build.specs.Directory.{names_of}
use Rattle.schedule_build.specs.Schedule.{run_train, schedule}
use Rattle.feed_gen_laws.proofs.Runs.{length-given, not-too-many, run, runs-are}
use Rattle.feed_gen_laws.proofs.Stops.{stop}
use Rattle.feed_gen_laws.proofs.HeldTables.{made_tables, tables-in}

-- from each of a hundred stops one can change to a hundred at most
pairs-few : (t : ChangeTables) → length t.stops ≡ 100 → pairs t ≤ 10000
unfolding pairs reached
pairs-few t hundred =
    let from : List ℕ = filter (is_stop_or_station t.stops) (places t) in
    let all = length-range_with_len 0 (length t.stops) in
    let few : length from ≤ 100 = omega (arith, length-filter (is_stop_or_station t.stops) (places t), count_by-le-length (is_stop_or_station t.stops) (places t), all, hundred) in
    let each = sum_by-le (λ a. length (reached t a)) 100 from (λ k d l. omega (arith, length-given (change_to t (get_or from k d)) (places t), all, hundred)) in
    omega (arith, few, each)

timetable-held : (trains stops : ℕ) (folder : List ℕ) (o : Opts) → stops ≡ 100 → 1 ≤ trains → trains ≤ 100000 → HoldsTimetable trains folder o
unfolding loaded
timetable-held trains stops folder o are some few =
    let t = made_tables trains stops in
    let tables = tables-in trains folder stops some few are in
    let short : pairs (tables_of t o.change) ≤ 4000000 = omega (arith, pairs-few (tables_of t o.change) (length-map-range_with_len stop 0 stops ∙ are)) in
    record {
      rows = t;
      state = schedule t 20260105 1 (0 ∷ []) o;
      names = names_of t 20260105 1 (0 ∷ []) o;
      rows_are = tables;
      holds = rw (tables, le-ltb 4000000 (pairs (tables_of t o.change)) short) (ap (λ w. unless_too_many w (schedule t 20260105 1 (0 ∷ []) o, names_of t 20260105 1 (0 ∷ []) o)) (not-too-many trains stops few));
      one_each = length-map (all_runs t 20260105 1 (0 ∷ [])) (run_train t.calls) ∙ ap length (runs-are trains stops) ∙ length-map-range_with_len run 0 trains;
    }

-- the tables of so many trains hold a timetable
pub made-timetable : (trains : ℕ) (folder : List ℕ) (o : Opts) → 1 ≤ trains → trains ≤ 100000 → HoldsTimetable trains folder o
made-timetable trains folder o some few = timetable-held trains 100 folder o refl some few
