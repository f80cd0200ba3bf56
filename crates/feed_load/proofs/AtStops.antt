-- The trains of lawful tables call at stops and platforms alone.
use Rattle.std.proofs.Common.{◌≡◌, ℕ, ◌+◌, true, false, nat_eq, List, [], ◌∷◌, Option, None, Some, get_or, slice_get, ◌∙◌, ap}
use Rattle.std.specs.List.{All, cons_option}
use Rattle.std.specs.Option.{option_map, option_map_or, IsSomeAnd}
use Rattle.std.proofs.lemmas.List.Elements.{All-nil, All-cons, All-head, All-tail, All-map, All-filter, All-weaker}
use Rattle.mt_base.specs.declared.options.Opts.{Opts}
use Rattle.mt_base.specs.declared.tables.CallRow.{CallRow}
use Rattle.mt_base.specs.declared.places.PlaceKind.TheVariants.{Platform}
use Rattle.mt_base.specs.declared.tables.StopRow.{StopRow}
use Rattle.mt_base.specs.Places.{is_platform}
use Rattle.feed_tables.specs.Calls.{trip_of, rows_of, in_order, both_times, sequence}
use Rattle.feed_tables.specs.Lawful.{HasKind}
use Rattle.feed_tables.proofs.OrderLemmas.{in_order-all}
use Rattle.delay_model.specs.declared.state.Call.{Call}
use Rattle.delay_model.specs.declared.state.Train.{Train}
use Rattle.delay_model.specs.Changes.{kind_of, is_stop}
use Rattle.delay_model.specs.Effect.{begin_run, end_run, change_event, killed}
use Rattle.call_lines.specs.declared.calls.TableCall.{TableCall}
use Rattle.train_nodes.specs.Loaded.{table_call, table_calls}
use Rattle.schedule_build.specs.declared.runs.Run.{Run}
use Rattle.schedule_build.specs.Schedule.{run_calls, run_train, schedule_of}
use Rattle.schedule_build.specs.TripCalls.{call_at, timed_calls}
use Rattle.edge_rules.specs.AtStops.{AreAtStops, IsAtStop}
use Rattle.edge_rules.proofs.StopsKept.{begin-each, end-each}

kind-stop : (o : Option StopRow) → IsSomeAnd o (λ s. s.kind ≡ Platform) → option_map_or is_platform (option_map (λ (row : StopRow). row.kind) o) false ≡ true
kind-stop None h = absurd h
kind-stop (Some s) h = ap is_platform h

module _ (stops : List StopRow) where
  abbrev At : ℕ → Type 0
  At stop = is_stop stops stop ≡ true

  abbrev RowAt : CallRow → Type 0
  RowAt r = At r.stop

  abbrev TableAt : TableCall → Type 0
  TableAt c = At c.stop

  timed-one : (base : ℕ) (r : CallRow) (times : Option (ℕ × ℕ)) (cs : List TableCall) → RowAt r → All TableAt cs → All TableAt (cons_option (option_map (call_at base r) times) cs)
  timed-one base r None cs at h = h
  timed-one base r (Some times) cs at h = All-cons TableAt (call_at base r times) cs at h

  timed-each : (base : ℕ) (rows : List CallRow) → All RowAt rows → All TableAt (timed_calls base rows)
  timed-each base [] h = All-nil TableAt
  timed-each base (r ∷ rs) h = timed-one base r (both_times r.arr r.dep) (timed_calls base rs) (All-head RowAt r rs h) (timed-each base rs (All-tail RowAt r rs h))

  table-each : (label : ℕ) (cs : List TableCall) → All TableAt cs → All (IsAtStop stops) (table_calls label cs)
  table-each label [] h = All-nil (IsAtStop stops)
  table-each label (c ∷ cs) h = All-cons (IsAtStop stops) (table_call label c) (table_calls (label + 1) cs) (All-head TableAt c cs h) (table-each (label + 1) cs (All-tail TableAt c cs h))

  run-each : (calls : List CallRow) → All RowAt calls → (r : Run) → All (IsAtStop stops) (run_train calls r).calls
  run-each calls h r =
      let rows = in_order-all RowAt sequence (rows_of calls r.trip) (All-filter (λ c. nat_eq (trip_of c) r.trip) RowAt calls h) in
      begin-each stops _ (end-each stops _ (table-each 0 (run_calls calls r) (timed-each r.base (in_order sequence (rows_of calls r.trip)) rows)))

-- where each row is at a stop or platform, each call is
pub schedule-at-stops : (stops : List StopRow) (calls : List CallRow) (rs : List Run) (o : Opts) → All (λ r. HasKind stops Platform r.stop) calls → AreAtStops stops (schedule_of calls rs o)
schedule-at-stops stops calls rs o h =
    let rows = All-weaker (λ (r : CallRow). HasKind stops Platform r.stop) (RowAt stops) (λ r at. kind-stop (slice_get stops r.stop) at) calls h in
    All-map (λ (t : Train). All (IsAtStop stops) t.calls) (run_train calls) rs (λ i d l. run-each stops calls rows (get_or rs i d))

-- it is so of the locations without their ids, which are of the same types
pub same-kinds : (stops kept : List StopRow) (ts : List Train) → ((a : ℕ) → kind_of kept a ≡ kind_of stops a) → All (λ (t : Train). All (IsAtStop stops) t.calls) ts → All (λ (t : Train). All (IsAtStop kept) t.calls) ts
same-kinds stops kept ts same h =
    All-weaker (λ (t : Train). All (IsAtStop stops) t.calls) (λ (t : Train). All (IsAtStop kept) t.calls)
    (λ t at. All-weaker (IsAtStop stops) (IsAtStop kept) (λ c own. ap (λ o. option_map_or is_platform o false) (same c.stop) ∙ own) t.calls at) ts h
