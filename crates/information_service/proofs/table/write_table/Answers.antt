use Rattle.information_service.proofs.Words.{◌≡◌, ◌≤◌, ◌+◌, ◌++◌, ℕ, List, [], length, sym, ap, subst, ◌∙◌, append_assoc, arith, same_Some, append-nil, Names, State, header, rows_of_train, rows_from, table, AppendsFront}
use Rattle.std.proofs.lemmas.Result.{IfErr-weaker, on_ok_weaker}
use Rattle.timetable.specs.TimetableState.{TimetableState}
use Rattle.information_service.specs.Fronts.{Gathers}
use Rattle.information_service.proofs.Ends.{handed_on, memory_not_write}
use Rattle.information_service.specs.declared.fault.LinesFault.TheVariants.{OutOfMemory, WriteFault}
use Rattle.information_service.proofs.Fronts.{front_longer, front_none, rows-more, table_front}
use Rattle.information_service.proofs.Gathering.{front-gathered, front-more-gathered, gathers-on, more-behind, rest-written}
use Rattle.information_service.proofs.table.write_table.Goals as goal

-- the header, and the rows of the first trains
abbrev shown : TimetableState → Names → ℕ → List ℕ
shown t names n = header ++ rows_from names t.network t.state 0 n

abbrev row : TimetableState → Names → ℕ → List ℕ
row t names n = rows_of_train names t.network t.state n

one-more : (t : TimetableState) (names : Names) (n : ℕ) → shown t names n ++ row t names n ≡ shown t names (n + 1)
one-more t names n =
    append_assoc header (rows_from names t.network t.state 0 n) (row t names n) ∙ ap (λ (rows : List ℕ). header ++ rows) (sym (rows-more names t.network t.state n))

-- the header behind nothing
header_is : {gathered text : List ℕ} → gathered ≡ [] → text ≡ header → gathered ++ text ≡ header
header_is none is = (λ k. none k ++ is k)

pub loop-train-init : goal.loop-train-init
unfolding rows_from
loop-train-init g c =
    record {
      rows = subst (λ (bs : List ℕ). Gathers (g.K.Sink.written c.args.out.now) (g.K.Sink.written c.gather.new.out) bs c.gather.new.gathered.items)
          (header_is c.in_ok-gathered.ensures.items c.times_header.ensures ∙ sym (append-nil header)) c.in_ok-gather.ensures.ok;
      write = same_Some _ _ c.in_ok-gather.ensures.writes;
    }

pub loop-train-preserved : goal.loop-train-preserved
loop-train-preserved g c =
    let t : TimetableState = c.args.timetable.now in
    let names : Names = c.args.directory.now in
    let n = c.loop-train.train in
    let w1 = g.K.Sink.written c.loop-train.out in
    let w2 = g.K.Sink.written c.gather-in-loop-train.new.out in
    let gathered : List ℕ = c.loop-train.gathered.items in
    let later : List ℕ = c.gather-in-loop-train.new.gathered.items in
    let row_is : c.as_slice.result.now ≡ row t names n = c.as_slice.ensures.value ∙ c.in_ok-rows.ensures ∙ ap (row t names) c.new.ensures in
    record {
      rows = gathers-on (g.K.Sink.written c.args.out.now) w1 w2 (shown t names n) gathered (gathered ++ row t names n) later (shown t names (n + 1)) c.loop-train.invariant.rows
          (subst (λ (bs : List ℕ). Gathers w1 w2 (gathered ++ bs) later) row_is c.in_ok-gather-2.ensures.ok) (λ front is. sym (one-more t names n) ∙ more-behind (shown t names n) gathered (row t names n) front is);
      write = same_Some _ _ c.in_ok-gather-2.ensures.writes ∙ c.loop-train.invariant.write;
    }

pub returns-clause-ok : goal.returns-clause-ok
unfolding table
returns-clause-ok g c =
    let t : TimetableState = c.args.timetable.now in
    let names : Names = c.args.directory.now in
    let count : c.count-train-end.result ≡ length t.state.trains =
    c.count-train-end.ensures ∙ ap (λ (s : State). length s.trains) (c.trains.ensures.trains ∙ c.graph.ensures.state) in
    let all : c.loop-train.train ≡ length t.state.trains = omega (arith, count, c.loop-train.auto.train-end, c.loop-train-test.false) in
    let rows = subst (λ (n : ℕ). Gathers (g.K.Sink.written c.args.out.now) (g.K.Sink.written c.loop-train.out) (shown t names n) c.loop-train.gathered.items) all c.loop-train.invariant.rows in
    on_ok_weaker c.write_gathered.result (rest-written (g.K.Sink.written c.args.out.now) (g.K.Sink.written c.loop-train.out) (g.K.Sink.written c.write_gathered.new.out)
    (shown t names (length t.state.trains)) c.loop-train.gathered.items rows) c.write_gathered.ensures.ok

pub returns-clause-front : goal.returns-clause-front
unfolding table
returns-clause-front g c =
    let t : TimetableState = c.args.timetable.now in
    let names : Names = c.args.directory.now in
    let count : c.count-train-end.result ≡ length t.state.trains =
    c.count-train-end.ensures ∙ ap (λ (s : State). length s.trains) (c.trains.ensures.trains ∙ c.graph.ensures.state) in
    let all : c.loop-train.train ≡ length t.state.trains = omega (arith, count, c.loop-train.auto.train-end, c.loop-train-test.false) in
    let rows = subst (λ (n : ℕ). Gathers (g.K.Sink.written c.args.out.now) (g.K.Sink.written c.loop-train.out) (shown t names n) c.loop-train.gathered.items) all c.loop-train.invariant.rows in
    IfErr-weaker c.write_gathered.result _ _ (λ f front. front-gathered (g.K.Sink.written c.args.out.now) (g.K.Sink.written c.loop-train.out) (g.K.Sink.written c.write_gathered.new.out)
    (shown t names (length t.state.trains)) c.loop-train.gathered.items rows front) c.write_gathered.ensures.front

pub returns-in_err-gather-clause-front : goal.returns-in_err-gather-clause-front
unfolding table
returns-in_err-gather-clause-front g c =
    let t : TimetableState = c.args.timetable.now in
    let names : Names = c.args.directory.now in
    let w0 = g.K.Sink.written c.args.out.now in
    let w1 = g.K.Sink.written c.gather.new.out in
    let f = c.in_err-gather.field-0.0 in
    handed_on c.from_residual-in_err-gather.result f _ c.from_residual-in_err-gather.ensures.1
    (front_longer w0 w1 header (rows_from names t.network t.state 0 (length t.state.trains))
    (subst (AppendsFront (f ≡ WriteFault) w0 w1) (header_is c.in_ok-gathered.ensures.items c.times_header.ensures) c.in_err-gather.ensures.front))

pub returns-in_err-rows-clause-front : goal.returns-in_err-rows-clause-front
unfolding table
returns-in_err-rows-clause-front g c =
    let t : TimetableState = c.args.timetable.now in
    let names : Names = c.args.directory.now in
    let n = c.loop-train.train in
    let w0 = g.K.Sink.written c.args.out.now in
    let w1 = g.K.Sink.written c.loop-train.out in
    let count : c.count-train-end.result ≡ length t.state.trains =
    c.count-train-end.ensures ∙ ap (λ (s : State). length s.trains) (c.trains.ensures.trains ∙ c.graph.ensures.state) in
    let few : n ≤ length t.state.trains = omega (arith, count, c.loop-train-test.true) in
    handed_on c.from_residual-in_err-rows.result OutOfMemory _ c.from_residual-in_err-rows.ensures.1
    (table_front names t.network t.state w0 w1 n (length t.state.trains) few
    (front-gathered w0 w1 w1 (shown t names n) c.loop-train.gathered.items c.loop-train.invariant.rows (front_none memory_not_write w1 c.loop-train.gathered.items)))

pub returns-in_err-gather-2-clause-front : goal.returns-in_err-gather-2-clause-front
unfolding table
returns-in_err-gather-2-clause-front g c =
    let t : TimetableState = c.args.timetable.now in
    let names : Names = c.args.directory.now in
    let n = c.loop-train.train in
    let w0 = g.K.Sink.written c.args.out.now in
    let w1 = g.K.Sink.written c.loop-train.out in
    let w2 = g.K.Sink.written c.gather-in-loop-train.new.out in
    let gathered : List ℕ = c.loop-train.gathered.items in
    let f = c.in_err-gather-2.field-0.0 in
    let count : c.count-train-end.result ≡ length t.state.trains =
    c.count-train-end.ensures ∙ ap (λ (s : State). length s.trains) (c.trains.ensures.trains ∙ c.graph.ensures.state) in
    let few : n + 1 ≤ length t.state.trains = omega (arith, count, c.loop-train-test.true) in
    let row_is : c.as_slice.result.now ≡ row t names n = c.as_slice.ensures.value ∙ c.in_ok-rows.ensures ∙ ap (row t names) c.new.ensures in
    handed_on c.from_residual-in_err-gather-2.result f _ c.from_residual-in_err-gather-2.ensures.1
    (table_front names t.network t.state w0 w2 (n + 1) (length t.state.trains) few
    (subst (AppendsFront (f ≡ WriteFault) w0 w2) (one-more t names n) (front-more-gathered w0 w1 w2 (shown t names n) gathered (row t names n) c.loop-train.invariant.rows
    (subst (λ (bs : List ℕ). AppendsFront (f ≡ WriteFault) w1 w2 (gathered ++ bs)) row_is c.in_err-gather-2.ensures.front))))
