use Rattle.std.proofs.Common.{◌∙◌, ℕ, List, ◌++◌, ap, sym}
use Rattle.std.proofs.lemmas.List.{append-nil}
use Rattle.std.proofs.lemmas.Result.{on_ok_weaker}
use Rattle.mt_base.specs.Order.{node_of}
use Rattle.delay_model.specs.Timing.{event_time}
use Rattle.timetable.specs.LiveTimes.{live_time}
use Rattle.delay_report.specs.Written.{bytes_of}
use Rattle.delay_report.proofs.EventRows.{live-row, dead-row, time-live, time-dead}
use Rattle.delay_report.proofs.table.push_live.Goals as goal

pub returns-in-Some-clause-rows : goal.returns-in-Some-clause-rows
returns-in-Some-clause-rows g c =
    let t = c.args.t.now in
    let v = c.args.event.now in
    let at = sym (ap (live_time t.network t.state) c.node.ensures) in
    let is = time-live t.network t.state (node_of v.key) v c.in-Some.time c.requires.labels c.requires.there (sym (c.in-Some.ensures.time ∙ sym at)) in
    on_ok_weaker c.push_event.result
    (λ e. e ∙ ap (λ (xs : List ℕ). bytes_of c.args.out.now.writer ++ xs) (sym (live-row c.args.dir.now (event_time t.network t.state) v c.in-Some.time is.0 is.1)))
    c.push_event.ensures.row

pub returns-in-None-clause-rows : goal.returns-in-None-clause-rows
returns-in-None-clause-rows g c =
    let t = c.args.t.now in
    let v = c.args.event.now in
    let at = ap (live_time t.network t.state) c.node.ensures in
    let dead = time-dead t.network t.state (node_of v.key) v c.requires.labels c.requires.there (sym (c.in-None.ensures.time ∙ at)) in
    sym (append-nil (bytes_of c.args.out.now.writer))
    ∙ ap (λ (xs : List ℕ). bytes_of c.args.out.now.writer ++ xs) (sym (dead-row c.args.dir.now (event_time t.network t.state) v dead))
