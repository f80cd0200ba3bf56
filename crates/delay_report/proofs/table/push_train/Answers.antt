use Rattle.std.proofs.Common.{◌≡◌, ◌∙◌, List, ◌++◌, Some, ap, sym, subst}
use Rattle.std.specs.List.{All}
use Rattle.std.proofs.lemmas.List.Elements.{All-head, All-tail}
use Rattle.mt_base.specs.Order.{node_of}
use Rattle.delay_model.specs.declared.state.Event.{Event}
use Rattle.delay_model.specs.Events.{event_named, train_events}
use Rattle.delay_model.specs.Timing.{event_time}
use Rattle.edge_rules.specs.Inside.{HasOwnLabels}
use Rattle.delay_report.specs.Table.{rows_of_events}
use Rattle.delay_report.specs.Written.{bytes_of}
use Rattle.delay_report.proofs.EventRows.{AreNamed, all-named, rows-pass, rows-end}
use Rattle.delay_report.proofs.table.push_train.Goals as goal

pub loop-event-init : goal.loop-event-init
loop-event-init g c =
    let t = c.args.t.now in
    let labels : All HasOwnLabels t.state.trains = rw c.graph.ensures.state at c.trains.ensures.labels in
    let all : c.events-event-items.result ≡ train_events t.state c.args.train = rw (c.trains.ensures.trains, c.graph.ensures.state) at c.events-event-items.ensures in
    let these : c.into_iter-event-iterator.result ≡ train_events t.state c.args.train = c.into_iter-event-iterator.ensures.into_iter_gives ∙ all in
    record {
      between = c.requires.between;
      rows = ap (λ (es : List Event). bytes_of c.args.out.now.writer ++ rows_of_events c.args.dir.now (event_time t.network t.state) es) these;
      named = subst (AreNamed t.state) (sym these) (all-named t.state c.args.train labels);
    }

pub push_live-requires-clause-labels : goal.push_live-requires-clause-labels
push_live-requires-clause-labels g c = rw c.graph.ensures.state at c.trains.ensures.labels

pub push_live-requires-clause-there : goal.push_live-requires-clause-there
push_live-requires-clause-there g c =
    let named = subst (AreNamed c.args.t.now.state) c.in-Some.ensures.steps c.loop-event.invariant.named in
    All-head (λ v. event_named c.args.t.now.state (node_of v.key) ≡ Some v) c.in-Some.event c.next.new.self named

pub loop-event-preserved : goal.loop-event-preserved
loop-event-preserved g c =
    let named = subst (AreNamed c.args.t.now.state) c.in-Some.ensures.steps c.loop-event.invariant.named in
    record {
      between = c.in_ok-push_live.ensures.between;
      rows = rows-pass _ _ _ _ _ _ _ _ _ c.in_ok-push_live.ensures.rows (sym c.in-Some.ensures.steps) c.loop-event.invariant.rows;
      named = All-tail (λ v. event_named c.args.t.now.state (node_of v.key) ≡ Some v) c.in-Some.event c.next.new.self named;
    }

pub returns : goal.returns
returns g c = rows-end _ _ _ _ _ _ c.in-None.ensures.steps.0 c.loop-event.invariant.rows
