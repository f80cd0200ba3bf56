use Rattle.std.proofs.Common.{arith, ◌∙◌, Some, ap, sym}
use Rattle.std.proofs.lemmas.List.Sorted.{All-permutation, IsPermutation-sym, length_permutation}
use Rattle.delay_model.specs.Edges.{edges}
use Rattle.delay_model.specs.Timing.{incoming}
use Rattle.event_causes.specs.Asking.{AsksInTime}
use Rattle.event_causes.proofs.Decided.{ask-in-time, cap-cause, due-decides, no-report, report-cause, to-event}
use Rattle.event_causes.proofs.cause.cause.Goals as goal

pub returns-then-is_some-clause-cause : goal.returns-then-is_some-clause-cause
returns-then-is_some-clause-cause g c = report-cause c.args.t.now.network c.args.t.now.state c.args.at.now (sym c.is_some.ensures ∙ c.if-is_some.true)

pub asked_by-due-requires : goal.asked_by-due-requires
asked_by-due-requires g c =
    let nw = c.args.t.now.network in
    let st = c.args.t.now.state in
    let v = c.args.at.now in
    let xs = c.incoming.result in
    let all = to-event c.graph-graph.result.now nw st v xs c.graph-graph.ensures.network c.graph-graph.ensures.state c.requires.named
    (rw c.node.ensures at c.incoming.ensures.edges) in
    All-permutation (AsksInTime nw st) (incoming (edges nw st) v.key) xs (IsPermutation-sym xs _ all)
    (ask-in-time nw st c.state_is_valid.ensures v c.requires.there)

pub returns-in-Some-clause-cause : goal.returns-in-Some-clause-cause
returns-in-Some-clause-cause g c =
    let nw = c.args.t.now.network in
    let st = c.args.t.now.state in
    let v = c.args.at.now in
    let xs = c.incoming.result in
    let all = to-event c.graph-graph.result.now nw st v xs c.graph-graph.ensures.network c.graph-graph.ensures.state c.requires.named
    (rw c.node.ensures at c.incoming.ensures.edges) in
    let none = no-report v.report (sym c.is_some.ensures ∙ c.if-is_some.false) in
    let capped = rw (c.trains.ensures.trains, c.graph-graph.ensures.state, c.in-Some.is) at c.capped_by.ensures in
    cap-cause nw st c.state_is_valid.ensures v c.requires.there none xs all c.args.time c.asked_by-due.result c.in-Some.by c.asked_by-due.ensures.due capped

pub returns-in-None-clause-cause : goal.returns-in-None-clause-cause
returns-in-None-clause-cause g c =
    let nw = c.args.t.now.network in
    let st = c.args.t.now.state in
    let v = c.args.at.now in
    let xs = c.incoming.result in
    let all = to-event c.graph-graph.result.now nw st v xs c.graph-graph.ensures.network c.graph-graph.ensures.state c.requires.named
    (rw c.node.ensures at c.incoming.ensures.edges) in
    let none = no-report v.report (sym c.is_some.ensures ∙ c.if-is_some.false) in
    let capped = rw (c.trains.ensures.trains, c.graph-graph.ensures.state, c.in-None.is) at c.capped_by.ensures in
    due-decides nw st c.state_is_valid.ensures v c.requires.there none xs all c.args.time c.asked_by-due.result c.requires.at c.asked_by-due.ensures.due
    capped ∙ ap Some (sym c.due_cause.ensures)

pub returns-in-Some-clause-cost : goal.returns-in-Some-clause-cost
returns-in-Some-clause-cost g c =
    let xs = c.incoming.result in
    let all = to-event c.graph-graph.result.now c.args.t.now.network c.args.t.now.state c.args.at.now xs
    c.graph-graph.ensures.network c.graph-graph.ensures.state c.requires.named (rw c.node.ensures at c.incoming.ensures.edges) in
    omega (arith, c.asked_by-due.ensures.cost, length_permutation xs _ all)

pub returns-in-None-clause-cost : goal.returns-in-None-clause-cost
returns-in-None-clause-cost g c =
    let xs = c.incoming.result in
    let all = to-event c.graph-graph.result.now c.args.t.now.network c.args.t.now.state c.args.at.now xs
    c.graph-graph.ensures.network c.graph-graph.ensures.state c.requires.named (rw c.node.ensures at c.incoming.ensures.edges) in
    omega (arith, c.asked_by-due.ensures.cost, length_permutation xs _ all)
