use Rattle.std.proofs.Common.{sym, ◌∙◌, arith}
use Rattle.std.proofs.lemmas.Bool.Decides.{nat_tests}
use Rattle.graph_edit.proofs.RoomLemmas.{begins, fewer, found, goes-on}
use Rattle.graph_edit.proofs.values.is_behind_reports.Goals as goal

pub loop-next-init : goal.loop-next-init
loop-next-init c =
    let trains = c.trains-trains.ensures in
    begins c.args.g.now.state trains.labels c.args.t c.args.n.now c.previous-next.result c.requires.there (rw trains.trains at c.previous-next.ensures)

pub returns-in-Some-report : goal.returns-in-Some-report
returns-in-Some-report c = λ yes.
    let g = c.args.g.now in
    let named = rw c.trains-trains.ensures.trains at c.report.ensures in
    found g.network g.state c.requires.valid c.args.t c.in-Some-report.reported c.args.n.now c.in-Some.earlier (rw c.in-Some.is at c.loop-next.invariant) (rw c.in-Some-report.is at named)
    (let is = sym c.le.ensures ∙ yes in grind (arith, nat_tests))

pub loop-next-smaller : goal.loop-next-smaller
loop-next-smaller c =
    let st = c.args.g.now.state in
    let trains = c.trains-trains.ensures in
    let at = rw c.in-Some.is at c.loop-next.invariant in
    rw c.in-Some.is (fewer st trains.labels c.in-Some.earlier c.previous-next-in-Some.result at.1.there (rw trains.trains at c.previous-next-in-Some.ensures))

pub loop-next-preserved : goal.loop-next-preserved
loop-next-preserved c =
    let st = c.args.g.now.state in
    let trains = c.trains-trains.ensures in
    let named = rw trains.trains at c.report.ensures in
    goes-on st trains.labels c.args.t c.args.n.now c.in-Some.earlier c.previous-next-in-Some.result (rw c.in-Some.is at c.loop-next.invariant) (rw c.in_default-report.is at named) (rw trains.trains at c.previous-next-in-Some.ensures)
