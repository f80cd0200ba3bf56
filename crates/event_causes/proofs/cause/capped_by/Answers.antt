use Rattle.std.proofs.Common.{◌≡◌, ◌∙◌, true, false, nat_lt, ap}
use Rattle.std.specs.Option.{option_map}
use Rattle.std.proofs.lemmas.Bool.{le-ltb, lt-ltb}
use Rattle.mt_base.specs.Order.{node_of}
use Rattle.cause_laws.specs.declared.causes.Cause.TheVariants.{Capped}
use Rattle.edge_rules.proofs.Neighbours.{named-there}
use Rattle.event_causes.proofs.Cappers.{cap-none, cap-some}
use Rattle.event_causes.proofs.cause.capped_by.Goals as goal

pub next_report-requires : goal.next_report-requires
next_report-requires c = rw c.node.ensures (named-there c.args.trains.now (node_of c.args.at.now.key) c.args.at.now c.requires)

pub returns-in_err-report : goal.returns-in_err-report
returns-in_err-report c = ap (option_map Capped) c.from_residual.ensures
    ∙ cap-none c.args.trains.now c.args.at.now c.args.due c.requires (rw c.node.ensures at c.in_err-report.ensures)

pub returns-then-seconds-due : goal.returns-then-seconds-due
returns-then-seconds-due c =
    let before : nat_lt c.in_ok-report.report c.args.due ≡ true = lt-ltb c.in_ok-report.report c.args.due
    (rw c.seconds.ensures.value at c.if-seconds-due.true) in
    let all = cap-some c.args.trains.now c.args.at.now c.args.due c.in_ok-report.report c.requires (rw c.node.ensures at c.in_ok-report.ensures) in
    ap (option_map Capped) c.next_reported.ensures ∙ rw before at all

pub returns-else-seconds-due : goal.returns-else-seconds-due
returns-else-seconds-due c =
    let before : nat_lt c.in_ok-report.report c.args.due ≡ false = le-ltb c.in_ok-report.report c.args.due
    (rw c.seconds.ensures.value at c.if-seconds-due.false) in
    let all = cap-some c.args.trains.now c.args.at.now c.args.due c.in_ok-report.report c.requires (rw c.node.ensures at c.in_ok-report.ensures) in
    rw before at all
