use Rattle.std.proofs.Common.{◌≡◌, ◌≤◌, ◌||◌, true, nat_eq, refl, sym, ◌∙◌, arith}
use Rattle.std.proofs.lemmas.Bool.Decides.{nat_tests}
use Rattle.train_nodes.proofs.EventLemmas.{live-there}
use Rattle.graph_edit.proofs.RoomLemmas.{room}
use Rattle.graph_edit.proofs.values.leaves_room.Goals.{then-replaces, else-replaces, then-eq, else-eq}
use Rattle.graph_edit.proofs.values.leaves_room.Goals as goal

pub report-requires : goal.report-requires
report-requires c = rw c.trains-trains.ensures.trains (live-there c.args.g.now.state c.args.n.now c.requires.live)

pub next_report-requires : goal.next_report-requires
next_report-requires c = rw c.trains-trains.ensures.trains (live-there c.args.g.now.state c.args.n.now c.requires.live)

pub is_behind_reports-requires-clause-there : goal.is_behind_reports-requires-clause-there
is_behind_reports-requires-clause-there c = live-there c.args.g.now.state c.args.n.now c.requires.live

pub returns-then-le : goal.returns-then-le
returns-then-le c = λ yes.
    let g = c.args.g.now in
    let trains = c.trains-trains.ensures.trains in
    let own : (c.args.replaces || nat_eq c.unwrap_or-own.result c.args.t) ≡ c.if-replaces.value = elim c.if-replaces.branch [
      | then-replaces w ↦ rw (w.value-is, w.if-replaces.true) refl
      | else-replaces w ↦ rw (w.value-is, w.eq.ensures, w.if-replaces.false) refl
    ] in
    let both : (c.if-replaces.value ≡ true) × (c.args.t ≤ c.unwrap_or-next.result) = elim c.if-eq.branch [
      | then-eq w ↦ (w.if-eq.true, let is = sym w.le.ensures ∙ sym w.value-is ∙ c.if-le.true in grind (arith, nat_tests))
      | else-eq w ↦ absurd (let is = sym w.value-is ∙ c.if-le.true in let no = w.if-eq.false in cc)
    ] in
    room g.network g.state c.requires.valid c.args.replaces c.args.t c.args.n.now c.report.result (rw trains at c.report.ensures) (rw c.unwrap_or-own.ensures at own ∙ both.0) (rw (c.unwrap_or-next.ensures, c.next_report.ensures, trains) at both.1) (c.is_behind_reports.ensures yes)
