use Rattle.train_nodes.proofs.Words.{arith}
use Rattle.train_nodes.proofs.ReadLemmas.{missing-read, report-read}
use Rattle.train_nodes.proofs.trains.Trains.next_report.Goals as goal

pub returns-in_err-slot : goal.returns-in_err-slot
returns-in_err-slot c = absurd (missing-read c.args.n.train c.args.n.label c.self.invariant c.self.view_is c.deref.ensures.value c.in_err-slot.ensures c.requires)

pub returns-then-n : goal.returns-then-n
returns-then-n c = grind (arith, report-read c.args.n c.self.invariant c.self.view_is c.deref.ensures.value c.in_ok-slot.ensures c.index-call.ensures, c.if-n.true, c.next_report.ensures)

pub returns-else-n : goal.returns-else-n
returns-else-n c =
    grind (arith, report-read c.args.n c.self.invariant c.self.view_is c.deref.ensures.value c.in_ok-slot.ensures c.index-call.ensures, c.if-n.false, c.or.ensures, c.departure_report.ensures, c.next_report-else-n.ensures)
