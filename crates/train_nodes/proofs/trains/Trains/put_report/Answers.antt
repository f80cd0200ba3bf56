use Rattle.train_nodes.proofs.Words.{with_report, live-there}
use Rattle.train_nodes.proofs.EditLemmas.{slot-renewed}
use Rattle.train_nodes.proofs.ReadLemmas.{missing-read}
use Rattle.train_nodes.proofs.trains.Trains.put_report.Goals as goal

pub invariant_of-self : goal.invariant_of-self
invariant_of-self c =
    (slot-renewed c.args.n (with_report c.args.report) c.edit.new.self c.self.invariant c.self.view_is c.deref.ensures.value c.in-Some.ensures c.index_mut.ensures.value c.edit.ensures.call c.edit.ensures.rest c.renew_before.new.calls c.renew_before.ensures.renewed c.renew_before.ensures.capacity).0

pub returns-in-Some : goal.returns-in-Some
returns-in-Some c =
    (slot-renewed c.args.n (with_report c.args.report) c.edit.new.self c.self.invariant c.self.view_is c.deref.ensures.value c.in-Some.ensures c.index_mut.ensures.value c.edit.ensures.call c.edit.ensures.rest c.renew_before.new.calls c.renew_before.ensures.renewed c.renew_before.ensures.capacity).1

pub returns-in_default : goal.returns-in_default
returns-in_default c =
    let live = live-there c.args.self.now c.args.n c.requires in
    absurd (missing-read c.args.n.train c.args.n.label c.self.invariant c.self.view_is c.deref.ensures.value c.in_default.ensures live)
