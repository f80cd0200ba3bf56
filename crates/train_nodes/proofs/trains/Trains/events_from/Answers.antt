use Rattle.train_nodes.proofs.Words.{arith, sym, ap, ◌∙◌}
use Rattle.train_nodes.proofs.FromCalls.{from-read, missing-from}
use Rattle.train_nodes.proofs.ReadLemmas.{found-read}
use Rattle.train_nodes.proofs.StoredLemmas.{row-of}
use Rattle.train_nodes.proofs.trains.Trains.events_from.Goals as goal

pub returns-in_default : goal.returns-in_default
returns-in_default c =
    c.none.ensures ∙ sym (missing-from c.args.t c.args.l c.self.invariant c.self.view_is c.deref.ensures.value (c.in_default.ensures))

pub overflow_sub-row : goal.overflow_sub-row
overflow_sub-row c =
    let row = row-of c.index-row.result.now (found-read c.self.invariant c.self.view_is c.deref.ensures.value c.in-Some.ensures c.index.ensures).2.of c.get.ensures c.index-row.ensures in
    grind (arith, row, c.place-before.ensures, (from-read c.self.invariant c.self.view_is c.deref.ensures.value c.in-Some.ensures c.index.ensures).0)

pub returns : goal.returns
returns c =
    let row = row-of c.index-row.result.now (found-read c.self.invariant c.self.view_is c.deref.ensures.value c.in-Some.ensures c.index.ensures).2.of c.get.ensures c.index-row.ensures in
    grind (arith, row, c.place-before.ensures, c.new.ensures, c.deref-2.ensures.value, (from-read c.self.invariant c.self.view_is c.deref.ensures.value c.in-Some.ensures c.index.ensures).1)
