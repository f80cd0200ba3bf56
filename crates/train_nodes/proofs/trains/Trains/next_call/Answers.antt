use Rattle.train_nodes.proofs.Words.{arith}
use Rattle.train_nodes.proofs.ReadLemmas.{missing-read, found-read, beside-read}
use Rattle.train_nodes.proofs.StoredLemmas.{row-of}
use Rattle.std.proofs.lemmas.Option.{gets}
use Rattle.train_nodes.proofs.trains.Trains.next_call.Goals as goal

pub returns-in_err-slot : goal.returns-in_err-slot
returns-in_err-slot c = absurd (missing-read c.args.t c.args.l c.self.invariant c.self.view_is c.deref.ensures.value c.in_err-slot.ensures c.requires)

pub overflow_add-place : goal.overflow_add-place
overflow_add-place c = let w = found-read c.self.invariant c.self.view_is c.deref.ensures.value c.in_ok-slot.ensures c.index-call.ensures in omega (arith, w.2.within, w.2.few)

pub index-requires-else-place-index : goal.index-requires-else-place-index
index-requires-else-place-index c =
    let row = row-of c.index.result.now (found-read c.self.invariant c.self.view_is c.deref.ensures.value c.in_ok-slot.ensures c.index-call.ensures).2.of c.get.ensures c.index.ensures in
    grind (arith, beside-read c.self.invariant c.self.view_is c.deref.ensures.value c.in_ok-slot.ensures c.index-call.ensures, row, c.if-place-index.false, c.after.ensures)

pub returns-then-place-index : goal.returns-then-place-index
returns-then-place-index c =
    let row = row-of c.index.result.now (found-read c.self.invariant c.self.view_is c.deref.ensures.value c.in_ok-slot.ensures c.index-call.ensures).2.of c.get.ensures c.index.ensures in
    grind (arith, beside-read c.self.invariant c.self.view_is c.deref.ensures.value c.in_ok-slot.ensures c.index-call.ensures, row, c.if-place-index.true)

pub returns-else-place-index : goal.returns-else-place-index
returns-else-place-index c =
    let row = row-of c.index.result.now (found-read c.self.invariant c.self.view_is c.deref.ensures.value c.in_ok-slot.ensures c.index-call.ensures).2.of c.get.ensures c.index.ensures in
    grind (arith, gets, beside-read c.self.invariant c.self.view_is c.deref.ensures.value c.in_ok-slot.ensures c.index-call.ensures, row, c.if-place-index.false, c.after.ensures, c.index-else-place-index.ensures, c.label.ensures)
