use Rattle.train_nodes.proofs.Words.{arith}
use Rattle.train_nodes.proofs.ReadLemmas.{missing-read, beside-read}
use Rattle.std.proofs.lemmas.Option.{gets}
use Rattle.train_nodes.proofs.trains.Trains.prev_call.Goals as goal

pub returns-in_err-slot : goal.returns-in_err-slot
returns-in_err-slot c = absurd (missing-read c.args.t c.args.l c.self.invariant c.self.view_is c.deref.ensures.value c.in_err-slot.ensures c.requires)

pub index-requires : goal.index-requires
index-requires c = grind (arith, beside-read c.self.invariant c.self.view_is c.deref.ensures.value c.in_ok-slot.ensures c.index-call.ensures, c.if-place-eq0.false, c.before-else-place-eq0.ensures)

pub returns-then-place-eq0 : goal.returns-then-place-eq0
returns-then-place-eq0 c = grind (arith, beside-read c.self.invariant c.self.view_is c.deref.ensures.value c.in_ok-slot.ensures c.index-call.ensures, c.if-place-eq0.true)

pub returns-else-place-eq0 : goal.returns-else-place-eq0
returns-else-place-eq0 c =
    grind (arith, gets, beside-read c.self.invariant c.self.view_is c.deref.ensures.value c.in_ok-slot.ensures c.index-call.ensures, c.if-place-eq0.false, c.before-else-place-eq0.ensures, c.index.ensures, c.label.ensures)
