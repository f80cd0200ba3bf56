use Rattle.dep_order.proofs.Words.{sym, ◌∙◌, ap, arith, length}
use Rattle.dep_order.proofs.ScanLemmas.{left-step}
use Rattle.dep_order.proofs.scan.DeparturesIterator.next.Goals as goal

pub returns-clause-steps : goal.returns-clause-steps
returns-clause-steps c =
    sym c.self.view_is ∙ left-step c.self.inside.lists.now c.self.inside.number c.step-step.result.leaving c.step-step.result.ahead.bucket c.step-step.result.ahead.number c.self.invariant.kept c.if-self.false c.step-step.ensures

pub returns-clause-goes : goal.returns-clause-goes
returns-clause-goes c =
    let less = ap length (returns-clause-steps c) in
    record { on = λ _. (tt, tt, omega arith); keeps = tt; rests = λ _. tt }
