use Rattle.train_nodes.proofs.Words.{arith, with_forecast, live-there}
use Rattle.train_nodes.proofs.EditLemmas.{slot-edited}
use Rattle.train_nodes.proofs.ReadLemmas.{missing-read}
use Rattle.train_nodes.proofs.trains.Trains.put_forecast.Goals as goal

pub invariant_of-self : goal.invariant_of-self
invariant_of-self c =
    (slot-edited c.args.n (with_forecast c.args.forecast) c.edit.new.self c.self.invariant c.self.view_is c.deref.ensures.value c.in-Some.ensures c.index_mut.ensures.value c.edit.ensures.call c.edit.ensures.rest (λ x. grind arith)).0

pub returns-in-Some : goal.returns-in-Some
returns-in-Some c =
    (slot-edited c.args.n (with_forecast c.args.forecast) c.edit.new.self c.self.invariant c.self.view_is c.deref.ensures.value c.in-Some.ensures c.index_mut.ensures.value c.edit.ensures.call c.edit.ensures.rest (λ x. grind arith)).1

pub returns-in_default : goal.returns-in_default
returns-in_default c =
    let live = live-there c.args.self.now c.args.n c.requires in
    absurd (missing-read c.args.n.train c.args.n.label c.self.invariant c.self.view_is c.deref.ensures.value c.in_default.ensures live)
