use Rattle.train_nodes.proofs.Words.{◌∙◌, never}
use Rattle.train_nodes.proofs.CancelLemmas.{cancelled}
use Rattle.train_nodes.proofs.FoundParts.{found-part, part-found, stands-found}
use Rattle.train_nodes.proofs.trains.Trains.cancel.Goals as goal

pub returns-in_default : goal.returns-in_default
returns-in_default c =
    absurd (never c.find_part.result c.in_default.is (stands-found c.self.inside c.deref.result.now c.args.self.now c.args.t c.args.from c.args.to c.find_part.result c.self.invariant c.deref.ensures.value c.self.view_is c.find_part.ensures ∙ c.requires))

pub kill-requires : goal.kill-requires
kill-requires c = found-part (part-found c.self.invariant c.deref.ensures.value c.in-Some.ensures).3

pub invariant_of-self : goal.invariant_of-self
invariant_of-self c =
    (cancelled c.kill.new.calls c.renew_train.new.calls c.args.self.now c.remove_overrides.new.overrides c.self.invariant c.self.view_is c.deref.ensures.value c.in-Some.ensures c.deref-2.ensures.value c.remove_overrides.ensures.choices c.remove_overrides.ensures.spare c.get.ensures c.index.ensures c.kill.ensures.killed c.kill.ensures.capacity c.renew_train.ensures.capacity c.renew_train.ensures.renewed).0

pub returns : goal.returns
returns c =
    (cancelled c.kill.new.calls c.renew_train.new.calls c.args.self.now c.remove_overrides.new.overrides c.self.invariant c.self.view_is c.deref.ensures.value c.in-Some.ensures c.deref-2.ensures.value c.remove_overrides.ensures.choices c.remove_overrides.ensures.spare c.get.ensures c.index.ensures c.kill.ensures.killed c.kill.ensures.capacity c.renew_train.ensures.capacity c.renew_train.ensures.renewed).1
