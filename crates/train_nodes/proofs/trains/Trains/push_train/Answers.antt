use Rattle.train_nodes.proofs.Words.{◌≡◌, ◌∙◌, refl, Inside, IsStored, seen, loaded_train, with_train}
use Rattle.train_nodes.proofs.LoadLemmas.{loaded}
use Rattle.train_nodes.proofs.trains.Trains.push_train.Goals as goal

done : (c : goal.After-push_reserved) → (
    let b : Inside = record c.self.inside { records = c.push_reserved.new.self; calls = c.push_calls.new.all; slots = c.push_train-first.new.self } in
    IsStored b × (seen b ≡ with_train (loaded_train c.args.day c.args.route c.args.calls.now) c.args.self.now))
done c =
    rw c.push_train-first.ensures.slots (loaded _ _ _ _ c.args.calls.now c.args.self.now c.self.invariant c.self.view_is (c.new-number.ensures ∙ c.count.ensures)
    c.push_train-first.ensures.first c.push_reserved.ensures.items c.push_calls.ensures.laid
    c.push_reserved.ensures.capacity c.push_calls.ensures.capacity c.requires.two_calls c.requires.train_spare
    c.requires.calls_spare c.numbers_are_lawful.ensures.small refl)

pub invariant_of-self : goal.invariant_of-self
invariant_of-self c = (done c).0

pub returns-clause-train : goal.returns-clause-train
returns-clause-train c = (done c).1
