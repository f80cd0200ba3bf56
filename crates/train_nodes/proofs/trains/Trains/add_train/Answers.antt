use Rattle.train_nodes.proofs.Words.{◌≡◌, ◌∙◌, refl, sym, ap, map, length-map, Inside, Train, IsStored, seen, effect, loaded_train, with_train, by_table}
use Rattle.train_nodes.proofs.Words.{extra-train, extra-length}
use Rattle.train_nodes.proofs.LoadLemmas.{loaded}
use Rattle.train_nodes.proofs.trains.Trains.add_train.Goals as goal

done : (c : goal.After-push_reserved) → (
    let b : Inside = record c.self.inside { records = c.push_reserved.new.self; calls = c.push_extra_calls.new.all; slots = c.push_train-first.new.self } in
    IsStored b × (seen b ≡ with_train (loaded_train c.args.day c.args.route (map by_table c.args.calls.now)) c.args.self.now))
done c =
    rw c.push_train-first.ensures.slots (loaded _ _ _ _ (map by_table c.args.calls.now) c.args.self.now c.self.invariant c.self.view_is (c.new-number.ensures ∙ c.count.ensures)
    c.push_train-first.ensures.first c.push_reserved.ensures.items c.push_extra_calls.ensures.laid
    c.push_reserved.ensures.capacity c.push_extra_calls.ensures.capacity c.requires.two_calls c.requires.train_spare
    c.requires.calls_spare c.numbers_are_lawful.ensures.small (sym (length-map c.args.calls.now by_table)))

pub invariant_of-self : goal.invariant_of-self
invariant_of-self c = (done c).0

pub returns-clause-train : goal.returns-clause-train
unfolding effect
returns-clause-train c =
    (done c).1
    ∙ ap (λ (t : Train). with_train t c.args.self.now) (extra-train c.args.day c.args.route c.args.calls.now)
    ∙ rw (extra-length c.args.day c.args.route c.args.calls.now) refl
