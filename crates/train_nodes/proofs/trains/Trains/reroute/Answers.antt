use Rattle.train_nodes.proofs.Words.{◌+◌, ◌-◌, length, refl, ◌∙◌, arith, with_item, TrainRecord, never, ◌≡◌, Inside, IsStored, seen, effect, Reroute}
use Rattle.train_nodes.proofs.FoundParts.{found-part, part-found, part-len, stands-found}
use Rattle.train_nodes.proofs.RerouteLemmas.{rerouted-as}
use Rattle.train_nodes.proofs.trains.Trains.reroute.Goals as goal

pub returns-in_default : goal.returns-in_default
returns-in_default c =
    absurd (never c.find_part.result c.in_default.is (stands-found c.self.inside c.deref.result.now c.args.self.now c.args.t c.args.from c.args.to c.find_part.result c.self.invariant c.deref.ensures.value c.self.view_is c.find_part.ensures ∙ c.requires.stand))

pub replace-requires : goal.replace-requires
replace-requires c =
    let w = (part-found c.self.invariant c.deref.ensures.value c.in-Some.ensures).3 in
    grind (arith, w, found-part w, rw (← c.self.view_is) at c.requires.spare, c.next_label-label.ensures.label, c.numbers_are_lawful.ensures.small)

pub overflow_sub-len-3 : goal.overflow_sub-len-3
overflow_sub-len-3 c =
    omega (arith, part-len c.self.invariant c.deref.ensures.value c.in-Some.ensures c.index.result.now c.get.ensures c.index.ensures)

pub overflow_add-len : goal.overflow_add-len
overflow_add-len c =
    omega (arith, rw (← c.self.view_is) at c.requires.spare, part-len c.self.invariant c.deref.ensures.value c.in-Some.ensures c.index.result.now c.get.ensures c.index.ensures)

-- after all steps, trains are stored, and seen as the model's
done : (c : goal.After-renew_behind) → (
    let told : TrainRecord = record c.index_mut.result.now { len = c.index.result.now.len - (c.in-Some.part.last - c.in-Some.part.first - 1) + length c.args.via.now } in
    let b : Inside = record { records = with_item c.self.inside.records c.get-2.result told; calls = c.renew_behind.new.calls; slots = c.add_calls.new.self; overrides = c.remove_overrides.new.overrides } in
    IsStored b × (seen b ≡ effect c.args.self.now (Reroute c.args.t c.args.from c.args.to c.args.via.now)))
done c =
    rerouted-as _ _ _ _ _ _ _ _ _
    c.self.invariant c.self.view_is c.deref.ensures.value c.in-Some.ensures c.requires.spare c.deref-2.ensures.value c.remove_overrides.ensures.choices c.remove_overrides.ensures.spare
    c.numbers_are_lawful.ensures.loaded c.next_label-label.ensures.label c.add_calls.ensures.slots c.replace.ensures.replaced c.get.ensures c.index.ensures c.get-2.ensures c.index_mut.ensures.value
    refl refl (c.renew_behind.ensures.capacity ∙ c.replace.ensures.capacity) c.renew_behind.ensures.renewed

pub invariant_of-self : goal.invariant_of-self
invariant_of-self c = (done c).0

pub returns : goal.returns
returns c = (done c).1
