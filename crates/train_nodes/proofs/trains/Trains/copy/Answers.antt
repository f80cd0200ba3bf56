use Rattle.train_nodes.proofs.Words.{ap, length, ◌∙◌, arith}
use Rattle.train_nodes.proofs.ReadLemmas.{copied-stored}
use Rattle.train_nodes.proofs.trains.Trains.copy.Goals as goal

pub invariant_of-result : goal.invariant_of-result
invariant_of-result c =
    let records = c.in_ok-copy_with_room.ensures in
    let calls = c.in_ok-copy_with_room-2.ensures in
    copied-stored c.self.inside _ c.self.invariant (records.items ∙ c.as_slice.ensures.value) (calls.items ∙ c.as_slice-2.ensures.value) c.in_ok-copy.ensures
    (omega (arith, records.room, ap length c.as_slice.ensures.value)) (omega (arith, calls.room, ap length c.as_slice-2.ensures.value))
