use Rattle.station_index.proofs.Words.{length, ◌∙◌}
use Rattle.station_index.proofs.SlotLemmas.{length-rebuilt, part-is, slot-found}
use Rattle.station_index.proofs.loaded.LoadedEntries.slot_part.Goals as goal

pub bounds_of-start-requires : goal.bounds_of-start-requires
bounds_of-start-requires c = rw (c.deref.ensures.value, c.len.ensures ∙ c.self.inside.events.ok.0) c.self.invariant.ends

pub returns-clause-few : goal.returns-clause-few
returns-clause-few c = rw (← c.self.view_is, length-rebuilt c.self.inside.ends.items 0 c.self.inside.events.items) c.self.invariant.few

pub returns-clause-slot : goal.returns-clause-slot
returns-clause-slot c =
    let a = c.self.inside in
    let slot = c.slot_number.result in
    let part = part-is a.ends.items (length a.events.items) c.self.invariant.ends slot in
    rw (← c.self.view_is, c.bounds_of-start.ensures.start, c.bounds_of-start.ensures.end, c.deref.ensures.value, c.deref-2.ensures.value, c.len.ensures ∙ a.events.ok.0)
    (slot-found c.args.stop c.args.dep a.ends.items a.events.items c.self.invariant.ends slot _ _ c.slot_number.ensures part)
