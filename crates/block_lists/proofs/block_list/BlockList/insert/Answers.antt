use Rattle.block_lists.proofs.Words.{◌<◌, ◌≤◌, ◌∙◌, arith, drop, length, sym, take_at}
use Rattle.block_lists.proofs.EditLemmas.{inserted, viewed-length}
use Rattle.block_lists.proofs.block_list.BlockList.insert.Goals as goal

pub insert-requires : goal.insert-requires
insert-requires g c =
    let v = c.self.inside in
    let size = viewed-length v.starts.items v.stored.items v.room c.args.self.now c.self.view_is in
    omega (arith, size, c.requires.place, v.stored.ok.0)

pub returns-clause-items : goal.returns-clause-items
returns-clause-items g c =
    let v = c.self.inside in
    let size = viewed-length v.starts.items v.stored.items v.room c.args.self.now c.self.view_is in
    let place = c.args.place in
    let end = c.max-end.result in
    let carried = c.move_on-carried.result in
    let starts = c.move_on-carried.new.starts in
    let stored = c.move_on-carried.new.stored in
    let spare : 0 < v.room = rw (← c.self.view_is) at c.requires.room in
    let within : place ≤ length v.stored.items = omega (arith, size, c.requires.place) in
    let long = v.stored.ok.0 in
    let moved = rw (c.deref_mut-2.ensures.value, c.deref_mut.ensures.value) at c.move_on-carried.ensures in
    let kept_starts = take_at starts (drop (length starts) v.starts.items) v.starts.len (moved.same_starts ∙ sym v.starts.ok.0) in
    let kept_stored = take_at stored (drop (length stored) v.stored.items) v.stored.len (moved.same_length ∙ sym long) in
    let done = c.insert.ensures.succeeds (omega (arith, spare, long, c.self.invariant.fits)) in
    let items = rw (done, kept_stored) at c.insert.ensures.items in
    rw (kept_starts, items, ← c.self.view_is) (inserted v.starts.items v.stored.items c.self.invariant.blocks place starts stored end c.args.item carried (omega arith) (omega (arith, within, long)) (omega (arith, long)) (omega (arith, spare, moved.same_starts, c.self.invariant.room_known)) moved)
