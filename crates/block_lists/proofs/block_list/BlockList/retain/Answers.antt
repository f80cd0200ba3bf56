use Rattle.block_lists.proofs.Words.{◌≡◌, ◌/◌, ◌<◌, ◌∙◌, arith, drop, elements, length, sym, take_at}
use Rattle.block_lists.proofs.EditLemmas.{blocks-settled, in-order, same-elements, viewed-length, viewed-room}
use Rattle.block_lists.proofs.PlaceLemmas.{length-elements}
use Rattle.block_lists.proofs.block_list.BlockList.retain.Goals as goal

pub returns-clause-items : goal.returns-clause-items
returns-clause-items g c =
    let v = c.self.inside in
    let s = c.settle_all.new.starts in
    let t = c.settle_all.new.stored in
    let left = c.retain.new.self.items in
    let known = c.self.invariant.blocks.known in
    let same_s : length s ≡ length v.starts.items = rw c.deref_mut-2.ensures.value at c.settle_all.ensures.starts in
    let same_t : length t ≡ length v.stored.items = rw c.deref_mut.ensures.value at c.settle_all.ensures.length in
    let kept_s = take_at s (drop (length s) v.starts.items) v.starts.len (same_s ∙ sym v.starts.ok.0) in
    let kept_t = take_at t (drop (length t) v.stored.items) v.stored.len (same_t ∙ sym v.stored.ok.0) in
    let settled = c.settle_all.ensures.settled in
    let same = rw (c.deref_mut-2.ensures.value, c.deref_mut.ensures.value) at c.settle_all.ensures.same in
    let blocks = blocks-settled s (length t) settled (omega (arith, same_s, same_t, known)) in
    let was : elements v.starts.items v.stored.items ≡ t = sym (same-elements v.starts.items v.stored.items s t c.self.invariant.blocks blocks same_t same) ∙ in-order s t blocks settled in
    let fewer : length left / 256 < length s = omega (arith, same_s, known, c.retain.ensures.bound, c.retain.new.self.ok.0, v.stored.ok.0) in
    let now = in-order s left (blocks-settled s (length left) settled fewer) settled in
    rw (kept_s, now, ← c.self.view_is, was) (rw kept_t at c.retain.ensures.filtered)

pub returns-clause-room : goal.returns-clause-room
returns-clause-room g c =
    let v = c.self.inside in
    let size = viewed-length v.starts.items v.stored.items v.room c.args.self.now c.self.view_is in
    let room = viewed-room v.starts.items v.stored.items v.room c.args.self.now c.self.view_is in
    let s = c.settle_all.new.starts in
    let same_s : length s ≡ length v.starts.items = rw c.deref_mut-2.ensures.value at c.settle_all.ensures.starts in
    let kept_s = take_at s (drop (length s) v.starts.items) v.starts.len (same_s ∙ sym v.starts.ok.0) in
    rw kept_s (omega (arith, length-elements s c.retain.new.self.items, size, room, c.retain.ensures.bound, c.len-before.ensures, c.len.ensures, v.stored.ok.0, c.retain.new.self.ok.0))
