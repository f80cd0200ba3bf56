use Rattle.block_lists.proofs.Words.{◌≡◌, ◌-◌, ◌/◌, ◌<◌, ◌∙◌, ap, arith, drop, length, length-remove, length-set, set, sym, take_at}
use Rattle.block_lists.proofs.EditLemmas.{blocks-fewer, removed, viewed-length}
use Rattle.block_lists.proofs.block_list.BlockList.remove.Goals as goal

pub remove-carried-requires : goal.remove-carried-requires
remove-carried-requires g c =
    let v = c.self.inside in
    let size = viewed-length v.starts.items v.stored.items v.room c.args.self.now c.self.view_is in
    omega (arith, size, c.requires, v.stored.ok.0)

pub move_back-requires-clause-blocks : goal.move_back-requires-clause-blocks
move_back-requires-clause-blocks g c =
    let v = c.self.inside in
    let size = viewed-length v.starts.items v.stored.items v.room c.args.self.now c.self.view_is in
    let place = c.args.place in
    let end = c.max-end.result in
    let s = c.settle.new.starts in
    let t = c.settle.new.stored in
    let few : place < length v.stored.items = omega (arith, c.requires, size) in
    let long = v.stored.ok.0 in
    let count : c.len.result ≡ length v.stored.items = c.len.ensures ∙ long in
    let last = (length v.stored.items - 1) / 256 in
    let begins : s ≡ set v.starts.items last 0 = rw (c.deref_mut-2.ensures.value, count) at c.settle.ensures.starts in
    let kept_s = take_at s (drop (length s) v.starts.items) v.starts.len (ap length begins ∙ length-set v.starts.items last 0 ∙ sym v.starts.ok.0) in
    let same_t : length t ≡ length v.stored.items = rw c.deref_mut.ensures.value at c.settle.ensures.length in
    let kept_t = take_at t (drop (length t) v.stored.items) v.stored.len (same_t ∙ sym long) in
    let items = rw kept_t at c.remove-carried.ensures.items in
    let inner : end < length v.stored.items = omega (arith, few, count) in
    let fewer : length c.remove-carried.new.self.items ≡ length v.stored.items - 1 = omega (arith, ap length items, length-remove t end (omega (arith, inner, same_t)), same_t) in
    rw (c.deref_mut-4.ensures.value, kept_s, begins, c.deref_mut-3.ensures.value, fewer) (blocks-fewer v.starts.items (length v.stored.items) last (omega (arith, few)) (omega arith) c.self.invariant.blocks)

pub returns-clause-value : goal.returns-clause-value
returns-clause-value g c =
    let v = c.self.inside in
    let size = viewed-length v.starts.items v.stored.items v.room c.args.self.now c.self.view_is in
    let place = c.args.place in
    let end = c.max-end.result in
    let s = c.settle.new.starts in
    let t = c.settle.new.stored in
    let few : place < length v.stored.items = omega (arith, c.requires, size) in
    let long = v.stored.ok.0 in
    let count : c.len.result ≡ length v.stored.items = c.len.ensures ∙ long in
    let last = (length v.stored.items - 1) / 256 in
    let begins : s ≡ set v.starts.items last 0 = rw (c.deref_mut-2.ensures.value, count) at c.settle.ensures.starts in
    let kept_s = take_at s (drop (length s) v.starts.items) v.starts.len (ap length begins ∙ length-set v.starts.items last 0 ∙ sym v.starts.ok.0) in
    let same_t : length t ≡ length v.stored.items = rw c.deref_mut.ensures.value at c.settle.ensures.length in
    let kept_t = take_at t (drop (length t) v.stored.items) v.stored.len (same_t ∙ sym long) in
    let items = rw kept_t at c.remove-carried.ensures.items in
    let inner : end < length v.stored.items = omega (arith, few, count) in
    let value = rw kept_t at c.remove-carried.ensures.value in
    let same = rw (c.settle.ensures.starts, c.deref_mut-2.ensures.value, c.deref_mut.ensures.value, count) at c.settle.ensures.same in
    let moved = rw (c.deref_mut-4.ensures.value, kept_s, begins, c.deref_mut-3.ensures.value, items) at c.move_back.ensures in
    let gone = removed v.starts.items v.stored.items t c.self.invariant.blocks place end (omega arith) inner (omega (arith, count)) same_t same c.move_back.new.starts c.move_back.new.stored c.remove-carried.result c.move_back.result value moved in
    rw (← c.self.view_is) gone.0

pub returns-clause-items : goal.returns-clause-items
returns-clause-items g c =
    let v = c.self.inside in
    let size = viewed-length v.starts.items v.stored.items v.room c.args.self.now c.self.view_is in
    let place = c.args.place in
    let end = c.max-end.result in
    let s = c.settle.new.starts in
    let t = c.settle.new.stored in
    let few : place < length v.stored.items = omega (arith, c.requires, size) in
    let long = v.stored.ok.0 in
    let count : c.len.result ≡ length v.stored.items = c.len.ensures ∙ long in
    let last = (length v.stored.items - 1) / 256 in
    let begins : s ≡ set v.starts.items last 0 = rw (c.deref_mut-2.ensures.value, count) at c.settle.ensures.starts in
    let kept_s = take_at s (drop (length s) v.starts.items) v.starts.len (ap length begins ∙ length-set v.starts.items last 0 ∙ sym v.starts.ok.0) in
    let same_t : length t ≡ length v.stored.items = rw c.deref_mut.ensures.value at c.settle.ensures.length in
    let kept_t = take_at t (drop (length t) v.stored.items) v.stored.len (same_t ∙ sym long) in
    let items = rw kept_t at c.remove-carried.ensures.items in
    let inner : end < length v.stored.items = omega (arith, few, count) in
    let value = rw kept_t at c.remove-carried.ensures.value in
    let same = rw (c.settle.ensures.starts, c.deref_mut-2.ensures.value, c.deref_mut.ensures.value, count) at c.settle.ensures.same in
    let moved = rw (c.deref_mut-4.ensures.value, kept_s, begins, c.deref_mut-3.ensures.value, items) at c.move_back.ensures in
    let gone = removed v.starts.items v.stored.items t c.self.invariant.blocks place end (omega arith) inner (omega (arith, count)) same_t same c.move_back.new.starts c.move_back.new.stored c.remove-carried.result c.move_back.result value moved in
    let starts = c.move_back.new.starts in
    let left = c.move_back.new.stored in
    let rest = c.remove-carried.new.self in
    let kept_starts = take_at starts (drop (length starts) s) v.starts.len (moved.same_starts ∙ length-set v.starts.items last 0 ∙ sym v.starts.ok.0) in
    let kept_left = take_at left (drop (length left) rest.items) rest.len (moved.same_length ∙ ap length (sym items) ∙ sym rest.ok.0) in
    rw (kept_s, kept_starts, kept_left, ← c.self.view_is) gone.1
