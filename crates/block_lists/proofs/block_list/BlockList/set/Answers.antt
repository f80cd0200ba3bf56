use Rattle.block_lists.proofs.Words.{◌<◌, arith, length}
use Rattle.block_lists.proofs.EditLemmas.{replaced, viewed-length}
use Rattle.block_lists.proofs.PlaceLemmas.{inside}
use Rattle.block_lists.proofs.block_list.BlockList.set.Goals as goal

pub stored_at-at-requires-clause-known : goal.stored_at-at-requires-clause-known
stored_at-at-requires-clause-known g c =
    let v = c.self.inside in
    let size = viewed-length v.starts.items v.stored.items v.room c.args.self.now c.self.view_is in
    let few : c.args.place < length v.stored.items = omega (arith, c.requires, size) in
    rw c.deref.ensures.value (omega (arith, few, c.self.invariant.blocks.known))

pub index_mut-requires : goal.index_mut-requires
index_mut-requires g c =
    let v = c.self.inside in
    let size = viewed-length v.starts.items v.stored.items v.room c.args.self.now c.self.view_is in
    let few : c.args.place < length v.stored.items = omega (arith, c.requires, size) in
    let at = rw c.deref.ensures.value at c.stored_at-at.ensures in
    rw (at, v.stored.ok.0) (inside v.starts.items (length v.stored.items) c.args.place c.self.invariant.blocks few)

pub returns-clause-items : goal.returns-clause-items
returns-clause-items g c =
    let v = c.self.inside in
    let size = viewed-length v.starts.items v.stored.items v.room c.args.self.now c.self.view_is in
    let few : c.args.place < length v.stored.items = omega (arith, c.requires, size) in
    let at = rw c.deref.ensures.value at c.stored_at-at.ensures in
    rw (at, ← c.self.view_is) (replaced v.starts.items v.stored.items c.self.invariant.blocks c.args.place c.args.item few)
