use Rattle.block_lists.proofs.Words.{◌<◌, ◌∙◌, ap, arith, get_or, length, sym}
use Rattle.block_lists.proofs.EditLemmas.{viewed-length}
use Rattle.block_lists.proofs.PlaceLemmas.{get-element, inside}
use Rattle.block_lists.proofs.block_list.BlockList.get.Goals as goal

pub stored_at-at-requires-clause-known : goal.stored_at-at-requires-clause-known
stored_at-at-requires-clause-known g c =
    let v = c.self.inside in
    let size = viewed-length v.starts.items v.stored.items v.room c.args.self.now c.self.view_is in
    let few : c.args.place < length v.stored.items = omega (arith, c.requires, size) in
    rw c.deref.ensures.value (omega (arith, few, c.self.invariant.blocks.known))

pub index-requires : goal.index-requires
index-requires g c =
    let v = c.self.inside in
    let size = viewed-length v.starts.items v.stored.items v.room c.args.self.now c.self.view_is in
    let few : c.args.place < length v.stored.items = omega (arith, c.requires, size) in
    let at = rw c.deref.ensures.value at c.stored_at-at.ensures in
    rw (at, v.stored.ok.0) (inside v.starts.items (length v.stored.items) c.args.place c.self.invariant.blocks few)

pub returns : goal.returns
returns g c =
    let v = c.self.inside in
    let size = viewed-length v.starts.items v.stored.items v.room c.args.self.now c.self.view_is in
    let few : c.args.place < length v.stored.items = omega (arith, c.requires, size) in
    let at = rw c.deref.ensures.value at c.stored_at-at.ensures in
    let x = c.index.result.now in
    rw (← c.self.view_is) (c.index.ensures ∙ ap (λ j. get_or v.stored.items j x) at ∙ sym (get-element v.starts.items v.stored.items c.args.place x c.self.invariant.blocks few))
