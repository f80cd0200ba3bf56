use Rattle.block_lists.proofs.Words.{ap, nat_eq, sym, ◌∙◌}
use Rattle.block_lists.proofs.EditLemmas.{viewed-length}
use Rattle.block_lists.proofs.block_list.BlockList.is_empty.Goals as goal

pub returns : goal.returns
returns g c =
    let v = c.self.inside in
    let size = viewed-length v.starts.items v.stored.items v.room c.args.self.now c.self.view_is in
    c.is_empty.ensures ∙ ap (λ n. nat_eq n 0) (v.stored.ok.0 ∙ sym size)
