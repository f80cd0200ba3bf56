use Rattle.block_lists.proofs.Words.{sym, ◌∙◌}
use Rattle.block_lists.proofs.EditLemmas.{viewed-length}
use Rattle.block_lists.proofs.block_list.BlockList.len.Goals as goal

pub returns : goal.returns
returns g c =
    let v = c.self.inside in
    let size = viewed-length v.starts.items v.stored.items v.room c.args.self.now c.self.view_is in
    c.len.ensures ∙ v.stored.ok.0 ∙ sym size
