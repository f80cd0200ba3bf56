use Rattle.change_times.proofs.Words.{◌∙◌, map, ap, arith, take_all, IfOk-weaker, IsPermutation, link_of, HaveRows}
use Rattle.change_times.proofs.NearLemmas.{have-rows}
use Rattle.change_times.proofs.near.links.Goals as goal

pub returns : goal.returns
returns c =
    let rows = c.args.rows.now in
    let made = c.loop-row.invariant ∙ ap (map (link_of c.args.direction)) (take_all c.loop-row.row-index rows (omega arith)) in
    IfOk-weaker c.build.result (IsPermutation c.loop-row.links.items) (HaveRows c.args.direction rows) (λ links moved. have-rows c.args.direction rows c.loop-row.links.items links made moved) c.build.ensures
