use Rattle.change_times.proofs.Words.{◌∙◌, find, ap, first_row, ChangeTables, is_to}
use Rattle.change_times.specs.Stored.{seen_table}
use Rattle.change_times.proofs.TableLemmas.{first-from}
use Rattle.change_times.proofs.table.Table.row.Goals as goal

pub returns : goal.returns
returns c =
    let a = c.args.a in
    let b = c.args.b in
    c.first_to.ensures ∙ ap (find (is_to b)) c.from.ensures.rows ∙ first-from (seen_table c.self.inside) a b c.self.invariant
    ∙ ap (λ (t : ChangeTables). first_row t.stops t.transfers a b) c.self.view_is
