use Rattle.change_times.proofs.Words.{◌∙◌, find, ap, option_or, deciding_row, ChangeTables, is_to}
use Rattle.change_times.specs.Stored.{seen_table}
use Rattle.change_times.proofs.TableLemmas.{deciding-is}
use Rattle.change_times.proofs.table.Table.deciding_row.Goals as goal

pub returns : goal.returns
returns c =
    let a = c.args.a in
    let b = c.args.b in
    let at_b = c.station-at_b.result in
    c.or-3.ensures ∙ ap (λ o. option_or o c.first_to-stations.result) (c.or-2.ensures ∙ ap (λ o. option_or o c.first_to-from_station.result) c.or.ensures)
    ∙ deciding-is (seen_table c.self.inside) a b c.station-at_a.result at_b _ _ _ _ c.self.invariant c.station-at_a.ensures c.station-at_b.ensures
    (c.first_to-exact.ensures ∙ ap (find (is_to b)) c.from-from_a.ensures.rows)
    (c.first_to-to_station.ensures ∙ ap (find (is_to at_b)) c.from-from_a.ensures.rows)
    (c.first_to-from_station.ensures ∙ ap (find (is_to b)) c.from-from_at_a.ensures.rows)
    (c.first_to-stations.ensures ∙ ap (find (is_to at_b)) c.from-from_at_a.ensures.rows)
    ∙ ap (λ (t : ChangeTables). deciding_row t.stops t.transfers a b) c.self.view_is
