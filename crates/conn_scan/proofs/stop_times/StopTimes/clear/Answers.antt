use Rattle.std.proofs.Common.{None, length, map, replicate, sym, ◌∙◌, ap, arith}
use Rattle.std.proofs.lemmas.List.{length-map}
use Rattle.conn_scan.specs.StopTimes.{row_time}
use Rattle.conn_scan.proofs.TableLemmas.{blank_times}
use Rattle.conn_scan.proofs.stop_times.StopTimes.clear.Goals as goal

pub returns : goal.returns
returns c =
    let rows = c.self.inside.rows.items in
    let size = sym (length-map rows row_time) ∙ ap length c.self.view_is in
    rw (c.fill.ensures.items (λ y same. same), ← size) (blank_times c.self.inside.rows.len ∙ ap (λ n. replicate n None) (omega (arith, c.self.inside.rows.ok)))
