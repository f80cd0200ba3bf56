use Rattle.std.proofs.Common.{None, length, map, replicate, sym, ◌+◌, ◌∙◌, ap, arith}
use Rattle.std.proofs.lemmas.List.{length-map}
use Rattle.conn_scan.specs.Aboard.{row_number}
use Rattle.conn_scan.proofs.TableLemmas.{blank_numbers, earlier_numbers}
use Rattle.conn_scan.proofs.aboard.Aboard.clear.Goals as goal

pub returns-then-self-count : goal.returns-then-self-count
returns-then-self-count c =
    let rows = c.self.inside.rows.items in
    let size = sym (length-map rows (row_number c.self.inside.base)) ∙ ap length c.self.view_is in
    rw (c.fill.ensures.items (λ y same. same), ← size) (blank_numbers c.self.inside.rows.len ∙ ap (λ n. replicate n None) (omega (arith, c.self.inside.rows.ok)))

pub returns-else-self-count : goal.returns-else-self-count
returns-else-self-count c =
    let rows = c.self.inside.rows.items in
    let base = c.self.inside.base + c.len-count.result in
    earlier_numbers base rows (λ i d l. omega (arith, c.self.invariant.rows i d l, c.self.invariant.few))
    ∙ ap (λ n. replicate n None) (sym (length-map rows (row_number c.self.inside.base)) ∙ ap length c.self.view_is)
