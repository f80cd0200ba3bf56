use Rattle.std.proofs.Common.{None, length, replicate, sym, ◌+◌, ◌*◌, ◌∙◌, ap, arith}
use Rattle.std.proofs.lemmas.List.{length-map}
use Rattle.pareto_scan.specs.Riders.{row_rider}
use Rattle.pareto_scan.proofs.RiderRows.{blank_riders, earlier_riders}
use Rattle.pareto_scan.proofs.riders.Riders.clear.Goals as goal

pub returns-then-self-room : goal.returns-then-self-room
returns-then-self-room c =
    let rows = c.self.inside.rows.items in
    let size = sym (length-map rows (row_rider c.self.inside.base)) ∙ ap length c.self.view_is in
    rw (c.fill.ensures.items (λ y same. same), ← size) (blank_riders c.self.inside.rows.len ∙ ap (λ n. replicate n None) (omega (arith, c.self.inside.rows.ok)))

pub returns-else-self-room : goal.returns-else-self-room
returns-else-self-room c =
    let rows = c.self.inside.rows.items in
    let base = c.self.inside.base + c.len.result * 8 in
    earlier_riders base rows (λ i d l. omega (arith, c.self.invariant.rows i d l, c.self.invariant.few))
    ∙ ap (λ n. replicate n None) (sym (length-map rows (row_rider c.self.inside.base)) ∙ ap length c.self.view_is)
