use Rattle.std.proofs.Common.{sym, ◌∙◌, ap}
use Rattle.std.specs.FinMap as map
use Rattle.delay_model.proofs.ConnectionLemmas.{get-from_rows}
use Rattle.delay_model.proofs.overrides.Overrides.get.Goals as goal

pub returns : goal.returns
returns c =
    c.copied.ensures
    ∙ c.get.ensures.value
    ∙ sym (get-from_rows c.self.inside.rows.entries c.args.connection.now)
    ∙ ap (λ m. map.get m c.args.connection.now) c.self.view_is
