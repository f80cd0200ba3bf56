use Rattle.std.proofs.Common.{◌∙◌, ap}
use Rattle.std.specs.FinMap as map
use Rattle.delay_model.proofs.ConnectionLemmas.{from_entries-removed}
use Rattle.delay_model.proofs.overrides.Overrides.remove.Goals as goal

pub returns : goal.returns
returns c =
    from_entries-removed c.self.inside.rows.entries c.remove.new.self.entries c.args.connection.now c.remove.ensures.updates.0
    ∙ ap (λ m. map.remove m c.args.connection.now) c.self.view_is
