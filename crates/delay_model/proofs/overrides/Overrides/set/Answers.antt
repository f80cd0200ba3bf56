use Rattle.std.proofs.Common.{◌∙◌, ap}
use Rattle.std.specs.FinMap as map
use Rattle.delay_model.proofs.ConnectionLemmas.{from_entries-set}
use Rattle.delay_model.proofs.overrides.Overrides.set.Goals as goal

pub returns-clause-ok : goal.returns-clause-ok
returns-clause-ok c =
    from_entries-set c.self.inside.rows.entries c.insert.new.self.entries c.args.connection c.args.choice c.in_ok-insert.ensures.updates.0
    ∙ ap (λ m. map.insert m c.args.connection c.args.choice) c.self.view_is
