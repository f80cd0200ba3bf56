use Rattle.std.proofs.Common.{None}
use Rattle.edge_rules.proofs.InsideLemmas.{forecast_keeps}
use Rattle.edge_rules.proofs.graph.Graph.clear_forecast.Goals as goal

pub invariant_of-self : goal.invariant_of-self
invariant_of-self c = forecast_keeps c.self.invariant c.args.n None _ c.clear_forecast.ensures c.labels_are_distinct.ensures.labels
