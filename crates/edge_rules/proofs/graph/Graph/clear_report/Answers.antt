use Rattle.std.proofs.Common.{None}
use Rattle.edge_rules.proofs.InsideLemmas.{report_keeps}
use Rattle.edge_rules.proofs.graph.Graph.clear_report.Goals as goal

pub invariant_of-self : goal.invariant_of-self
invariant_of-self c = report_keeps c.self.invariant c.args.n None _ c.clear_report.ensures c.labels_are_distinct.ensures.labels
