use Rattle.waiting_rules.proofs.RouteLemmas.{rows-to}
use Rattle.waiting_rules.proofs.routes.rows.Goals as goal

pub returns-in-Some-clause-all : goal.returns-in-Some-clause-all
returns-in-Some-clause-all c =
    rows-to c.args.bounds.now c.row_of.result c.in-Some.last.now c.requires c.in-Some.ensures.value c.row_of.ensures.row
