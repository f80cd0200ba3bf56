use Rattle.schedule_build.proofs.BaseLemmas.{bases-are, dates-are, runs-based}
use Rattle.schedule_build.proofs.service_day.days_have_the_bases_that_are_given.Goals as goal

pub returns-clause-dates : goal.returns-clause-dates
returns-clause-dates c = dates-are c.args.first c.args.bases.now c.args.days

pub returns-clause-names : goal.returns-clause-names
returns-clause-names c = bases-are c.args.first c.args.bases.now c.args.days

pub returns-clause-trains : goal.returns-clause-trains
returns-clause-trains c = runs-based c.args.t.now c.args.first c.args.bases.now 0 c.args.days
