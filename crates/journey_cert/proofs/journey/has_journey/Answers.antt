use Rattle.std.proofs.Common.{sym, ◌∙◌}
use Rattle.journey_laws.proofs.CheckedLemmas.{at_once-says, until-rides}
use Rattle.journey_cert.proofs.journey.has_journey.Goals as goal

pub returns-then-is_at_once-clause-rides : goal.returns-then-is_at_once-clause-rides
returns-then-is_at_once-clause-rides g c = λ told.
    (until-rides c.args.t.now.network c.args.t.now.state c.requires c.args.q.now c.args.c.now.arrives c.args.c.now.rides).0 (sym c.are_rides_until.ensures ∙ told)

pub returns-then-is_at_once-clause-at_once : goal.returns-then-is_at_once-clause-at_once
returns-then-is_at_once-clause-at_once g c = λ told.
    (at_once-says c.args.t.now.network c.args.q.now c.args.c.now.arrives).0 (sym c.is_at_once.ensures ∙ c.if-is_at_once.true)

pub returns-then-is_at_once-clause-all : goal.returns-then-is_at_once-clause-all
returns-then-is_at_once-clause-all g c = λ rides at_once.
    c.are_rides_until.ensures ∙ (until-rides c.args.t.now.network c.args.t.now.state c.requires c.args.q.now c.args.c.now.arrives c.args.c.now.rides).1 rides
