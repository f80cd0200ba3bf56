use Rattle.journey_watch.proofs.HoldLemmas.{breaks, is-good}
use Rattle.journey_watch.proofs.laws.the_first_ride_that_does_not_hold_breaks_a_journey.Goals as goal

pub returns-clause-broken : goal.returns-clause-broken
returns-clause-broken c = λ q rides i is. breaks c.args.nw.now c.args.st.now c.requires q rides i is

pub returns-clause-good : goal.returns-clause-good
returns-clause-good c = λ q rides at is. is-good c.args.nw.now c.args.st.now c.requires q rides at is
