use Rattle.standing_laws.proofs.Begun.{begins, stands}
use Rattle.standing_laws.proofs.laws.journeys_have_a_good_standing.Goals as goal

pub returns-clause-good : goal.returns-clause-good
returns-clause-good c = λ q rides at is. stands c.args.nw.now c.args.st.now c.requires q rides at is

pub returns-clause-first : goal.returns-clause-first
returns-clause-first c = λ q rides at is. begins c.args.nw.now c.args.st.now c.requires q rides at is
