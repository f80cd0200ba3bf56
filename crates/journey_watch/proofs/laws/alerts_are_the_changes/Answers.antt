use Rattle.journey_watch.proofs.Changes.{told-along}
use Rattle.journey_watch.proofs.laws.alerts_are_the_changes.Goals as goal

pub returns : goal.returns
returns c = λ ws ms kept. told-along c.args.nw.now c.args.st.now ws ms kept
