use Rattle.delay_model.proofs.WindowLemmas.{progress-all, accepted-at}
use Rattle.delay_model.proofs.window_laws.queries_are_bounded_by_accepted_messages.Goals as goal

pub returns-clause-progress : goal.returns-clause-progress
returns-clause-progress g c = λ reading names lines. progress-all c.args.nw.now reading c.args.st.now names lines

pub returns-clause-bounds : goal.returns-clause-bounds
returns-clause-bounds g c = λ reading names before later w i l.
    accepted-at c.args.nw.now reading c.args.st.now names before later w i l
