use Rattle.delay_model.proofs.AfterLemmas.{accepted-are, accepted-append}
use Rattle.delay_model.proofs.message_laws.accepted_messages_decide.Goals as goal

pub returns-clause-accepted : goal.returns-clause-accepted
returns-clause-accepted g c = λ reading names lines. accepted-are c.args.nw.now reading c.args.st.now names lines

pub returns-clause-more : goal.returns-clause-more
returns-clause-more g c = λ reading names lines others. accepted-append c.args.nw.now reading c.args.st.now names lines others
