use Rattle.query_crew.proofs.joining.take_reply.Goals as goal

pub returns-in-None-clause-reply : goal.returns-in-None-clause-reply
returns-in-None-clause-reply g c = λ d. rw c.in-None.is (c.take_answer.ensures.answer d)
