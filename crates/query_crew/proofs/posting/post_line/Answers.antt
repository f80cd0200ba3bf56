use Rattle.query_crew.proofs.posting.post_line.Goals as goal

pub returns-in_ok-post_wire-in-Message-clause-taken :
    goal.returns-in_ok-post_wire-in-Message-clause-taken
returns-in_ok-post_wire-in-Message-clause-taken g c = λ s h.
    rw c.in-Message.is (c.in_ok-post_wire-in-Message.ensures.taken s h)
