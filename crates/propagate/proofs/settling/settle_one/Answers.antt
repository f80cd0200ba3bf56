use Rattle.propagate.proofs.Words.{same_node-itself, refl, node_of}
use Rattle.propagate.proofs.Sized.{write-fits}
use Rattle.propagate.proofs.settling.settle_one.Goals as goal

pub returns-clause-after : goal.returns-clause-after
returns-clause-after g c =
    let n = node_of c.args.at.now.key in
    let t = rw c.node-2.ensures at (c.write.ensures.time n) in
    rw (t, same_node-itself n) refl

pub returns-clause-has_times : goal.returns-clause-has_times
returns-clause-has_times g c = λ st h. rw c.write.ensures.stored (write-fits st c.args.times.now c.node-2.result c.local_by-is.result h)
