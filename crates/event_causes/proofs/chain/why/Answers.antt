use Rattle.event_causes.proofs.LinkByLink.{one-more-link}
use Rattle.event_causes.proofs.chain.why.Goals as goal

pub loop-next-preserved : goal.loop-next-preserved
loop-next-preserved g c =
    let now = rw c.in-Some.is at c.loop-next.invariant in
    let next = c.next_link-next.ensures in
    one-more-link c.args.t.now.network c.args.t.now.state c.loop-next.links.items c.push.new.self.items c.in-Some.link c.next_link-next.result _ _ _ _
    c.in_ok-push.ensures.items next.link now.0 now.1 next.cost
