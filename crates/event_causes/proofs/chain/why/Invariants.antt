use Rattle.std.proofs.Common.{◌≡◌, ◌+◌, ◌≤◌, ◌++◌, length}
use Rattle.cause_laws.specs.Chains.{why}
use Rattle.event_causes.specs.Following.{links_from, reads_of}
use Rattle.std.specs.Option.{option_to_list}
use Rattle.event_causes.proofs.chain.why.Given as goal

-- the links so far and those that are still to come are the chain
abbrev pub invariant-loop-next : goal.invariant-loop-next
invariant-loop-next g l =
    (l.links.items ++ links_from l.t.network l.t.state l.next ≡ why l.t.network l.t.state l.fn.n)
    × (l.steps ≤ l.fn.steps + reads_of l.t.network l.t.state (l.links.items ++ option_to_list l.next))

abbrev pub decreases-loop-next : goal.decreases-loop-next
decreases-loop-next g l = length (links_from l.t.network l.t.state l.next)
