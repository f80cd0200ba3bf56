-- A chain link by link.
use Rattle.std.specs.Prelude.{ℕ, ◌+◌, List, [], ◌∷◌, Option, Some, None, length}
use Rattle.mt_base.specs.declared.keys.Key.{Key}
use Rattle.mt_base.specs.Order.{node_of}
use Rattle.delay_model.specs.declared.network.Network.{Network}
use Rattle.delay_model.specs.declared.state.State.{State}
use Rattle.delay_model.specs.Edges.{edges}
use Rattle.delay_model.specs.Timing.{incoming}
use Rattle.cause_laws.specs.declared.causes.Link.{Link}
use Rattle.cause_laws.specs.Chains.{origin, why}

-- the chain of the event that a cause names; no link where it names none
abbrev pub why_after : Network → State → Option Key → List Link
why_after nw st None = []
why_after nw st (Some k) = why nw st (node_of k)

-- a link, and the chain of the event that its cause names; no link where there is none
abbrev pub links_from : Network → State → Option Link → List Link
links_from nw st None = []
links_from nw st (Some l) = l ∷ why_after nw st (origin l.cause)

-- how many times are read for these links: for each that of its event, and those of the events from
-- which edges lead to it
abbrev pub reads_of : Network → State → List Link → ℕ
reads_of nw st [] = 0
reads_of nw st (l ∷ ls) = 1 + length (incoming (edges nw st) l.event) + reads_of nw st ls
