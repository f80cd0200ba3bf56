use Rattle.std.proofs.Common.{◌≡◌, ◌++◌, drop}
use Rattle.delay_model.specs.Edges.{transfers_from, override_of}
use Rattle.delay_model.proofs.edges.push_transfers_from.Given as goal

abbrev pub invariant-loop-v : goal.invariant-loop-v
invariant-loop-v l = l.all.items ++ transfers_from l.nw (override_of l.st) (drop l.v-index l.events) l.u ≡ l.initial.all.items ++ transfers_from l.nw (override_of l.st) l.events l.u
