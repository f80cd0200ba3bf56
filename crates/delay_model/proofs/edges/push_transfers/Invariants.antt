use Rattle.std.proofs.Common.{◌≡◌, ◌++◌, drop}
use Rattle.std.specs.List.{flat_map}
use Rattle.delay_model.specs.Edges.{transfers_from, override_of}
use Rattle.delay_model.proofs.edges.push_transfers.Given as goal

abbrev pub invariant-loop-u : goal.invariant-loop-u
invariant-loop-u l =
    l.all.items ++ flat_map (transfers_from l.nw (override_of l.st) l.events) (drop l.u-index l.events) ≡ l.initial.all.items ++ flat_map (transfers_from l.nw (override_of l.st) l.events) l.events
