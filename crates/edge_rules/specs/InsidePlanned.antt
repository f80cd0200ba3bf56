-- What holds of the planned edges at an event that are still to come.
use Rattle.std.specs.Prelude.{◌≡◌, [], unwrap_or}
use Rattle.edge_rules.specs.Found.{HaveLiveEvents, waits_at}
use Rattle.edge_rules.specs.declared.planned_into.NearFeeders.TheInside.{Inside as NearFeeders}
use Rattle.edge_rules.specs.declared.planned_into.PlannedInto.TheInside.{Inside as PlannedInto}
use Rattle.edge_rules.specs.declared.planned_from.PlannedFrom.TheInside.{Inside as PlannedFrom}

-- by one change: the waits are those of the event, and the entries are of events
pub record AreFeedersNear (a : NearFeeders) : Type 0 where
  pub waits : a.waits.now ≡ waits_at a.graph.now a.at.now
  pub near : HaveLiveEvents a.graph.now.state a.entries

-- to an event: the waits are those of it, and the entries of the index and those near are of events
pub record IsConsistentInto (a : PlannedInto) : Type 0 where
  pub waits : a.waits ≡ waits_at a.graph.now a.at
  pub entries : HaveLiveEvents a.graph.now.state a.index.now.entries
  pub near : HaveLiveEvents a.graph.now.state (unwrap_or a.near [])

-- from an event: the entries of the index and those near are of events
pub record IsConsistentFrom (a : PlannedFrom) : Type 0 where
  pub entries : HaveLiveEvents a.graph.now.state a.index.now.entries
  pub near : HaveLiveEvents a.graph.now.state (unwrap_or a.near [])
