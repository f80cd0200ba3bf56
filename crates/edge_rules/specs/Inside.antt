-- How a graph is seen, and what holds of it.
use Rattle.std.specs.Prelude.{◌≡◌, All, map}
use Rattle.mt_base.specs.declared.options.Opts.{Opts}
use Rattle.mt_base.specs.Options.{IsInRange}
use Rattle.delay_model.specs.declared.network.Network.{Network}
use Rattle.delay_model.specs.declared.state.Train.{Train}
use Rattle.delay_model.specs.Valid.{HasDistinctLabels}
use Rattle.change_times.specs.ChangeTables.{ChangeTables}
use Rattle.waiting_rules.specs.WaitTable.{WaitTable, parent_station}
use Rattle.edge_rules.specs.AtStops.{AreAtStops}
use Rattle.edge_rules.specs.Indexing.{IsIndexOf}
use Rattle.edge_rules.specs.GraphState.{GraphState}
use Rattle.edge_rules.specs.declared.graph.Graph.TheInside.{Inside}

-- what no message changes: the stops with the change times between them, the waiting rules and the
-- options
abbrev pub network_of : ChangeTables → WaitTable → Opts → Network
network_of changes waits o = record {
  stops = changes.stops;
  transfers = changes.transfers;
  rules = waits.rules;
  opts = o;
}

abbrev pub seen : Inside → GraphState
seen a = record { network = network_of a.changes a.waits a.opts; state = a.trains }

-- no two calls of the train have one label
abbrev pub HasOwnLabels : Train → Type 0
HasOwnLabels t = HasDistinctLabels t.calls

-- no two calls of a train have one label, and all are at stops; the index is that of the trains;
-- the change times and the waits are of the same stops, and the change time where no row says one
-- is the options'
pub record IsConsistent (a : Inside) : Type 0 where
  pub options : IsInRange a.opts
  pub default : a.changes.default ≡ a.opts.change
  pub parents : a.waits.parents ≡ map parent_station a.changes.stops
  pub labels : All HasOwnLabels a.trains.trains
  pub at_stops : AreAtStops a.changes.stops a.trains
  pub index : IsIndexOf a.trains a.index
