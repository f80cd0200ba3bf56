-- The network of a feed's tables, and that of the change times and waits that were made of them.
use Rattle.std.proofs.Common.{◌≡◌, arith}
use Rattle.mt_base.specs.declared.options.Opts.{Opts}
use Rattle.mt_base.specs.declared.tables.Tables.{Tables}
use Rattle.delay_model.specs.Waits.{wait}
use Rattle.change_times.specs.ChangeTables.{ChangeTables, HaveSameChanges, tables_of}
use Rattle.waiting_rules.specs.WaitTable.{WaitTable, wait_table}
use Rattle.edge_rules.specs.Inside.{network_of}
use Rattle.information_service.specs.Networks.{IsSame}
use Rattle.commands.specs.Feeds.{network}

pub same-tables : (t : Tables) (o : Opts) (c : ChangeTables) (w : WaitTable) → HaveSameChanges (tables_of t o.change) c → w ≡ wait_table t.stops t.rules → IsSame (network t o) (network_of c w o)
unfolding wait
same-tables t o c w h is = grind (arith, h.default, h.change, h.kind, h.station)
