-- Which edges between trains are looked for at an event.
use Rattle.std.specs.Prelude.{Option, Some, None}
use Rattle.waiting_rules.specs.WaitTable.{WaitsAt}
use Rattle.edge_rules.specs.declared.shift.Shift.{Shift}

-- those that lead to it, by how long its train waits; those that leave it; and of these those that
-- may change the time of the event to which they lead
pub data Wanted : Type 0 where
  Into : WaitsAt → Wanted
  From : Wanted
  Changing : Shift → Wanted

-- those that leave it: all, or, where its time changes, those that may change another
abbrev pub leaving : Option Shift → Wanted
leaving None = From
leaving (Some shift) = Changing shift
