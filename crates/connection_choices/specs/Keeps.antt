-- The connections that are kept, by one of their events.
use Rattle.std.specs.Prelude.{◌≡◌, List, Some, ◌&&◌, map}
use Rattle.std.specs.List.{filter}
use Rattle.std.specs.FinMap.{FinMap, entries, get}
use Rattle.mt_base.specs.declared.keys.Node.{Node}
use Rattle.mt_base.specs.Order.{is_same_node}
use Rattle.delay_model.specs.declared.overrides.Override.{Override}
use Rattle.delay_model.specs.declared.overrides.Override.TheVariants.{Keep}
use Rattle.delay_model.specs.Overrides.{connection, connection_cmp, is_keep}

-- the connection from the arrival to the departure is kept
abbrev pub IsKept : FinMap connection_cmp Override → Node → Node → Type 0
IsKept overrides arrival departure = get overrides (connection arrival departure) ≡ Some Keep

-- the arrivals whose connection to the departure is kept, in the order of the overrides
unfoldable pub kept_into : FinMap connection_cmp Override → Node → List Node
kept_into overrides departure =
    map (λ e. e.0.arrival) (filter (λ e. is_same_node e.0.departure departure && is_keep e.1)
    (entries overrides))

-- the departures to which the connection from the arrival is kept, in the order of the overrides
unfoldable pub kept_from : FinMap connection_cmp Override → Node → List Node
kept_from overrides arrival =
    map (λ e. e.0.departure) (filter (λ e. is_same_node e.0.arrival arrival && is_keep e.1)
    (entries overrides))
