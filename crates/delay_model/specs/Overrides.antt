-- Connections by name, and their order, for the finite map of overrides.
use Rattle.std.specs.Prelude.{◌≡◌, Bool, true, false, refl}
use Rattle.std.specs.Coded.{Coded, code_by, coded×, coded_bool}
use Rattle.std.specs.declared.cmp.Ordering.{Ordering}
use Rattle.std.specs.Ordering.{ordering_then}
use Rattle.mt_base.specs.declared.keys.Node.{Node}
use Rattle.mt_base.specs.Order.{node_cmp, coded_node}
use Rattle.delay_model.specs.declared.overrides.Connection.{Connection}
use Rattle.delay_model.specs.declared.overrides.Override.{Override}
use Rattle.delay_model.specs.declared.overrides.Override.TheVariants.{Keep, Drop}

-- the connection from an arrival to a departure
abbrev pub connection : Node → Node → Connection
connection arrival departure = record { arrival = arrival; departure = departure }

-- by arrival, and then by departure
abbrev pub connection_cmp : Connection → Connection → Ordering
connection_cmp a b = ordering_then (node_cmp a.arrival b.arrival) (node_cmp a.departure b.departure)

-- a connection as a pair of events
abbrev pub coded_connection : Coded Connection
coded_connection =
    code_by (Node × Node) (coded× coded_node coded_node) (λ c. (c.arrival, c.departure))
    (λ p. record { arrival = p.0; departure = p.1 }) (λ _. refl)

abbrev pub is_keep : Override → Bool
is_keep Keep = true
is_keep Drop = false

abbrev pub override_by : Bool → Override
override_by true = Keep
override_by false = Drop

abbrev pub override_by-is_keep : (o : Override) → override_by (is_keep o) ≡ o
override_by-is_keep Keep = refl
override_by-is_keep Drop = refl

-- an override as a choice of two
abbrev pub coded_override : Coded Override
coded_override = code_by Bool coded_bool is_keep override_by override_by-is_keep
