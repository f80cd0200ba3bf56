-- What waiting rules are for, by the fields that they give.
use Rattle.std.specs.Prelude.{ℕ, ◌+◌, Bool, List, Option, [], ◌∷◌, Some, None}
use Rattle.std.specs.declared.cmp.Ordering.{Ordering}
use Rattle.std.specs.BTreeMap.{is_at}
use Rattle.std.specs.Option.{option_cmp}
use Rattle.std.specs.Ordering.{nat_cmp, ordering_then}
use Rattle.mt_base.specs.declared.tables.RuleRow.{RuleRow}
use Rattle.waiting_rules.specs.declared.scopes.Connecting.{Connecting}
use Rattle.waiting_rules.specs.declared.scopes.Scope.{Scope}

-- the trains that a rule makes wait
abbrev pub connecting_of : RuleRow → Connecting
connecting_of rule = record { route = rule.connecting; stop = rule.stop }

-- what a rule is for
abbrev pub scope_of : RuleRow → Scope
scope_of rule = record { connecting = connecting_of rule; feeder = rule.feeder }

-- trains by these fields
abbrev pub trains : Option ℕ → Option ℕ → Connecting
trains route stop = record { route = route; stop = stop }

-- the row of the rules with this field for the route: the first for all routes, and for each route
-- the one behind its number
abbrev pub row_of : Option ℕ → ℕ
row_of None = 0
row_of (Some route) = route + 1

-- trains in the order of their routes and then of stops, an empty field before any other
abbrev pub connecting_cmp : Connecting → Connecting → Ordering
connecting_cmp a b =
    ordering_then (option_cmp nat_cmp a.route b.route) (option_cmp nat_cmp a.stop b.stop)

-- scopes in the order of the trains that wait and then of feeders' routes, an empty one first
abbrev pub scope_cmp : Scope → Scope → Ordering
scope_cmp a b =
    ordering_then (connecting_cmp a.connecting b.connecting)
    (option_cmp nat_cmp a.feeder b.feeder)

-- the rule has this scope
abbrev pub has_scope : Scope → RuleRow → Bool
has_scope scope rule = is_at (scope_cmp scope) (scope_of rule)

-- the rule has these fields for the trains that wait
abbrev pub is_connecting : Connecting → RuleRow → Bool
is_connecting connecting rule = is_at (connecting_cmp connecting) (connecting_of rule)

-- the fields of the rules that make trains of a route wait at a stop or its station
abbrev pub all_connecting : ℕ → ℕ → ℕ → List Connecting
all_connecting route stop station =
    record { route = Some route; stop = Some stop }
    ∷ record { route = Some route; stop = Some station }
    ∷ record { route = Some route; stop = None }
    ∷ record { route = None; stop = Some stop }
    ∷ record { route = None; stop = Some station }
    ∷ record { route = None; stop = None }
    ∷ []
