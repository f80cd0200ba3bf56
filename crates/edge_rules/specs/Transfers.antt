-- Edges between trains.
use Rattle.std.specs.Prelude.{List, flat_map}
use Rattle.delay_model.specs.declared.state.Event.{Event}
use Rattle.delay_model.specs.declared.state.Edge.{Edge}
use Rattle.delay_model.specs.Events.{events}
use Rattle.delay_model.specs.Edges.{transfer, override_of}
use Rattle.edge_rules.specs.GraphState.{GraphState}

-- the edge between two trains from u to v, if there is one
abbrev pub transfer_between : GraphState → Event → Event → List Edge
transfer_between g u v = transfer g.network (override_of g.state u v) u v

-- the edges between trains that lead to v
abbrev pub transfers_to : GraphState → Event → List Edge
transfers_to g v = flat_map (λ u. transfer_between g u v) (events g.state)
