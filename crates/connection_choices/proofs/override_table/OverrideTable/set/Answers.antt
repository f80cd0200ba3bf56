use Rattle.connection_choices.proofs.Words.{AreTurned, arith, connections_total, exact_connections}
use Rattle.connection_choices.proofs.OverrideOrders.{put-turned, turned-count}
use Rattle.connection_choices.proofs.PlaceLemmas.{put-is}
use Rattle.connection_choices.proofs.override_table.OverrideTable.set.Goals as goal

pub invariant_of-self : goal.invariant_of-self
invariant_of-self c =
    let h = c.self.invariant in
    let k = c.args.connection in
    let choices : AreTurned c.put.new.rows.items c.put-2.new.rows.items = rw (c.put.ensures.items, c.put-2.ensures.items) (put-turned k c.args.choice _ _ h.choices) in
    record {
      choices = choices;
      count = turned-count _ _ choices;
      room = first_of (rw (c.put-2.ensures.room, c.put.ensures.room, h.choices.same k, h.room), grind (arith, c.put.ensures.room, c.put-2.ensures.room, h.choices.same k, h.room));
    }

pub returns-clause-choices : goal.returns-clause-choices
returns-clause-choices c = rw (← c.self.view_is, c.put.ensures.items) (put-is connections_total exact_connections c.self.inside.by_arrival.items c.self.invariant.choices.sorted c.args.connection c.args.choice)
