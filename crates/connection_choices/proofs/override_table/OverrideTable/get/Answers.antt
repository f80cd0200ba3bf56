use Rattle.connection_choices.proofs.Words.{connections_total, refl}
use Rattle.connection_choices.proofs.OverrideOrders.{chosen}
use Rattle.connection_choices.proofs.PlaceLemmas.{at-found, at-gap}
use Rattle.connection_choices.proofs.override_table.OverrideTable.get.Goals as goal

pub returns-in-Ok : goal.returns-in-Ok
returns-in-Ok c =
    let there = at-found connections_total c.self.inside.by_arrival.items _ c.args.connection.now c.in-Ok.place refl c.self.invariant.choices.sorted c.in-Ok.ensures.within c.in-Ok.ensures.found in
    rw (← c.self.view_is, chosen c.self.inside c.args.connection.now c.self.invariant, there.find_is c.get.result.now, ← c.get.ensures)

pub returns-in-Err : goal.returns-in-Err
returns-in-Err c =
    let gap = at-gap connections_total c.self.inside.by_arrival.items _ c.args.connection.now c.in-Err.field-0 refl c.self.invariant.choices.sorted c.in-Err.ensures.within c.in-Err.ensures.absent in
    rw (← c.self.view_is, chosen c.self.inside c.args.connection.now c.self.invariant, gap.find_is)
