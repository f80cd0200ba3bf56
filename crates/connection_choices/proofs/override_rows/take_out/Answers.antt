use Rattle.connection_choices.proofs.Words.{arith, refl}
use Rattle.connection_choices.proofs.OverrideOrders.{ends_total}
use Rattle.connection_choices.proofs.PlaceLemmas.{at-found, at-gap}
use Rattle.connection_choices.proofs.override_rows.take_out.Goals as goal

pub returns-in-Ok : goal.returns-in-Ok
returns-in-Ok c =
    let there = at-found (ends_total c.args.end) c.args.rows.now.items _ c.args.connection.now c.in-Ok.place refl c.requires c.in-Ok.ensures.within c.in-Ok.ensures.found in
    grind (arith, there.find_is c.remove.result, there.others_are, c.remove.ensures.items, c.remove.ensures.room)

pub returns-in_default : goal.returns-in_default
returns-in_default c =
    let gap = at-gap (ends_total c.args.end) c.args.rows.now.items _ c.args.connection.now c.in_default.field-0 refl c.requires (rw c.in_default.is at c.search.ensures.within) (rw c.in_default.is at c.search.ensures.absent) in
    grind (arith, gap.find_is, gap.others_are)
