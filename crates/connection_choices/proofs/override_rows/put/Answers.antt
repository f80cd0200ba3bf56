use Rattle.connection_choices.proofs.Words.{◌∙◌, Connection, Override, ap, arith, refl, set, sym}
use Rattle.connection_choices.proofs.OverrideOrders.{ends_total}
use Rattle.connection_choices.proofs.PlaceLemmas.{at-found, at-gap}
use Rattle.connection_choices.proofs.override_rows.put.Goals as goal

pub insert-requires-clause-room : goal.insert-requires-clause-room
insert-requires-clause-room c =
    let gap = at-gap (ends_total c.args.end) c.args.rows.now.items _ c.args.connection.now c.in-Err.place refl c.requires.sorted c.in-Err.ensures.within c.in-Err.ensures.absent in
    c.requires.room gap.find_is

pub returns-in-Ok : goal.returns-in-Ok
returns-in-Ok c =
    let there = at-found (ends_total c.args.end) c.args.rows.now.items _ c.args.connection.now c.in-Ok.place refl c.requires.sorted c.in-Ok.ensures.within c.in-Ok.ensures.found in
    record {
      items = c.set.ensures.items ∙ ap (λ (x : Connection × Override). set c.args.rows.now.items c.in-Ok.place (x.0, c.args.choice)) c.get.ensures ∙ sym (there.put_is c.args.choice c.get.result.now);
      room = rw (there.find_is c.get.result.now) c.set.ensures.room;
    }

pub returns-in-Err : goal.returns-in-Err
returns-in-Err c =
    let gap = at-gap (ends_total c.args.end) c.args.rows.now.items _ c.args.connection.now c.in-Err.place refl c.requires.sorted c.in-Err.ensures.within c.in-Err.ensures.absent in
    grind (arith, gap.find_is, gap.put_is c.args.choice, c.insert.ensures)
