use Rattle.station_index.proofs.Words.{arith, sym, ◌∙◌}
use Rattle.station_index.proofs.PlaceLemmas.{without-found, without-missed, without-past}
use Rattle.station_index.proofs.entries.take_out.Goals as goal
use Rattle.station_index.proofs.entries.take_out.Goals.{else-place-len-via-then-place-len+else-not-is_before, else-place-len-via-else-place-len}

pub returns-then-not-is_before-clause-items : goal.returns-then-not-is_before-clause-items
returns-then-not-is_before-clause-items c =
    let es = c.args.entries.now.items in
    let place = c.place-place.ensures.place in
    c.remove.ensures.items ∙ sym (without-found c.args.entry.now es c.place-place.result c.get.result.now c.requires place (omega arith) c.get.ensures (sym c.is_before.ensures ∙ c.if-not-is_before.true))

pub returns-else-place-len-clause-items : goal.returns-else-place-len-clause-items
returns-else-place-len-clause-items c =
    let es = c.args.entries.now.items in
    let place = c.place-place.ensures.place in
    elim c.else-place-len.branch [
      | else-place-len-via-then-place-len+else-not-is_before w ↦
          sym (without-missed c.args.entry.now es c.place-place.result w.get.result.now c.requires place (omega arith) w.get.ensures (sym w.is_before.ensures ∙ w.if-not-is_before.false))
      | else-place-len-via-else-place-len w ↦ sym (without-past c.args.entry.now es c.place-place.result c.requires place (omega arith))
    ]
