use Rattle.std.proofs.lemmas.Result.{err_from_is_err_and}
use Rattle.message_reader.specs.Claims.{ride_texts}
use Rattle.message_reader.proofs.ItemLemmas.{shapes_go_on, shapes_end, shapes_are_done}
use Rattle.message_reader.proofs.claim_rides.check_rides.Goals as goal

pub returns-in_err-_texts : goal.returns-in_err-_texts
returns-in_err-_texts c =
    let p = err_from_is_err_and c.from_residual.result c.from_residual.ensures.1 in
    rw (p.1, p.2) (shapes_end ride_texts c.in_err-_texts.field-0.0 c.args.values.now c.loop-value.value-index c.value-item.result _
    c.loop-value-test.true c.value-item.is c.in_err-_texts.ensures c.loop-value.invariant)

pub loop-value-preserved : goal.loop-value-preserved
loop-value-preserved c =
    shapes_go_on ride_texts c.args.values.now c.loop-value.value-index c.value-item.result _ _
    c.loop-value-test.true c.value-item.is c.in_ok-_texts.ensures c.loop-value.invariant

pub returns : goal.returns
returns c = shapes_are_done ride_texts c.args.values.now c.loop-value.value-index _ c.loop-value-test.false c.loop-value.invariant
