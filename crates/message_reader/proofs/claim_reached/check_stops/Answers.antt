use Rattle.std.proofs.lemmas.Result.{err_from_is_err_and}
use Rattle.message_reader.specs.Claims.{reach_stop}
use Rattle.message_reader.proofs.ItemLemmas.{shapes_go_on, shapes_end, shapes_are_done}
use Rattle.message_reader.proofs.claim_reached.check_stops.Goals as goal

pub returns-in_err-_stop : goal.returns-in_err-_stop
returns-in_err-_stop c =
    let p = err_from_is_err_and c.from_residual.result c.from_residual.ensures.1 in
    rw (p.1, p.2) (shapes_end (reach_stop c.args.dir.now) c.in_err-_stop.field-0.0 c.args.values.now c.loop-value.value-index c.value-item.result _
    c.loop-value-test.true c.value-item.is c.in_err-_stop.ensures c.loop-value.invariant)

pub loop-value-preserved : goal.loop-value-preserved
loop-value-preserved c =
    shapes_go_on (reach_stop c.args.dir.now) c.args.values.now c.loop-value.value-index c.value-item.result _ _
    c.loop-value-test.true c.value-item.is c.in_ok-_stop.ensures c.loop-value.invariant

pub returns : goal.returns
returns c = shapes_are_done (reach_stop c.args.dir.now) c.args.values.now c.loop-value.value-index _ c.loop-value-test.false c.loop-value.invariant
