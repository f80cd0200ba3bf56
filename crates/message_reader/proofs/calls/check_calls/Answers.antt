use Rattle.std.proofs.lemmas.Result.{err_from_is_err_and}
use Rattle.serde_json.specs.View.{items_view}
use Rattle.message_reader.specs.Messages.{calls_shape}
use Rattle.message_reader.proofs.Rest.{shape_goes_on, shape_ends, shape_is_done}
use Rattle.message_reader.proofs.calls.check_calls.Goals as goal

pub returns-in_err-_texts : goal.returns-in_err-_texts
returns-in_err-_texts c =
    let p = err_from_is_err_and c.from_residual.result c.from_residual.ensures.1 in
    rw (p.1, p.2) (shape_ends c.in_err-_texts.field-0.0 c.args.values.now c.loop-value.value-index c.value-item.result
    (calls_shape (items_view c.args.values.now)) c.loop-value-test.true c.value-item.is c.in_err-_texts.ensures c.loop-value.invariant)

pub loop-value-preserved : goal.loop-value-preserved
loop-value-preserved c =
    shape_goes_on c.args.values.now c.loop-value.value-index c.value-item.result _
    (calls_shape (items_view c.args.values.now)) c.loop-value-test.true c.value-item.is c.in_ok-_texts.ensures c.loop-value.invariant

pub returns : goal.returns
returns c = shape_is_done c.args.values.now c.loop-value.value-index (calls_shape (items_view c.args.values.now)) c.loop-value-test.false c.loop-value.invariant
