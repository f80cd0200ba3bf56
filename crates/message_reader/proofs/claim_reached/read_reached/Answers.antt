use Rattle.std.proofs.Common.{Some, sym}
use Rattle.std.proofs.lemmas.Result.{err_from_is_err_and}
use Rattle.serde_json.specs.View.{items_view}
use Rattle.message_reader.specs.Claims.{reach_of}
use Rattle.message_reader.specs.Items.{items_read}
use Rattle.message_reader.proofs.ItemLemmas.{items_go_on, items_end, items_are_done}
use Rattle.message_reader.proofs.claim_reached.read_reached.Goals as goal

pub returns-in_err-reach : goal.returns-in_err-reach
returns-in_err-reach c =
    let p = err_from_is_err_and c.from_residual.result c.from_residual.ensures.1 in
    let read = reach_of c.args.dir.now c.args.day in
    let all = items_read read (items_view c.args.values.now) in
    rw (p.1, p.2) (items_end read (Some c.in_err-reach.field-0.0) c.loop-value.reached.items c.args.values.now c.loop-value.value-index c.value-item.result all
    c.loop-value-test.true c.value-item.is (sym c.in_err-reach.ensures) c.loop-value.invariant)

pub loop-value-preserved : goal.loop-value-preserved
loop-value-preserved c =
    let read = reach_of c.args.dir.now c.args.day in
    let all = items_read read (items_view c.args.values.now) in
    rw c.in_ok-push.ensures.items (items_go_on read c.loop-value.reached.items c.args.values.now c.loop-value.value-index c.value-item.result c.in_ok-reach.reach all
    c.loop-value-test.true c.value-item.is (sym c.in_ok-reach.ensures) c.loop-value.invariant)

pub returns : goal.returns
returns c =
    let read = reach_of c.args.dir.now c.args.day in
    let all = items_read read (items_view c.args.values.now) in
    rw c.build.ensures (items_are_done read c.loop-value.reached.items c.args.values.now c.loop-value.value-index all c.loop-value-test.false c.loop-value.invariant)
