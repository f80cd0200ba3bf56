use Rattle.std.proofs.lemmas.Result.{err_from_is_err_and}
use Rattle.serde_json.specs.View.{items_view}
use Rattle.message_reader.specs.Claims.{ride_of}
use Rattle.message_reader.specs.Errors.{bad_in}
use Rattle.message_reader.specs.Items.{items_read}
use Rattle.message_reader.proofs.ItemLemmas.{items_go_on, items_end, items_are_done}
use Rattle.message_reader.proofs.claim_rides.read_rides.Goals as goal

pub returns-in_err-ride : goal.returns-in_err-ride
returns-in_err-ride c =
    let all = items_read ride_of (items_view c.args.values.now) in
    let p = err_from_is_err_and c.from_residual.result c.from_residual.ensures.1 in
    rw (p.1, p.2) (items_end ride_of (bad_in c.in_err-ride.field-0.0) c.loop-value.rides.items c.args.values.now c.loop-value.value-index c.value-item.result all
    c.loop-value-test.true c.value-item.is c.in_err-ride.ensures c.loop-value.invariant)

pub loop-value-preserved : goal.loop-value-preserved
loop-value-preserved c =
    let all = items_read ride_of (items_view c.args.values.now) in
    rw c.in_ok-push.ensures.items (items_go_on ride_of c.loop-value.rides.items c.args.values.now c.loop-value.value-index c.value-item.result c.in_ok-ride.ride all
    c.loop-value-test.true c.value-item.is c.in_ok-ride.ensures c.loop-value.invariant)

pub returns : goal.returns
returns c =
    let all = items_read ride_of (items_view c.args.values.now) in
    rw c.build.ensures (items_are_done ride_of c.loop-value.rides.items c.args.values.now c.loop-value.value-index all c.loop-value-test.false c.loop-value.invariant)
