use Rattle.std.proofs.Common.{◌≡◌, ◌+◌, ◌++◌, ◌∷◌, [], length, arith}
use Rattle.std.proofs.lemmas.Result.{err_from_is_err_and}
use Rattle.std.proofs.lemmas.List.{length-append}
use Rattle.std.proofs.lemmas.List.Elements.{All-push}
use Rattle.delay_model.specs.Messages.{IsSmallCall}
use Rattle.message_reader.specs.Resolved.{new_calls}
use Rattle.message_reader.proofs.Rest.{new_calls_go_on, new_calls_end, new_calls_are_done}
use Rattle.message_reader.proofs.numbers.new_calls.Goals as goal

pub returns-in_err-call-clause-exact : goal.returns-in_err-call-clause-exact
returns-in_err-call-clause-exact c =
    let p = err_from_is_err_and c.from_residual.result c.from_residual.ensures.1 in
    rw (p.1, p.2) (
    new_calls_end c.in_err-call.field-0.0 c.args.dir.now c.args.day c.loop-wire_call.calls.items
    c.args.wire_calls.now c.loop-wire_call.wire_call-index c.wire_call-item.result (new_calls c.args.dir.now c.args.day c.args.wire_calls.now)
    c.loop-wire_call-test.true c.wire_call-item.is c.in_err-call.ensures.exact c.loop-wire_call.invariant.0
    )

pub loop-wire_call-preserved : goal.loop-wire_call-preserved
loop-wire_call-preserved c =
    let front = c.loop-wire_call.calls.items in
    let call = c.in_ok-call.call in
    let longer : length (front ++ call ∷ []) ≡ length front + 1 = length-append front (call ∷ []) in
    rw c.in_ok-push.ensures.items (
      new_calls_go_on c.args.dir.now c.args.day front c.args.wire_calls.now c.loop-wire_call.wire_call-index c.wire_call-item.result call (new_calls c.args.dir.now c.args.day c.args.wire_calls.now)
          c.loop-wire_call-test.true c.wire_call-item.is c.in_ok-call.ensures.exact c.loop-wire_call.invariant.0,
      All-push IsSmallCall front call c.loop-wire_call.invariant.1 c.in_ok-call.ensures.small,
      omega arith,
    )

pub returns-clause-exact : goal.returns-clause-exact
returns-clause-exact c =
    rw c.build.ensures (
    new_calls_are_done c.args.dir.now c.args.day c.loop-wire_call.calls.items c.args.wire_calls.now c.loop-wire_call.wire_call-index (new_calls c.args.dir.now c.args.day c.args.wire_calls.now)
    c.loop-wire_call-test.false c.loop-wire_call.invariant.0
    )
