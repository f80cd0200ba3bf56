use Rattle.std.proofs.Common.{◌≡◌, ◌+◌, ◌++◌, ◌∷◌, [], length, arith}
use Rattle.std.proofs.lemmas.Result.{err_from_is_err_and}
use Rattle.std.proofs.lemmas.List.{length-append}
use Rattle.std.proofs.lemmas.List.Elements.{All-push}
use Rattle.serde_json.specs.View.{items_view}
use Rattle.message_reader.specs.Errors.{bad_in}
use Rattle.message_reader.specs.Messages.{calls_of}
use Rattle.message_reader.specs.Wires.{IsWireCall}
use Rattle.message_reader.proofs.Rest.{calls_go_on, calls_end, calls_are_done}
use Rattle.message_reader.proofs.calls.read_calls.Goals as goal

pub returns-in_err-call-clause-exact : goal.returns-in_err-call-clause-exact
returns-in_err-call-clause-exact c =
    let p = err_from_is_err_and c.from_residual.result c.from_residual.ensures.1 in
    rw (p.1, p.2) (calls_end (bad_in c.in_err-call.field-0.0) c.loop-value.calls.items c.args.values.now c.loop-value.value-index c.value-item.result
    (calls_of (items_view c.args.values.now)) c.loop-value-test.true c.value-item.is c.in_err-call.ensures.exact c.loop-value.invariant.0)

pub loop-value-preserved : goal.loop-value-preserved
loop-value-preserved c =
    let front = c.loop-value.calls.items in
    let call = c.in_ok-call.call in
    let e = c.in_ok-push.ensures.items in
    let longer : length (front ++ call ∷ []) ≡ length front + 1 = length-append front (call ∷ []) in
    rw e (
      calls_go_on front c.args.values.now c.loop-value.value-index c.value-item.result call
          (calls_of (items_view c.args.values.now)) c.loop-value-test.true c.value-item.is c.in_ok-call.ensures.exact c.loop-value.invariant.0,
      All-push IsWireCall front call c.loop-value.invariant.1 c.in_ok-call.ensures.kept,
      omega arith,
    )

pub returns-clause-exact : goal.returns-clause-exact
returns-clause-exact c =
    rw c.build.ensures (calls_are_done c.loop-value.calls.items c.args.values.now c.loop-value.value-index (calls_of (items_view c.args.values.now)) c.loop-value-test.false c.loop-value.invariant.0)
