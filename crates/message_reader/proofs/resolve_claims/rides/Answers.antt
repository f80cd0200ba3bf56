use Rattle.message_reader.proofs.ItemLemmas.{rides_go_on, rides_end, rides_are_done}
use Rattle.message_reader.specs.Claims.{rides_resolved}
use Rattle.message_reader.proofs.resolve_claims.rides.Goals as goal

pub returns-in_default : goal.returns-in_default
returns-in_default c =
    let all = rides_resolved c.args.dir.now c.args.named.now in
    rides_end c.args.dir.now c.loop-name.found.items c.args.named.now c.loop-name.name-index c.name-item.result all
    c.loop-name-test.true c.name-item.is c.in_default.ensures c.loop-name.invariant

pub loop-name-preserved : goal.loop-name-preserved
loop-name-preserved c =
    let all = rides_resolved c.args.dir.now c.args.named.now in
    rw c.in_ok-push.ensures.items (rides_go_on c.args.dir.now c.loop-name.found.items c.args.named.now c.loop-name.name-index c.name-item.result c.in-Some.ride all
    c.loop-name-test.true c.name-item.is c.in-Some.ensures c.loop-name.invariant)

pub returns : goal.returns
returns c =
    let all = rides_resolved c.args.dir.now c.args.named.now in
    rw c.build.ensures (rides_are_done c.args.dir.now c.loop-name.found.items c.args.named.now c.loop-name.name-index all c.loop-name-test.false c.loop-name.invariant)
