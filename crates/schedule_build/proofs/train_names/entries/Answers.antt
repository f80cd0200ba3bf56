use Rattle.schedule_build.proofs.Words.{arith, common_steps, length, take, ◌<◌, train_key}
use Rattle.std.proofs.lemmas.List.{length-take-le, take_more}
use Rattle.schedule_build.proofs.EntryLemmas.{entries-end}
use Rattle.schedule_build.proofs.train_names.entries.Goals as goal

pub loop-number-preserved : goal.loop-number-preserved
loop-number-preserved c =
    let trains = c.args.trains.now in
    let i = c.loop-number.number in
    let within : i < length trains = omega arith in
    let train = c.index-trains-number.result in
    let long = length-take-le i trains (omega arith) in
    let more = entries-end train_key 0 (take i trains) train in
    grind (arith, common_steps, long, more, take_more trains i train within, c.in_ok-push.ensures.items, c.loop-number.invariant, c.train_key-key.ensures, c.index-trains-number.is)
