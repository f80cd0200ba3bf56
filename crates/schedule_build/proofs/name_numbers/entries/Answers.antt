use Rattle.std.proofs.Common.{arith, length, take, ◌<◌}
use Rattle.std.proofs.lemmas.Grind.{common_steps}
use Rattle.std.proofs.lemmas.List.{length-take-le, take_more}
use Rattle.schedule_build.specs.Hashed.{name_hash}
use Rattle.schedule_build.proofs.EntryLemmas.{entries-end}
use Rattle.schedule_build.proofs.name_numbers.entries.Goals as goal

pub loop-number-preserved : goal.loop-number-preserved
loop-number-preserved c =
    let names = c.args.names.now in
    let i = c.loop-number.number in
    let within : i < length names = omega arith in
    let name = c.index-names-number.result in
    let long = length-take-le i names (omega arith) in
    let more = entries-end name_hash 0 (take i names) name in
    grind (arith, common_steps, long, more, take_more names i name within, c.in_ok-push.ensures.items, c.loop-number.invariant, c.name_hash-key.ensures, c.text.ensures, c.index-names-number.is)
