use Rattle.std.proofs.Common.{sym, ◌∙◌}
use Rattle.event_causes.proofs.Cappers.{walk-ended, walk-found}
use Rattle.event_causes.proofs.cause.next_reported.Goals as goal

pub returns-then-is_some : goal.returns-then-is_some
returns-then-is_some c =
    let now = rw (c.in-Some.ensures.steps, c.if-behind.true) at c.loop-event.invariant in
    walk-found c.args.trains.now c.args.at.now c.in-Some.event c.next.new.self c.requires now c.if-event.true (sym c.is_some.ensures ∙ c.if-is_some.true)

pub returns : goal.returns
returns c = walk-ended c.args.trains.now c.args.at.now c.loop-event.behind c.requires (rw c.in-None.ensures.steps.0 at c.loop-event.invariant)
