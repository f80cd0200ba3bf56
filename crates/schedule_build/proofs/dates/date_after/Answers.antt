use Rattle.schedule_build.proofs.Words.{add-one, ◌≡◌, refl, arith}
use Rattle.schedule_build.specs.Dates.{date_after}
use Rattle.schedule_build.proofs.DateLemmas.{after-law}
use Rattle.schedule_build.proofs.dates.date_after.Goals as goal

pub loop-day-init : goal.loop-day-init
unfolding date_after
loop-day-init c = refl

pub next-date-requires : goal.next-date-requires
next-date-requires c = rw c.loop-day.invariant (after-law c.args.first c.loop-day._day c.requires.civil (omega (arith, c.requires.year, c.requires.few, c.loop-day-test.true))).civil

pub loop-day-preserved : goal.loop-day-preserved
unfolding date_after
loop-day-preserved c = rw (c.next-date.ensures, c.loop-day.invariant, add-one c.loop-day._day) refl

walked : (c : goal.After-loop-day) → c.loop-day.date ≡ date_after c.args.first c.args.days
walked c = let e : c.loop-day._day ≡ c.args.days = omega (arith, c.loop-day-test.false, c.loop-day.auto._day-end) in rw (c.loop-day.invariant, e) refl

pub returns-clause-date : goal.returns-clause-date
returns-clause-date c = walked c

pub returns-clause-civil : goal.returns-clause-civil
returns-clause-civil c = rw (walked c) (after-law c.args.first c.args.days c.requires.civil (omega (arith, c.requires.year, c.requires.few))).civil

pub returns-clause-number : goal.returns-clause-number
returns-clause-number c = rw (walked c) (after-law c.args.first c.args.days c.requires.civil (omega (arith, c.requires.year, c.requires.few))).number
