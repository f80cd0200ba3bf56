use Rattle.schedule_build.proofs.Words.{◌≡◌, drop, day_named, number_from, nat_eq}
use Rattle.schedule_build.specs.declared.service_day.ServiceDay.{ServiceDay}
use Rattle.schedule_build.proofs.directory.Directory.day.Given as goal

-- the day is among those that are left
abbrev pub invariant-loop-day : goal.invariant-loop-day
invariant-loop-day l = day_named l.fn.self l.date ≡ number_from l.day (λ (d : ServiceDay). nat_eq d.date l.date) (drop l.day l.self-inside.days.items)
