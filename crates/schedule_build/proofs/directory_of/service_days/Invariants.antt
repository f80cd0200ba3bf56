use Rattle.schedule_build.proofs.Words.{◌≡◌, ◌≤◌, ◌-◌, ◌++◌, All, length, days_from}
use Rattle.schedule_build.specs.declared.service_day.ServiceDay.{ServiceDay}
use Rattle.schedule_build.proofs.directory_of.service_days.Given as goal

-- the days so far, and those that are left
abbrev pub invariant-loop-day : goal.invariant-loop-day
invariant-loop-day l = record {
  days : l.all.items ++ days_from l.first l.bases l.day (l.days - l.day) ≡ days_from l.first l.bases 0 l.days;
  count : length l.all.items ≡ l.day;
  bases : All (λ (d : ServiceDay). d.base ≤ 2808000) l.all.items;
}
