use Rattle.schedule_build.proofs.Words.{◌≡◌, ◌≤◌, ◌+◌, ◌-◌, suc, arith, append_assoc, common_steps, elements}
use Rattle.schedule_build.proofs.BaseLemmas.{base-bound}
use Rattle.schedule_build.specs.Bases.{base_at}
use Rattle.schedule_build.proofs.directory_of.service_days.Goals as goal

pub loop-day-preserved : goal.loop-day-preserved
loop-day-preserved c =
    let step : c.args.days - c.loop-day.day ≡ suc (c.args.days - (c.loop-day.day + 1)) = omega arith in
    let small : base_at c.args.bases.now c.loop-day.day ≤ 2808000 = base-bound c.args.days c.args.bases.now c.requires.bases c.requires.few c.loop-day.day in
    record {
      days = rw (c.in_ok-push.ensures.items, c.service_day.ensures, append_assoc) (rw step at c.loop-day.invariant.days);
      count = grind (arith, common_steps, c.in_ok-push.ensures.items, c.loop-day.invariant.count);
      bases = rw (c.in_ok-push.ensures.items, c.service_day.ensures) (grind (arith, elements, c.loop-day.invariant.bases, small));
    }
