-- The ranges of the options.
use Rattle.std.specs.Prelude.{◌≤◌}
use Rattle.mt_base.specs.declared.options.Opts.{Opts}

-- every option is in its range: the slack in per cent, the stop, the change and the window in
-- seconds, the rest as counts
pub record IsInRange (o : Opts) : Type 0 where
  pub slack : o.slack ≤ 50
  pub stop : o.stop ≤ 3600
  pub change_least : 1 ≤ o.change
  pub change : o.change ≤ 3600
  pub window : o.window ≤ 3600
  pub spare_trains : o.spare_trains ≤ 2000
  pub spare_calls : o.spare_calls ≤ 40000
  pub overrides : o.overrides ≤ 100000
