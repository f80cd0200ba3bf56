use Rattle.std.proofs.Common.{length}
use Rattle.std.proofs.lemmas.List.Elements.{All-weaker}
use Rattle.mt_base.specs.declared.places.PlaceKind.TheVariants.{Platform}
use Rattle.mt_base.specs.declared.tables.CallRow.{CallRow}
use Rattle.feed_tables.specs.Lawful.{HasKind, IsCall}
use Rattle.schedule_build.specs.Runs.{all_runs}
use Rattle.feed_load.proofs.AtStops.{schedule-at-stops}
use Rattle.feed_load.proofs.load.schedules_call_at_stops.Goals as goal

pub returns : goal.returns
returns c =
    let t = c.args.t.now in
    schedule-at-stops t.stops t.calls (all_runs t c.args.first c.args.days c.args.bases.now) c.args.opts.now
    (All-weaker (IsCall t.stops (length t.trips)) (λ (r : CallRow). HasKind t.stops Platform r.stop) (λ r call. call.stop) t.calls c.tables.ensures.lawful.calls)
