use Rattle.std.proofs.Common.{◌∙◌, map, refl, sym, ap}
use Rattle.std.proofs.lemmas.Result.{err_from_is_err_and}
use Rattle.gtfs_tables.proofs.FeedLemmas.{stops-at}
use Rattle.waiting_rules.specs.WaitTable.{WaitTable, parent_station}
use Rattle.feed_load.specs.Loaded.{few_pairs}
use Rattle.feed_load.proofs.AtStops.{same-kinds}
use Rattle.feed_load.proofs.LoadedDays.{parents-without-ids}
use Rattle.feed_load.proofs.load.load_tables.Goals as goal

pub returns-in_err-changes-clause-found : goal.returns-in_err-changes-clause-found
returns-in_err-changes-clause-found c =
    let p = err_from_is_err_and c.from_residual.result c.from_residual.ensures.1 in
    rw (p.1, p.2) (stops-at c.in_err-changes.field-0.0 (few_pairs c.args.t.now c.args.opts.now) _ c.in_err-changes.ensures.few)

pub returns-in_err-waits-clause-found : goal.returns-in_err-waits-clause-found
returns-in_err-waits-clause-found c =
    let p = err_from_is_err_and c.from_residual-in_err-waits.result c.from_residual-in_err-waits.ensures.1 in
    rw (p.1, p.2) tt

pub returns-in_err-trains-clause-found : goal.returns-in_err-trains-clause-found
returns-in_err-trains-clause-found c =
    let p = err_from_is_err_and c.from_residual-in_err-trains.result c.from_residual-in_err-trains.ensures.1 in
    rw (p.1, p.2, c.in_ok-changes.ensures.few) c.in_err-trains.ensures.found

pub returns-clause-found : goal.returns-clause-found
returns-clause-found c = rw c.in_ok-changes.ensures.few c.in_ok-trains.ensures.found

pub returns-clause-parents : goal.returns-clause-parents
returns-clause-parents c =
    ap (λ (w : WaitTable). w.parents) c.in_ok-waits.ensures ∙ sym (parents-without-ids c.args.t.now.stops) ∙ sym (ap (map parent_station) c.in_ok-changes.ensures.same.stops)

pub returns-clause-valid : goal.returns-clause-valid
returns-clause-valid c = c.in_ok-trains.ensures.valid _ refl

pub returns-clause-stops : goal.returns-clause-stops
returns-clause-stops c =
    same-kinds c.args.t.now.stops _ _ c.in_ok-changes.ensures.same.kind c.in_ok-trains.ensures.stops
