use Rattle.std.proofs.Common.{length, drop, refl, ◌<◌}
use Rattle.std.proofs.lemmas.List.{drop_all}
use Rattle.journey_watch.specs.declared.watched.Watched.{Watched}
use Rattle.journey_watch.proofs.WatchLemmas.{all-get, all-renewed, all-told, begins, cost-so-far, none-more, one-more}
use Rattle.journey_watch.proofs.watch.renew_all.Goals as goal
use Rattle.journey_watch.proofs.watch.renew_all.Goals.{in-Some+in_ok-push, in_default}

pub renew_at-requires : goal.renew_at-requires
renew_at-requires g c = record { few = all-get (λ (w : Watched). length w.rides < 4294967296) c.loop-place.journeys.items c.loop-place.invariant.few }

pub loop-place-init : goal.loop-place-init
loop-place-init g c =
    begins c.args.t.now.network c.args.t.now.state c.args.t.now.changed c.args.trains.now c.args.due.now c.args.journeys.now.items c.new-alerts.result.items c.args.steps.now
    c.requires.due c.requires.kept c.requires.few c.new-alerts.ensures.items

pub loop-place-preserved : goal.loop-place-preserved
loop-place-preserved g c =
    let nw = c.args.t.now.network in
    let st = c.args.t.now.state in
    elim c.match-renew_at.branch [
      | in-Some+in_ok-push w ↦
          rw w.alerts-is (one-more nw st c.args.t.now.changed c.args.trains.now c.args.due.now c.args.journeys.now.items c.requires.due
          c.loop-place.journeys.items c.loop-place.alerts.items c.loop-place.place-index
          c.loop-place-test.true c.args.steps.now c.loop-place.steps c.loop-place.invariant c.renew_at.new.journeys.items c.renew_at.new.steps c.renew_at.ensures.cost
          w.in-Some.alert w.in-Some.ensures.told w.in-Some.ensures.renewed w.push.new.self.items w.in_ok-push.ensures.items)
      | in_default w ↦
          rw w.alerts-is (none-more nw st c.args.t.now.changed c.args.trains.now c.args.due.now c.args.journeys.now.items c.requires.due
          c.loop-place.journeys.items c.loop-place.alerts.items c.loop-place.place-index
          c.loop-place-test.true c.args.steps.now c.loop-place.steps c.loop-place.invariant c.renew_at.new.journeys.items c.renew_at.new.steps c.renew_at.ensures.cost
          w.in_default.ensures.told w.in_default.ensures.kept)
    ]

pub returns-in_err-push-clause-rides : goal.returns-in_err-push-clause-rides
returns-in_err-push-clause-rides g c =
    let more = one-more c.args.t.now.network c.args.t.now.state c.args.t.now.changed c.args.trains.now c.args.due.now c.args.journeys.now.items c.requires.due
    c.loop-place.journeys.items c.loop-place.alerts.items c.loop-place.place-index
    c.loop-place-test.true c.args.steps.now c.loop-place.steps c.loop-place.invariant c.renew_at.new.journeys.items c.renew_at.new.steps c.renew_at.ensures.cost
    c.in-Some.alert c.in-Some.ensures.told c.in-Some.ensures.renewed _ refl in
    more.rides

pub returns-in_err-push-clause-cost : goal.returns-in_err-push-clause-cost
returns-in_err-push-clause-cost g c =
    let more = one-more c.args.t.now.network c.args.t.now.state c.args.t.now.changed c.args.trains.now c.args.due.now c.args.journeys.now.items c.requires.due
    c.loop-place.journeys.items c.loop-place.alerts.items c.loop-place.place-index
    c.loop-place-test.true c.args.steps.now c.loop-place.steps c.loop-place.invariant c.renew_at.new.journeys.items c.renew_at.new.steps c.renew_at.ensures.cost
    c.in-Some.alert c.in-Some.ensures.told c.in-Some.ensures.renewed _ refl in
    cost-so-far _ _ _ _ _ _ _ _ _ _ more

pub returns-clause-alerts : goal.returns-clause-alerts
returns-clause-alerts g c =
    all-told c.args.t.now.network c.args.t.now.state c.args.t.now.changed c.args.trains.now c.args.journeys.now.items c.loop-place.journeys.items c.loop-place.alerts.items
    (drop c.loop-place.place-index c.args.due.now) c.args.steps.now c.loop-place.steps c.loop-place.invariant (drop_all c.loop-place.place-index c.args.due.now c.loop-place-test.false)

pub returns-clause-renewed : goal.returns-clause-renewed
returns-clause-renewed g c =
    all-renewed c.args.t.now.network c.args.t.now.state c.args.t.now.changed c.args.trains.now c.args.journeys.now.items c.loop-place.journeys.items c.loop-place.alerts.items
    (drop c.loop-place.place-index c.args.due.now) c.args.steps.now c.loop-place.steps c.loop-place.invariant (drop_all c.loop-place.place-index c.args.due.now c.loop-place-test.false)
