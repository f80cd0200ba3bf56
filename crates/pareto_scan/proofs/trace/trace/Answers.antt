use Rattle.conn_scan.proofs.Words.{◌≡◌, ◌-◌, ◌++◌, ◌∷◌, [], Some, reverse, sym, ◌∙◌, ap, subst, arith, append-nil, append_assoc, ride_before}
use Rattle.conn_scan.specs.Ways.{AreReadable}
use Rattle.pareto_scan.specs.Traced.{access_at, way_back}
use Rattle.pareto_scan.specs.declared.level.Level.{Level}
use Rattle.pareto_scan.proofs.LevelLists.{level-same}
use Rattle.pareto_scan.proofs.WaySteps.{way-none, way-step, way-stops}
use Rattle.pareto_scan.proofs.trace.trace.Goals as goal
use Rattle.pareto_scan.proofs.trace.trace.Goals.{else-loop-level-test, then-loop-level-test+in_default}

pub ride_before-requires : goal.ride_before-requires
ride_before-requires c =
    let vs = c.args.levels.now in
    let n = c.loop-level.level in
    subst (λ (v : Level). AreReadable c.args.trains.now c.args.order.now v.openings)
    (sym (level-same vs n c.index-levels-level.result (omega (arith, c.loop-level.invariant.few, c.requires.levels)))) (c.requires.readable n)

pub loop-level-preserved : goal.loop-level-preserved
loop-level-preserved c =
    let st = c.args.trains.now in
    let o = c.args.order.now in
    let vs = c.args.levels.now in
    let n = c.loop-level.level in
    let inv = c.loop-level.invariant in
    let same = level-same vs n c.index-levels-level.result (omega (arith, inv.few, c.requires.levels)) in
    let at : ride_before (access_at st o vs n) c.loop-level.next ≡ Some c.in-Some.earlier = grind (arith, same, c.ride_before.ensures, c.in-Some.is) in
    let step = way-step st o vs n c.loop-level.next c.in-Some.earlier (omega (arith, c.loop-level-test.true)) at in
    let back = way_back st o vs (n - 1) c.in-Some.earlier in
    record {
      rest = ap (λ rides. rides ++ back) c.in_ok-push-2.ensures.items
          ∙ append_assoc c.loop-level.rides.items (c.in-Some.earlier ∷ []) back ∙ ap (λ way. c.loop-level.rides.items ++ way) (sym step) ∙ inv.rest;
      few = omega (arith, inv.few);
    }

pub returns : goal.returns
returns c =
    let st = c.args.trains.now in
    let o = c.args.order.now in
    let vs = c.args.levels.now in
    let n = c.loop-level.level in
    let inv = c.loop-level.invariant in
    let ends : way_back st o vs n c.loop-level.next ≡ [] = elim c.loop-level-test.branch [
      | else-loop-level-test w ↦ way-none st o vs n c.loop-level.next (omega (arith, w.loop-level-test))
      | then-loop-level-test+in_default w ↦
          let same = level-same vs n w.index-levels-level.result (omega (arith, inv.few, c.requires.levels)) in
          way-stops st o vs n c.loop-level.next (grind (arith, same, w.ride_before.ensures, w.in_default.is))
    ] in
    c.reverse.ensures.items ∙ ap reverse (sym (append-nil c.loop-level.rides.items) ∙ ap (λ way. c.loop-level.rides.items ++ way) (sym ends) ∙ inv.rest)
