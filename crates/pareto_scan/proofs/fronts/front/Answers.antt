use Rattle.std.proofs.Common.{◌∙◌, ◌<◌, ◌≤◌, All, List, ap, length, subst, sym, arith}
use Rattle.std.proofs.lemmas.List.{with_items_is}
use Rattle.pareto_scan.specs.Levels.{HasLevelRoom}
use Rattle.pareto_scan.specs.declared.level.Level.{Level}
use Rattle.pareto_scan.proofs.fronts.front.Goals as goal

pub invariant_of-scratch : goal.invariant_of-scratch
invariant_of-scratch c =
    let inv = c.scratch.invariant in
    let keeps = c.find.ensures.room in
    let old = c.deref_mut.ensures.value in
    let size = keeps.count ∙ ap length old in
    let now = sym (with_items_is c.scratch.inside.levels c.find.new.levels (keeps.count ∙ c.deref_mut.ensures.len)) in
    record {
      some = subst (λ (levels : List Level). 0 < length levels) now (omega (arith, size, inv.some));
      few = subst (λ (levels : List Level). length levels ≤ 9) now (omega (arith, size, inv.few));
      levels = subst (All (HasLevelRoom c.scratch.inside.stops)) now (keeps.rows c.scratch.inside.stops (subst (All (HasLevelRoom c.scratch.inside.stops)) (sym old) inv.levels));
      riders = omega (arith, c.find.ensures.riders, inv.riders);
      numbers = omega (arith, c.find.ensures.riders, inv.numbers);
    }
