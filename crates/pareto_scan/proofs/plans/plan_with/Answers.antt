use Rattle.conn_scan.proofs.Words.{◌+◌, sym, ◌∙◌, ap, arith}
use Rattle.pareto_scan.specs.declared.level.Level.{Level}
use Rattle.pareto_scan.proofs.LevelLists.{level-same}
use Rattle.pareto_scan.proofs.plans.plan_with.Goals as goal

pub trace-requires-clause-last : goal.trace-requires-clause-last
trace-requires-clause-last c =
    let vs = c.args.levels.now in
    let n = c.args.before + 1 in
    c.requires.ends n c.in-Some.ending (ap (λ (v : Level). v.best) (sym (level-same vs n c.index-levels-before.result (omega (arith, c.requires.before)))) ∙ c.in-Some.is)
