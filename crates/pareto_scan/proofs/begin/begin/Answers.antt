use Rattle.conn_scan.proofs.Words.{◌≡◌, ◌+◌, nat_lt, suc, get_or, length, set, sym, ◌∙◌, ap, subst, arith, All-get_or}
use Rattle.pareto_scan.specs.Levels.{begun_level, blank_level, has_more, level_at, HasLevelRoom, KeepsRoom}
use Rattle.pareto_scan.proofs.BegunLevels.{begun-all, begun-left, begun-next, begun_some, length-begun}
use Rattle.pareto_scan.proofs.LevelLists.{keeps-begun, level-same, more-tested}
use Rattle.pareto_scan.proofs.begin.begin.Goals as goal

pub begin_level-requires-clause-room : goal.begin_level-requires-clause-room
begin_level-requires-clause-room c =
    let t = c.args.changes.now in
    let q = c.args.asked.now.query in
    let old = c.args.levels.now in
    let n = c.loop-rides.rides in
    let inv = c.loop-rides.invariant in
    let size = ap length inv ∙ length-begun t q n old in
    let same = level-same c.loop-rides.levels n c.index-levels-rides.result (omega (arith, size, c.loop-rides-test.true)) in
    subst (HasLevelRoom (length t.stops)) (sym (same ∙ ap (λ vs. level_at vs n) inv ∙ begun-left t q n n old (omega arith)))
    (All-get_or (HasLevelRoom (length t.stops)) old n blank_level (omega (arith, c.loop-rides-test.true)) c.requires.room)

pub loop-rides-preserved : goal.loop-rides-preserved
loop-rides-preserved c =
    let t = c.args.changes.now in
    let q = c.args.asked.now.query in
    let old = c.args.levels.now in
    let vs = c.loop-rides.levels in
    let n = c.loop-rides.rides in
    let inv = c.loop-rides.invariant in
    let size = ap length inv ∙ length-begun t q n old in
    let same = level-same vs n c.index-levels-rides.result (omega (arith, size, c.loop-rides-test.true)) in
    let more : suc n ≡ n + 1 = omega arith in
    let tested = ap (λ m. nat_lt (n + 1) m) size ∙ more-tested old n in
    ap (λ v. set vs n v) (c.begin_level.ensures ∙ ap (λ b. begun_level t q b (get_or vs n c.index-levels-rides.result)) tested ∙ ap (begun_level t q (has_more old n)) same)
    ∙ ap (λ vs. set vs n (begun_level t q (has_more old n) (level_at vs n))) inv
    ∙ begun-next t q n old (omega (arith, c.loop-rides-test.true))
    ∙ ap (λ k. begun_some t q k old) more

pub returns-clause-levels : goal.returns-clause-levels
returns-clause-levels c = c.loop-rides.invariant ∙ begun-all c.args.changes.now c.args.asked.now.query c.loop-rides.rides c.args.levels.now (omega (arith, c.loop-rides-test.false))

pub returns-clause-room : goal.returns-clause-room
returns-clause-room c =
    subst (KeepsRoom c.args.levels.now) (sym (c.loop-rides.invariant
    ∙ begun-all c.args.changes.now c.args.asked.now.query c.loop-rides.rides c.args.levels.now (omega (arith, c.loop-rides-test.false))))
    (keeps-begun c.args.changes.now c.args.asked.now.query c.args.levels.now)
