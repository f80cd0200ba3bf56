use Rattle.conn_scan.proofs.Words.{◌≡◌, ◌<◌, ◌+◌, nat_lt, suc, true, false, get_or, length, set, sym, ◌∙◌, ap, subst, arith, is_by}
use Rattle.pareto_scan.specs.Levels.{arrived, arrived_from, has_more, level_at, KeepsRoom}
use Rattle.pareto_scan.proofs.LevelLists.{from-ends, from-next, from-past, keeps-set, level-same, more-tested, room-arrived, rows-then}
use Rattle.pareto_scan.proofs.level.arrive_from.Goals as goal

pub loop-taken-preserved : goal.loop-taken-preserved
loop-taken-preserved c =
    let t = c.args.changes.now in
    let q = c.args.asked.now.query in
    let d = c.args.d.now in
    let r = c.args.ride.now in
    let vs = c.loop-taken.levels in
    let n = c.loop-taken.taken in
    let inv = c.loop-taken.invariant in
    let within : n < length vs = omega (arith, c.loop-taken-test.true) in
    let row = level-same vs n c.index-levels-taken.result within in
    let late : is_by (level_at vs n).held d.to d.arrival ≡ false = grind (arith, row, c.is_by.ensures, c.if-not-is_by.true) in
    let more : nat_lt (n + 1) (length vs) ≡ has_more vs n = more-tested vs n in
    let now : c.arrive.new.level ≡ arrived t q d r (has_more vs n) (level_at vs n) =
    c.arrive.ensures ∙ ap (λ b. arrived t q d r b (get_or vs n c.index-levels-taken-in-loop-taken.result)) more
    ∙ ap (arrived t q d r (has_more vs n)) (level-same vs n c.index-levels-taken-in-loop-taken.result within) in
    let next : n + 1 ≡ suc n = omega arith in
    let keeps = subst (λ v. KeepsRoom vs (set vs n v)) (sym now)
    (keeps-set vs n (arrived t q d r (has_more vs n) (level_at vs n)) (λ stops room. room-arrived t q d r stops (has_more vs n) (level_at vs n) room)) in
    record {
      rest = ap (λ v. arrived_from (n + 1) t q d r (set vs n v)) now
          ∙ ap (λ k. arrived_from k t q d r (set vs n (arrived t q d r (has_more vs n) (level_at vs n)))) next ∙ from-next t q d r n vs within late ∙ inv.rest;
      keeps = rows-then c.args.levels.now vs (set vs n c.arrive.new.level) inv.keeps keeps;
      rows = keeps.rows (length t.stops) inv.rows;
    }

pub returns-else-not-is_by-clause-arrived : goal.returns-else-not-is_by-clause-arrived
returns-else-not-is_by-clause-arrived c =
    let d = c.args.d.now in
    let vs = c.loop-taken.levels in
    let n = c.loop-taken.taken in
    let within : n < length vs = omega (arith, c.loop-taken-test.true) in
    let row = level-same vs n c.index-levels-taken.result within in
    let by : is_by (level_at vs n).held d.to d.arrival ≡ true = grind (arith, row, c.is_by.ensures, c.if-not-is_by.false) in
    sym (from-ends c.args.changes.now c.args.asked.now.query d c.args.ride.now n vs by) ∙ c.loop-taken.invariant.rest

pub returns-after-loop-taken-clause-arrived : goal.returns-after-loop-taken-clause-arrived
returns-after-loop-taken-clause-arrived c =
    let vs = c.loop-taken.levels in
    let n = c.loop-taken.taken in
    sym (from-past c.args.changes.now c.args.asked.now.query c.args.d.now c.args.ride.now n vs (omega (arith, c.loop-taken-test.false))) ∙ c.loop-taken.invariant.rest
