use Rattle.conn_scan.proofs.Words.{◌≡◌, ◌∷◌, List, nat_eq, true, false, length, sym, ◌∙◌, ap, subst, arith, All, All-head, All-tail, cond-false, cond-true, eq-eqb, ne_eqb, Leaving, IsWithin}
use Rattle.pareto_scan.specs.Levels.{top_at}
use Rattle.pareto_scan.specs.Ridden.{Ridden, departed, known, scanned}
use Rattle.pareto_scan.proofs.LevelLists.{riders-departed, rows-then}
use Rattle.pareto_scan.proofs.PassedOver.{from-all, from-few, rows-within, scanned-from}
use Rattle.pareto_scan.proofs.scan.scan.Goals as goal

pub next_ridden-requires-clause-rows : goal.next_ridden-requires-clause-rows
next_ridden-requires-clause-rows c =
    let inv = c.loop-d.invariant in
    let stops = length c.args.changes.now.stops in
    rows-within stops (length c.args.order.now.entries) (known c.loop-d.levels c.loop-d.riders) c.loop-d.departures
    inv.within (inv.keeps.rows stops c.requires.room) (omega arith)

pub depart-bound-requires-clause-room : goal.depart-bound-requires-clause-room
depart-bound-requires-clause-room c = c.loop-d.invariant.keeps.rows (length c.args.changes.now.stops) c.requires.room

pub depart-bound-requires-clause-within : goal.depart-bound-requires-clause-within
depart-bound-requires-clause-within c =
    let s = known c.loop-d.levels c.loop-d.riders in
    let one = IsWithin (length c.args.changes.now.stops) (length c.args.order.now.entries) in
    let fits = All-head one c.in-Some.d c.next_ridden.new.departures (subst (All one) c.in-Some.ensures.some (from-all c.loop-d.bound.top s one c.loop-d.departures c.loop-d.invariant.within)) in
    record { number = omega (arith, fits.number); next = omega (arith, fits.next); stop = fits.stop }

pub returns-then-bound-eq0-clause-levels : goal.returns-then-bound-eq0-clause-levels
returns-then-bound-eq0-clause-levels c =
    let t = c.args.changes.now in
    let q = c.args.asked.now.query in
    let s = known c.loop-d.levels c.loop-d.riders in
    let top = c.loop-d.bound.top in
    let now = top_at c.loop-d.levels c.in-Some.d.time top in
    let over : nat_eq now 0 ≡ true = eq-eqb now 0 (sym c.lowered-bound.ensures.top ∙ c.if-bound-eq0.true) in
    ap (λ (r : Ridden). r.levels) (sym (cond-true (nat_eq now 0) s _ over)
    ∙ ap (λ ds. scanned t q top ds s) (sym c.in-Some.ensures.some) ∙ scanned-from t q top s c.loop-d.departures ∙ c.loop-d.invariant.rest)

pub returns-clause-levels : goal.returns-clause-levels
returns-clause-levels c =
    let t = c.args.changes.now in
    let q = c.args.asked.now.query in
    let s = known c.loop-d.levels c.loop-d.riders in
    let top = c.loop-d.bound.top in
    ap (λ (r : Ridden). r.levels) (ap (λ ds. scanned t q top ds s) (sym c.in_default.ensures.none) ∙ scanned-from t q top s c.loop-d.departures ∙ c.loop-d.invariant.rest)

pub loop-d-smaller : goal.loop-d-smaller
loop-d-smaller c = omega (arith, from-few c.loop-d.bound.top (known c.loop-d.levels c.loop-d.riders) c.loop-d.departures, ap (λ (ds : List Leaving). length ds) c.in-Some.ensures.some)

pub loop-d-preserved : goal.loop-d-preserved
loop-d-preserved c =
    let t = c.args.changes.now in
    let q = c.args.asked.now.query in
    let d = c.in-Some.d in
    let vs = c.loop-d.levels in
    let s = known vs c.loop-d.riders in
    let top = c.loop-d.bound.top in
    let inv = c.loop-d.invariant in
    let rest = c.next_ridden.new.departures in
    let one = IsWithin (length t.stops) (length c.args.order.now.entries) in
    let now = top_at vs d.time top in
    let same : c.lowered-bound.result.top ≡ now = c.lowered-bound.ensures.top in
    let live : nat_eq now 0 ≡ false = ne_eqb now 0 (λ none. c.if-bound-eq0.false (same ∙ none)) in
    let step : scanned t q top (d ∷ rest) s ≡ scanned t q now rest (departed t q now d s) = cond-false (nat_eq now 0) s (scanned t q now rest (departed t q now d s)) live in
    record {
      rest = (λ i. scanned t q (c.depart-bound.ensures.top i) rest (known (c.depart-bound.ensures.levels i) (c.depart-bound.ensures.riders i)))
          ∙ ap (λ n. scanned t q n rest (departed t q n d s)) same
          ∙ sym step
          ∙ ap (λ ds. scanned t q top ds s) (sym c.in-Some.ensures.some)
          ∙ scanned-from t q top s c.loop-d.departures
          ∙ inv.rest;
      within = All-tail one d rest (subst (All one) c.in-Some.ensures.some (from-all top s one c.loop-d.departures inv.within));
      keeps = rows-then c.args.levels.now vs c.depart-bound.new.levels inv.keeps c.depart-bound.ensures.room;
      riders = ap length c.depart-bound.ensures.riders ∙ riders-departed t q c.lowered-bound.result.top d s ∙ inv.riders;
      bound = c.depart-bound.ensures.bound;
    }
