use Rattle.change_times.proofs.Words.{rules, ◌≡◌, ◌∙◌, ◌+◌, ◌++◌, ◌∷◌, [], length, get_or, refl, ap, sym, arith, cond, is_stop_or_station, Onward, listed}
use Rattle.change_times.proofs.CountLemmas.{lists-more, onward-all, counted, counted-next, counted-below, counted-all}
use Rattle.change_times.proofs.reach.onward.Goals as goal

pub returns-then-count-gt-MOST_PAIRS-clause-many : goal.returns-then-count-gt-MOST_PAIRS-clause-many
returns-then-count-gt-MOST_PAIRS-clause-many c _ =
    let t = c.args.table.now in
    let n = c.loop-number.number in
    let e : c.pairs_from-count.result ≡ cond (is_stop_or_station t.stops n) (length (listed t Onward n)) 0 = search rules in
    let next = counted-next t n (is_stop_or_station t.stops n) refl in
    let whole = counted-below t (n + 1) (length t.stops) (omega (arith, c.len-number-end.ensures, ap length c.places.ensures.places)) in
    omega (arith, e, next, whole, counted-all t)

pub loop-number-preserved : goal.loop-number-preserved
loop-number-preserved c =
    let t = c.args.table.now in
    let n = c.loop-number.number in
    let e : c.push.new.self ≡ c.loop-number.lists ++ listed t Onward n ∷ [] = search rules in
    let p : c.pairs_from-count.result ≡ cond (is_stop_or_station t.stops n) (length (listed t Onward n)) 0 = search rules in
    let next = counted-next t n (is_stop_or_station t.stops n) refl in
    record {
      lists = e ∙ ap (λ lists. lists ++ listed t Onward n ∷ []) c.loop-number.invariant.lists ∙ sym (lists-more (listed t Onward) n);
      count = omega (arith, p, next);
      few = omega arith;
    }

pub returns-clause-lists : goal.returns-clause-lists
returns-clause-lists c a =
    let t = c.args.table.now in
    let end : c.loop-number.number ≡ length t.stops = omega (arith, c.len-number-end.ensures, ap length c.places.ensures.places) in
    ap (λ lists. get_or lists a []) c.loop-number.invariant.lists ∙ onward-all t c.loop-number.number a c.places.ensures.kept end

pub returns-clause-limit : goal.returns-clause-limit
returns-clause-limit c =
    let t = c.args.table.now in
    let end : c.loop-number.number ≡ length t.stops = omega (arith, c.len-number-end.ensures, ap length c.places.ensures.places) in
    let whole = ap (counted t) end ∙ counted-all t in
    omega (arith, whole)
