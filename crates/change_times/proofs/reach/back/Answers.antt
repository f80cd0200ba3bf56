use Rattle.change_times.proofs.Words.{rules, ◌≡◌, ◌∙◌, ◌++◌, ◌∷◌, [], length, get_or, ap, sym, arith, reached_back}
use Rattle.change_times.proofs.CountLemmas.{lists-more, back-all}
use Rattle.change_times.proofs.reach.back.Goals as goal

pub loop-number-preserved : goal.loop-number-preserved
loop-number-preserved c =
    let list = reached_back c.args.table.now in
    let e : c.push.new.self ≡ c.loop-number.lists ++ list c.loop-number.number ∷ [] = search rules in
    e ∙ ap (λ lists. lists ++ list c.loop-number.number ∷ []) c.loop-number.invariant ∙ sym (lists-more list c.loop-number.number)

pub returns : goal.returns
returns c b =
    let t = c.args.table.now in
    let end : c.loop-number.number ≡ length t.stops = omega (arith, c.len-number-end.ensures, ap length c.places.ensures.places) in
    ap (λ lists. get_or lists b []) c.loop-number.invariant ∙ back-all t c.loop-number.number b end
