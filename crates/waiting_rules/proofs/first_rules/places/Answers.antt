use Rattle.waiting_rules.proofs.Words.{◌≡◌, ◌+◌, ◌++◌, ◌∷◌, [], take, sym, ◌∙◌, ap, arith}
use Rattle.std.proofs.Common.{add-one}
use Rattle.std.proofs.Math.Seq.{take-suc}
use Rattle.std.proofs.lemmas.List.{length-take-le}
use Rattle.waiting_rules.proofs.first_rules.places.Goals as goal

pub loop-place-preserved : goal.loop-place-preserved
loop-place-preserved c =
    let i = c.loop-place.place in
    let all = c.args.rules.now in
    let rule = c.index-rules-place.result in
    let more : take (i + 1) all ≡ take i all ++ rule ∷ [] =
    ap (λ n. take n all) (add-one i) ∙ take-suc all i rule c.loop-place-test.true ∙ ap (λ r. take i all ++ r ∷ []) (sym c.index-rules-place.is)
    in
    record {
      places = rw more (c.in_ok-add_place.ensures.places (take i all) (sym (length-take-le i all (omega arith))) c.loop-place.invariant.places);
      few = omega (arith, c.in_ok-add_place.ensures.few, c.loop-place.invariant.few);
    }
