use Rattle.change_times.proofs.Words.{rules, ◌≡◌, ◌∙◌, ◌++◌, ◌∷◌, [], map, length, sym, ap, arith, map-range_with_len_more, IfOk-weaker, range_with_len, IsPermutation, member, HaveMembers}
use Rattle.change_times.proofs.NearLemmas.{have-members}
use Rattle.change_times.proofs.near.members.Goals as goal

pub loop-number-preserved : goal.loop-number-preserved
loop-number-preserved c =
    let stops = c.args.places.now in
    let e : c.push.new.self.items ≡ c.loop-number.links.items ++ member stops c.loop-number.number ∷ [] = search rules in
    e ∙ ap (λ xs. xs ++ member stops c.loop-number.number ∷ []) c.loop-number.invariant
    ∙ sym (map-range_with_len_more (member stops) 0 c.loop-number.number c.loop-number.number (omega arith))

pub returns : goal.returns
returns c =
    let stops = c.args.places.now in
    let end : c.loop-number.number ≡ length stops = omega arith in
    let made = c.loop-number.invariant ∙ ap (λ n. map (member stops) (range_with_len 0 n)) end in
    IfOk-weaker c.build.result (IsPermutation c.loop-number.links.items) (HaveMembers stops) (λ links moved. have-members stops c.loop-number.links.items links made moved) c.build.ensures
