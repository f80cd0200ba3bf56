use Rattle.std.proofs.Common.{◌∙◌, ◌<◌, ap, subst, sym, get_or, length}
use Rattle.query_crew.specs.Joining.{IsSameBehind}
use Rattle.query_crew.proofs.Joins.{same-behind}
use Rattle.std.proofs.lemmas.List.{get_or_default}
use Rattle.query_crew.proofs.Putting.{at-put}
use Rattle.query_crew.proofs.Keeping.{all-kept, put-kept}
use Rattle.query_crew.proofs.joining.take_answer.Goals as goal

pub returns-in-Query-clause-others : goal.returns-in-Query-clause-others
returns-in-Query-clause-others g c = λ k d l.
    let all = c.args.all.now in
    let me = c.worker-me.result in
    let x = c.index-all-me.result in
    let y = c.take_entry.new.worker in
    let less : me < length all = c.worker-me.ensures.below in
    at-put (λ z. IsSameBehind c.args.place (get_or all k d).answers.items z.answers.items) all me k y d less
    (λ e. subst (λ z. IsSameBehind c.args.place z.answers.items y.answers.items) (get_or_default all me x d less ∙ ap (λ i. get_or all i d) (sym e)) c.take_entry.ensures.others)
    (λ ne. same-behind c.args.place (get_or all k d).answers.items)

pub returns-in-Query-clause-kept : goal.returns-in-Query-clause-kept
returns-in-Query-clause-kept g c =
    let all = c.args.all.now in
    put-kept all all c.worker-me.result c.index-all-me.result c.take_entry.new.worker (all-kept all) c.worker-me.ensures.below c.take_entry.ensures.kept
